use Rattle.std.proofs.Common.{◌≡◌, map, take, string_bytes}
use Rattle.mk_world.specs.Places.{place_among}
use Rattle.mk_world.proofs.places.places_of.Given as goal

-- the places of the files so far
abbrev pub invariant-loop-file : goal.invariant-loop-file
invariant-loop-file l = l.places.items ≡ map (place_among l.disk.names) (map string_bytes (take l.file-index l.files))
