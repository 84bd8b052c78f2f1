use Rattle.std.proofs.Common.{◌≡◌, map, take}
use Rattle.mk_world.specs.Places.{content_at}
use Rattle.mk_world.proofs.disk.Disk.contents_at.Given as goal

-- what the files at the places so far hold
abbrev pub invariant-loop-place : goal.invariant-loop-place
invariant-loop-place l = l.seen.items ≡ map (content_at l.self-inside.files.items) (take l.place-index l.places)
