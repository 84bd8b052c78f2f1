use Rattle.std.proofs.Common.{◌≡◌, map, drop, string_bytes}
use Rattle.std.specs.Prelude.{fold}
use Rattle.std.specs.List.{flat_map}
use Rattle.mk_foot.specs.Names.{with_name}
use Rattle.mk_foot.specs.Reading.{listed}
use Rattle.mk_foot.proofs.reading.insert_listed.Given as goal

-- the names so far, with those of the lists that are left
abbrev pub invariant-loop-name : goal.invariant-loop-name
invariant-loop-name l = fold with_name l.set (flat_map (listed l.lists) (map string_bytes (drop l.name-index l.shared))) ≡ fold with_name l.fn.set (flat_map (listed l.lists) (map string_bytes l.shared))
