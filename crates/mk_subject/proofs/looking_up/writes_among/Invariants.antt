use Rattle.std.proofs.Common.{◌≡◌, map, take}
use Rattle.std.specs.List.{flat_map}
use Rattle.std.specs.String.{string_bytes}
use Rattle.mk_build.specs.Setting as build
use Rattle.mk_subject.specs.Subject.{footprints}
use Rattle.mk_subject.proofs.looking_up.writes_among.Given as goal

-- what the nodes so far write
abbrev pub invariant-loop-number : goal.invariant-loop-number
invariant-loop-number l = map string_bytes l.names.items ≡ flat_map (build.writes l.records.graph (footprints l.records.setting)) (take l.number-index l.order)
