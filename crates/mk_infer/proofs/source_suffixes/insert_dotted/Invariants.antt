use Rattle.std.proofs.Common.{map, take}
use Rattle.std.specs.String.{string_bytes}
use Rattle.mk_infer.specs.Table.{HoldsDotted}
use Rattle.mk_infer.proofs.source_suffixes.insert_dotted.Given as goal

-- the names of the set, and those so far
abbrev pub invariant-loop-name : goal.invariant-loop-name
invariant-loop-name l = HoldsDotted l.initial.set (map string_bytes (take l.name-index l.names)) l.set
