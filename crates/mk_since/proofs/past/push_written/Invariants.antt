use Rattle.std.proofs.Common.{◌≡◌, ◌++◌, map, take}
use Rattle.std.specs.List.{flat_map}
use Rattle.std.specs.String.{string_bytes}
use Rattle.mk_subject.specs.NodeRow.{NodeRow, row_writes}
use Rattle.mk_since.proofs.past.push_written.Given as goal

-- the names at first, and what the first rows write
abbrev pub invariant-loop-entry : goal.invariant-loop-entry
invariant-loop-entry l = map string_bytes l.names.items ≡ map string_bytes l.initial.names.items ++ flat_map (λ (e : NodeRow). row_writes e) (take l.entry-index l.entry-items)
