use Rattle.std.proofs.Common.{◌≡◌, ℕ, List, map, take}
use Rattle.std.specs.Prelude.{filter}
use Rattle.mk_lines.specs.Names.{has_name}
use Rattle.mk_subject.specs.NodeRow.{NodeRow, row_writes}
use Rattle.mk_subject.specs.Writers.{numbers_at}
use Rattle.mk_subject.proofs.writers.writers_among.Given as goal

-- the nodes so far
abbrev pub invariant-loop-entry : goal.invariant-loop-entry
invariant-loop-entry l = (name : List ℕ) → numbers_at l.writers name ≡ map (λ (e : NodeRow). e.number) (filter (λ (e : NodeRow). has_name (row_writes e) name) (take l.entry-index l.entries))
