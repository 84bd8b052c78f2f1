use Rattle.std.proofs.Common.{◌≡◌, ◌++◌, drop, filter, not}
use Rattle.std.specs.Prelude.{◌==◌}
use Rattle.mk_core_repair.proofs.needing.push_others.Given as goal

-- the numbers so far, with those that are left
abbrev pub invariant-loop-writer : goal.invariant-loop-writer
invariant-loop-writer l = l.row.items ++ filter (λ writer. not (writer == l.number)) (drop l.writer-index l.writers) ≡ l.fn.row.items ++ filter (λ writer. not (writer == l.number)) l.writers
