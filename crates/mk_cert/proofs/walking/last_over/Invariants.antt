use Rattle.std.proofs.Common.{ℕ, drop}
use Rattle.std.specs.Prelude.{◌↔◌}
use Rattle.mk_cert.specs.Walking.{GoesOver}
use Rattle.mk_cert.proofs.walking.last_over.Given as goal

-- what is left decides
abbrev pub invariant-loop-place : goal.invariant-loop-place
invariant-loop-place l = (end : ℕ) → GoesOver l.subject l.last (drop l.place l.path) end ↔ GoesOver l.subject l.start (drop 1 l.path) end
