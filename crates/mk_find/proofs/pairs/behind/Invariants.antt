use Rattle.std.proofs.Common.{◌≡◌, drop}
use Rattle.mk_find.specs.NodeChecks.{behind}
use Rattle.mk_find.proofs.pairs.behind.Given as goal

-- what is left decides
abbrev pub invariant-loop-place : goal.invariant-loop-place
invariant-loop-place l = behind l.number (drop l.place l.numbers) ≡ behind l.number l.numbers
