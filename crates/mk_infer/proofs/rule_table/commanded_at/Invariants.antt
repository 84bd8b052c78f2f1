use Rattle.std.proofs.Common.{◌≡◌, drop}
use Rattle.std.specs.Prelude.{find}
use Rattle.mk_infer.specs.Table.{counts_for, lines_at}
use Rattle.mk_infer.proofs.rule_table.commanded_at.Given as goal

-- the rule lines that are left decide
abbrev pub invariant-loop-place : goal.invariant-loop-place
invariant-loop-place l = find (counts_for l.own) (lines_at l.rules (drop l.place-index l.places)) ≡ find (counts_for l.own) (lines_at l.rules l.places)
