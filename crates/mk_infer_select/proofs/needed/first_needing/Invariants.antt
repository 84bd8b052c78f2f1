use Rattle.std.proofs.Common.{◌≡◌, drop}
use Rattle.std.specs.Prelude.{find}
use Rattle.mk_infer.specs.Needed.{has_prerequisite}
use Rattle.mk_infer_select.proofs.needed.first_needing.Given as goal

-- the rule lines that are left decide
abbrev pub invariant-loop-rule : goal.invariant-loop-rule
invariant-loop-rule l = find (has_prerequisite l.name) (drop l.rule-index l.rules) ≡ find (has_prerequisite l.name) l.rules
