use Rattle.std.proofs.Common.{◌≡◌, drop}
use Rattle.std.specs.Prelude.{find}
use Rattle.mk_infer.specs.Needed.{joins}
use Rattle.mk_infer_select.proofs.needed.first_joining.Given as goal

-- the rule lines that are left decide
abbrev pub invariant-loop-rule : goal.invariant-loop-rule
invariant-loop-rule l = find (joins l.target l.name) (drop l.rule-index l.rules) ≡ find (joins l.target l.name) l.rules
