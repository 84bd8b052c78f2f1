use Rattle.std.proofs.Common.{◌≡◌, drop}
use Rattle.std.specs.Prelude.{find}
use Rattle.mk_infer.specs.Goals.{gives_prerequisites}
use Rattle.mk_infer_select.proofs.goals.first_with_prerequisites.Given as goal

-- the rule lines that are left decide
abbrev pub invariant-loop-rule : goal.invariant-loop-rule
invariant-loop-rule l = find (gives_prerequisites l.table.suffixes) (drop l.rule-index l.rule-items) ≡ find (gives_prerequisites l.table.suffixes) l.table.rules
