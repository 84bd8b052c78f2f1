use Rattle.std.proofs.Common.{◌≡◌, drop}
use Rattle.std.specs.Prelude.{find}
use Rattle.mk_infer.specs.Goals.{is_plain_target, own_targets}
use Rattle.mk_infer_select.proofs.goals.first_target.Given as goal

-- the rule lines that are left decide
abbrev pub invariant-loop-rule : goal.invariant-loop-rule
invariant-loop-rule l = find (is_plain_target l.table.suffixes) (own_targets (drop l.rule-index l.rules)) ≡ find (is_plain_target l.table.suffixes) (own_targets l.rules)
