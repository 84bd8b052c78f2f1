use Rattle.std.proofs.Common.{take}
use Rattle.mk_infer.specs.Table.{AddsBacks, targets_in}
use Rattle.mk_infer.proofs.choices.add_targets.Given as goal

-- the rule lines so far
abbrev pub invariant-loop-rule : goal.invariant-loop-rule
invariant-loop-rule l = AddsBacks l.initial.backs (targets_in (take l.rule-index l.rules)) l.backs
