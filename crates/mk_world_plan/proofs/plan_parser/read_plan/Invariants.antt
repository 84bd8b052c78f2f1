use Rattle.std.proofs.Common.{◌+◌, ◌≤◌, length}
use Rattle.mk_world_plan.proofs.PlanTexts.{Left}
use Rattle.mk_world_plan.proofs.plan_parser.read_plan.Given as goal

-- the lines so far, and what is left of the text
abbrev pub invariant-loop-rest : goal.invariant-loop-rest
invariant-loop-rest l = record {
  left : Left l.lines.items l.number l.rest l.fn.text;
  counted : l.number + length l.rest ≤ length l.fn.text;
}

abbrev pub decreases-loop-rest : goal.decreases-loop-rest
decreases-loop-rest l = length l.rest
