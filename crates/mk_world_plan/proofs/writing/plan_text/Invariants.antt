use Rattle.std.proofs.Common.{◌≡◌, map, take, string_bytes}
use Rattle.mk_world.specs.NamedStep.{step_view}
use Rattle.mk_world_plan.specs.PlanText.{plan_text}
use Rattle.mk_world_plan.proofs.writing.plan_text.Given as goal

-- the lines of the steps so far
abbrev pub invariant-loop-step : goal.invariant-loop-step
invariant-loop-step l = string_bytes l.text ≡ plan_text l.graph (map step_view (take l.step-index l.steps))
