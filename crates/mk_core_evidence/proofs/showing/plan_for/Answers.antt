-- The plan is that of the steps as they are seen.
use Rattle.std.proofs.Common.{List, map, ap, ◌∙◌}
use Rattle.mk_world.specs.declared.step.Step as code
use Rattle.mk_world.specs.NamedStep.{step_view}
use Rattle.mk_world_plan.specs.PlanText.{plan_text}
use Rattle.mk_core_evidence.proofs.showing.plan_for.Goals as goal

pub returns : goal.returns
returns c =
    let x = c.args.subject.now in
    let shown = rw c.in-Some.is at c.in_ok-steps.ensures.shown in
    let numbers = rw c.in-Some.is at c.in_ok-steps.ensures.numbers in
    (map step_view c.in-Some.steps.items, shown, numbers, c.in_ok-text.ensures ∙ ap (λ (l : List code.Step). plan_text x.graph (map step_view l)) c.deref.ensures.value)
