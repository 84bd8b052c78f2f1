use Rattle.mk_core_evidence.proofs.FindingPlans.{plan_answered, verdict_answered, yes_answered}
use Rattle.mk_core_evidence.proofs.showing.evidence_or_verdict.Goals as goal

pub returns-clause-plan : goal.returns-clause-plan
returns-clause-plan g c =
    λ told fits. plan_answered told c.args.request.now c.args.number c.answer_judged.result (c.answer_judged.ensures.answer told fits)

pub returns-clause-verdict : goal.returns-clause-verdict
returns-clause-verdict g c =
    λ told fits. verdict_answered told c.args.request.now c.args.number c.answer_judged.result (c.answer_judged.ensures.answer told fits)

pub returns-clause-right : goal.returns-clause-right
returns-clause-right g c =
    λ told fits. yes_answered told c.args.request.now c.args.number c.yes_is_right.ensures c.answer_judged.result (c.answer_judged.ensures.answer told fits)
