use Rattle.mk_core_evidence.proofs.FindingPlans.{numbered_stands, plan_answers}
use Rattle.mk_core_evidence.proofs.showing.plan_of.Goals as goal

pub plan_for-requires : goal.plan_for-requires
plan_for-requires c = record {
  all = c.args.found.now;
  told = c.requires;
  one = numbered_stands c.args.found.now c.args.number c.in-Some.finding.now c.in-Some.ensures;
}

pub returns-in-Some : goal.returns-in-Some
returns-in-Some c =
    plan_answers c.args.subject.now c.args.number c.args.found.now c.requires c.in-Some.finding.now c.in-Some.ensures c.plan_for.result c.plan_for.ensures

pub returns-in-None : goal.returns-in-None
returns-in-None c = (c.args.found.now, c.requires, λ finding is. absurd (c.in-None.ensures finding is))
