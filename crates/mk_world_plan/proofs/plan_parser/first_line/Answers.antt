use Rattle.mk_world_plan.proofs.PlanTexts.{line_cut, line_whole}
use Rattle.mk_world_plan.proofs.plan_parser.first_line.Goals as goal

pub returns-in-Some-clause-lines : goal.returns-in-Some-clause-lines
returns-in-Some-clause-lines c = line_cut c.args.text.now c.in-Some.at c.in-Some.ensures

pub returns-in-None-clause-lines : goal.returns-in-None-clause-lines
returns-in-None-clause-lines c = line_whole c.args.text.now c.requires c.in-None.ensures
