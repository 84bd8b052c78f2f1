use Rattle.std.proofs.Common.{subst}
use Rattle.mk_core.specs.declared.request.Request.{Request}
use Rattle.mk_core.specs.Answer.{Answers}
use Rattle.mk_core.specs.Judging.{AnswersJudged}
use Rattle.mk_core_repair.specs.Survey.{GivesFirst}
use Rattle.mk_core_repair.proofs.Rounding.{freed_answers}
use Rattle.mk_core_repair.proofs.repairing.judge_first.Goals as goal

pub returns-clause-answer : goal.returns-clause-answer
returns-clause-answer g c =
    let answer = c.answer_judged.result in
    λ told fits. freed_answers told c.args.request.now (AnswersJudged GivesFirst) answer
    (subst (λ (r : Request). Answers told r (AnswersJudged GivesFirst) answer) c.in_ok-request.ensures (c.answer_judged.ensures.answer told fits))
