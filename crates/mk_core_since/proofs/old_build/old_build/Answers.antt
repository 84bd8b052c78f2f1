use Rattle.mk_core_since.proofs.BothBuilds.{old_answers, request_refused}
use Rattle.mk_core_since.proofs.old_build.old_build.Goals as goal

pub returns-in-Ok-clause-answer : goal.returns-in-Ok-clause-answer
returns-in-Ok-clause-answer g c =
    λ was fits. old_answers was c.args.request.now c.in-Ok.asked c.answer_judged.result (c.in-Ok.ensures.request was (c.answer_judged.ensures.keeps was fits)) (c.answer_judged.ensures.answer was fits)

pub returns-in-Err-clause-answer : goal.returns-in-Err-clause-answer
returns-in-Err-clause-answer g c =
    λ was fits. request_refused was c.args.request.now c.in-Err.fault (c.in-Err.ensures.request was fits)
