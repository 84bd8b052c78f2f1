use Rattle.std.proofs.lemmas.Result.{err_from_is_err_and}
use Rattle.mkcheck_run.proofs.RunLemmas.{evidence_answers, no_memory_shows}
use Rattle.mkcheck_run.proofs.answering.answer_plan.Goals as goal

pub returns-in_err-shown-clause-answer : goal.returns-in_err-shown-clause-answer
returns-in_err-shown-clause-answer g c =
    let p = err_from_is_err_and c.from_residual-in_err-shown.result c.from_residual-in_err-shown.ensures.1 in
    rw (p.1, p.2) (λ told fits. no_memory_shows told c.args.request.now c.args.only_certificate c.args.number)

pub returns-clause-answer : goal.returns-clause-answer
returns-clause-answer g c =
    λ told fits. evidence_answers told c.args.request.now c.args.only_certificate c.args.number
    c.in_ok-evidence.evidence c.in_ok-shown.shown (c.in_ok-evidence.ensures.plan told fits)
    (c.in_ok-evidence.ensures.verdict told fits) c.in_ok-shown.ensures
