use Rattle.std.proofs.lemmas.Result.{err_from_is_err_and}
use Rattle.mkcheck_run.proofs.RunLemmas.{no_memory_answers}
use Rattle.mkcheck_run.proofs.answering.answer_check.Goals as goal

pub returns-in_err-shown-clause-answer : goal.returns-in_err-shown-clause-answer
returns-in_err-shown-clause-answer g c =
    let p = err_from_is_err_and c.from_residual-in_err-shown.result c.from_residual-in_err-shown.ensures.1 in
    rw (p.1, p.2) (λ told fits. no_memory_answers told c.args.request.now c.args.only_certificate)
