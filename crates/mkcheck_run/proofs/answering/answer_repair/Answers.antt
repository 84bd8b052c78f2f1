use Rattle.std.proofs.Common.{Ok, ap}
use Rattle.std.proofs.lemmas.Result.{err_from_is_err_and}
use Rattle.mkcheck_run.proofs.RunLemmas.{no_memory_mends, shown_mends}
use Rattle.mkcheck_run.proofs.answering.answer_repair.Goals as goal

pub returns-in_err-shown-clause-answer : goal.returns-in_err-shown-clause-answer
returns-in_err-shown-clause-answer g c =
    let p = err_from_is_err_and c.from_residual-in_err-shown.result c.from_residual-in_err-shown.ensures.1 in
    rw (p.1, p.2) (λ told fits. no_memory_mends told c.args.request.now c.args.form c.args.part)

pub returns-clause-answer : goal.returns-clause-answer
returns-clause-answer g c =
    λ told fits. (Ok c.in_ok-found.found, c.in_ok-found.ensures.answer told fits, ap Ok c.in_ok-shown.ensures)

pub returns-clause-right : goal.returns-clause-right
returns-clause-right g c =
    λ told fits done. shown_mends told c.args.request.now c.args.form c.args.part c.in_ok-found.found _ (c.in_ok-found.ensures.suffices told fits) c.in_ok-shown.ensures done
