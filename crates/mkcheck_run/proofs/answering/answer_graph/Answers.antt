use Rattle.std.proofs.Common.{Ok, ap}
use Rattle.std.proofs.lemmas.Result.{err_from_is_err_and}
use Rattle.mkcheck_run.proofs.RunLemmas.{no_memory_draws}
use Rattle.mkcheck_run.proofs.answering.answer_graph.Goals as goal

pub returns-in_err-shown-clause-answer : goal.returns-in_err-shown-clause-answer
returns-in_err-shown-clause-answer g c =
    let p = err_from_is_err_and c.from_residual-in_err-shown.result c.from_residual-in_err-shown.ensures.1 in
    rw (p.1, p.2) (λ told fits. no_memory_draws told c.args.request.now c.args.form)

pub returns-clause-answer : goal.returns-clause-answer
returns-clause-answer g c =
    λ told fits. (Ok c.in_ok-text.text.items, c.in_ok-text.ensures.answer told fits, ap Ok c.in_ok-shown.ensures)
