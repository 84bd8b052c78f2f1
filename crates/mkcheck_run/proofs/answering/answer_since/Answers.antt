use Rattle.std.proofs.Common.{Bool, Ok, ap, subst}
use Rattle.std.proofs.lemmas.Result.{err_from_is_err_and}
use Rattle.mk_core_since.specs.SinceAnswer.{AnswersSince}
use Rattle.mkcheck_run.proofs.RunLemmas.{no_memory_compares}
use Rattle.mkcheck_run.proofs.answering.answer_since.Goals as goal

pub returns-in_err-enter-clause-answer : goal.returns-in_err-enter-clause-answer
returns-in_err-enter-clause-answer g c =
    let p = err_from_is_err_and c.from_residual.result c.from_residual.ensures.1 in
    rw (p.1, p.2) (λ was below told fits. no_memory_compares was told c.args.change.now.request.now c.args.change.now.folder.now c.args.form)

pub returns-in_err-shown-clause-answer : goal.returns-in_err-shown-clause-answer
returns-in_err-shown-clause-answer g c =
    let p = err_from_is_err_and c.from_residual-in_err-shown.result c.from_residual-in_err-shown.ensures.1 in
    rw (p.1, p.2) (λ was below told fits. no_memory_compares was told c.args.change.now.request.now c.args.change.now.folder.now c.args.form)

pub returns-clause-answer : goal.returns-clause-answer
returns-clause-answer g c =
    λ was below told fits. (
      Ok c.in_ok-found.found,
      subst (λ (words : Bool). AnswersSince words was told c.args.change.now.folder.now c.args.change.now.request.now (Ok c.in_ok-found.found)) c.is_words.ensures (c.in_ok-found.ensures.answer was below told fits),
      (c.cause.result, ap Ok c.in_ok-shown.ensures),
    )
