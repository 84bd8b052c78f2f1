use Rattle.std.proofs.lemmas.Result.{err_from_is_err_and}
use Rattle.std.specs.Option.{option_copied}
use Rattle.mk_core.proofs.Answering.{book_fails, book_found}
use Rattle.mk_core.proofs.ready.ready_with.Goals as goal

pub returns-in_err-book-clause-ready : goal.returns-in_err-book-clause-ready
returns-in_err-book-clause-ready g c =
    let p = err_from_is_err_and c.from_residual.result c.from_residual.ensures.1 in
    let name = option_copied c.as_ref.result in
    let fault = c.in_err-book.field-0.0 in
    rw (p.1, p.2) (λ told fits. book_fails told c.args.request.now c.args.table.now c.args.goals name c.as_ref.ensures.value fault (c.in_err-book.ensures.book told fits))

pub returns-clause-ready : goal.returns-clause-ready
returns-clause-ready g c =
    let name = option_copied c.as_ref.result in
    let book = c.in_ok-book.book in
    λ told fits. book_found told c.args.request.now c.args.table.now c.args.goals name c.as_ref.ensures.value book c.in_ok-ready.ready (c.in_ok-book.ensures.book told fits) c.in_ok-ready.ensures
