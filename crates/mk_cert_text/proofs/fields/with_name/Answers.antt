use Rattle.std.proofs.lemmas.Result.{err_from_is_err_and}
use Rattle.mk_cert_text.proofs.Steps.{fails_before, fails_last, has_more}
use Rattle.mk_cert_text.proofs.fields.with_name.Goals as goal

pub returns-in_err-found : goal.returns-in_err-found
returns-in_err-found c =
    let p = err_from_is_err_and c.from_residual.result c.from_residual.ensures.1 in
    λ part front value before last. rw (p.1, p.2) (fails_before part front value c.in_err-found.field-0.0 (rw c.in_err-found.was at before))

pub returns-in_err-next : goal.returns-in_err-next
returns-in_err-next c =
    let p = err_from_is_err_and c.from_residual-in_err-next.result c.from_residual-in_err-next.ensures.1 in
    λ part front value before last. rw (p.1, p.2) (fails_last part front value c.in_ok-found.found c.in_err-next.field-0.0 (rw c.in_ok-found.was at before) (rw c.in_err-next.was at last))

pub returns : goal.returns
returns c = λ part front value before last. rw c.in_ok-push.ensures.ok (has_more part front value c.in_ok-found.found c.in_ok-next.next.now (rw c.in_ok-found.was at before) (rw c.in_ok-next.was at last))
