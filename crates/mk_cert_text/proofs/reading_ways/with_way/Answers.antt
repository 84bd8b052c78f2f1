use Rattle.std.proofs.Common.{◌≡◌, refl, ◌∙◌}
use Rattle.std.proofs.lemmas.Result.{err_from_is_err_and}
use Rattle.mk_cert_text.proofs.Steps.{fails_before, fails_last, has_more}
use Rattle.mk_cert_text.proofs.PackedWays.{way, way_is}
use Rattle.mk_cert_text.proofs.reading_ways.with_way.Goals as goal

pub returns-in_err-found : goal.returns-in_err-found
returns-in_err-found c =
    let p = err_from_is_err_and c.from_residual.result c.from_residual.ensures.1 in
    λ part front value before last. rw (p.1, p.2) (fails_before part front value c.in_err-found.field-0.0 (rw c.in_err-found.was at before))

pub returns-in_err-next : goal.returns-in_err-next
returns-in_err-next c =
    let p = err_from_is_err_and c.from_residual-in_err-next.result c.from_residual-in_err-next.ensures.1 in
    λ part front value before last. rw (p.1, p.2) (fails_last part front value c.in_ok-found.found c.in_err-next.field-0.0 (rw c.in_ok-found.was at before) (rw c.in_err-next.was at last))

pub returns : goal.returns
returns c = λ part front value before last.
    let one : way c.next.inside.finish c.as_str.result.now c.as_str-2.result.now c.next.inside.path ≡ c.in_ok-next.next = way_is c.next.inside.finish c.as_str.ensures c.as_str-2.ensures refl ∙ c.next.view_is in
    rw (c.in_ok-push.ensures.ok, one) (has_more part front value c.in_ok-found.found c.in_ok-next.next (rw c.in_ok-found.was at before) (rw c.in_ok-next.was at last))
