use Rattle.std.proofs.Common.{map, string_bytes}
use Rattle.std.proofs.lemmas.Result.{err_from_is_err_and}
use Rattle.mk_foot.specs.ReaderParts.{text_of}
use Rattle.mk_foot.proofs.Grown.{fails_before, fails_last, has_text}
use Rattle.mk_foot.proofs.fields.with_text.Goals as goal

pub returns-in_err-texts : goal.returns-in_err-texts
returns-in_err-texts c =
    let p = err_from_is_err_and c.from_residual.result c.from_residual.ensures.1 in
    λ key front value before last. rw (p.1, p.2) (fails_before (text_of key) front value c.in_err-texts.field-0.0 (rw c.in_err-texts.was at before))

pub returns-in_err-text : goal.returns-in_err-text
returns-in_err-text c =
    let p = err_from_is_err_and c.from_residual-in_err-text.result c.from_residual-in_err-text.ensures.1 in
    λ key front value before last. rw (p.1, p.2) (fails_last (text_of key) front value (map string_bytes c.in_ok-texts.texts.items) c.in_err-text.field-0.0 (rw c.in_ok-texts.was at before) (rw c.in_err-text.was at last))

pub returns : goal.returns
returns c = λ key front value before last. rw c.in_ok-push_text.ensures (has_text key front value c.in_ok-texts.texts.items c.in_ok-text.text (rw c.in_ok-texts.was at before) (rw c.in_ok-text.was at last))
