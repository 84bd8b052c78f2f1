use Rattle.std.proofs.Common.{◌∙◌, sym, string_bytes}
use Rattle.std.proofs.lemmas.Result.{on_ok_weaker}
use Rattle.mk_core_json.proofs.Appended.{on_ok_if}
use Rattle.mk_core_json.proofs.PlainTexts.{quoted_plain}
use Rattle.mk_core_json.proofs.writing.push_text.Goals as goal

pub returns : goal.returns
returns c =
    let plain = sym c.is_plain_text.ensures ∙ c.if-not-is_plain_text.false in
    on_ok_weaker c.push_str-3.result (λ is.
    quoted_plain c.args.text.now (string_bytes c.args.out.now) _ _ _ plain c.in_ok-push_str.ensures.bytes c.in_ok-push_str-2.ensures.bytes is) (on_ok_if c.push_str-3.result _ _ _ c.push_str-3.ensures.bytes)
