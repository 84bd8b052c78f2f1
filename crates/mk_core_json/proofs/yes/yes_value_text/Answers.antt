use Rattle.mk_core_json.proofs.AnswerTexts.{yes_joined}
use Rattle.mk_core_json.proofs.yes.yes_value_text.Goals as goal

pub returns : goal.returns
returns c =
    yes_joined c.args.certificate.now c.args.recipes c.args.reads _ _ _ _ _ _ _ c.in_ok-text.ensures.ok
    c.in_ok-push_certificate.ensures c.in_ok-push_str.ensures.bytes c.in_ok-push_number.ensures
    c.in_ok-push_str-2.ensures.bytes c.in_ok-push_number-2.ensures c.in_ok-push_str-3.ensures.bytes
