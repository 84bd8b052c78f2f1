use Rattle.std.proofs.Common.{[], ◌∷◌, ◌++◌, ap, subst, ◌≡◌, ◌∙◌, IfOk}
use Rattle.serde_json.specs.Data.{Data}
use Rattle.serde_json.specs.Written.{compact_text, has_float}
use Rattle.mk_core_json.proofs.AnswerTexts.{unmended_has_no_float}
use Rattle.mk_core_json.proofs.other.unmended_in_json.Goals as goal

pub value_line-requires : goal.value_line-requires
value_line-requires c = ap has_float c.in_ok-value.ensures ∙ unmended_has_no_float c.args.reason.now c.args.part.now

pub returns : goal.returns
returns c =
    subst (λ (value : Data). IfOk c.value_line.result (λ line. line.items ≡ compact_text value ++ 10 ∷ [])) c.in_ok-value.ensures c.value_line.ensures
