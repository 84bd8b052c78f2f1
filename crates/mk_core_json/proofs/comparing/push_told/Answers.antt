use Rattle.std.proofs.Common.{◌∙◌, ◌++◌, List, ℕ, ap, string_bytes}
use Rattle.std.proofs.lemmas.Result.{on_ok_weaker}
use Rattle.serde_json.specs.Data.{string}
use Rattle.serde_json.specs.Written.{compact_text}
use Rattle.mk_core_json.proofs.Appended.{on_ok_if}
use Rattle.mk_core_json.proofs.SinceTexts.{told_joined}
use Rattle.mk_core_json.proofs.comparing.push_told.Goals as goal

pub returns : goal.returns
returns c =
    let kind = c.in_ok-push_text.ensures ∙ ap (λ (kind : List ℕ). string_bytes c.push_str.new.self ++ compact_text (string kind)) c.kind_of.ensures in
    on_ok_weaker c.push_str-4.result (λ is.
    told_joined c.args.finding.now (string_bytes c.args.out.now) _ _ _ _ _ _ _ c.in_ok-push_str.ensures.bytes kind c.in_ok-push_str-2.ensures.bytes c.in_ok-push_names_of.ensures c.in_ok-push_str-3.ensures.bytes c.in_ok-push_line.ensures is) (on_ok_if c.push_str-4.result _ _ _ c.push_str-4.ensures.bytes)
