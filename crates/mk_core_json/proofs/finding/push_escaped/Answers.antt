use Rattle.std.proofs.Common.{◌∙◌, ◌++◌, List, ℕ, ap, string_bytes}
use Rattle.mk_core_json.specs.FindingValue.{head_text}
use Rattle.mk_core_json.proofs.FindingTexts.{finding_joined}
use Rattle.std.proofs.lemmas.Result.{on_ok_weaker}
use Rattle.mk_core_json.proofs.Appended.{on_ok_if}
use Rattle.mk_core_json.proofs.finding.push_escaped.Goals as goal

pub returns : goal.returns
returns c =
    let head = c.in_ok-push_head.ensures ∙ ap (λ (kind : List ℕ). string_bytes c.args.out.now ++ head_text c.args.numbers.group kind) c.kind_of.ensures in
    on_ok_weaker c.push_str.result (λ is.
    finding_joined c.args.numbers.own c.args.numbers.group c.args.finding.now (string_bytes c.args.out.now) _ _ _ _ _ head c.in_ok-push_names_of.ensures c.in_ok-write.ensures.bytes c.in_ok-push_line.ensures is) (on_ok_if c.push_str.result _ _ _ c.push_str.ensures.bytes)
