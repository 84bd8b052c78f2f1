use Rattle.std.proofs.Common.{string_bytes}
use Rattle.std.proofs.lemmas.Result.{on_ok_weaker}
use Rattle.mk_core_json.proofs.Appended.{on_ok_if}
use Rattle.mk_core_json.proofs.FindingTexts.{head_joined}
use Rattle.mk_core_json.proofs.finding.push_head.Goals as goal

pub returns : goal.returns
returns c =
    on_ok_weaker c.push_str.result (λ is.
    head_joined c.args.group c.args.kind.now (string_bytes c.args.out.now) _ _ _ c.in_ok-write.ensures.bytes c.in_ok-push_text.ensures is) (on_ok_if c.push_str.result _ _ _ c.push_str.ensures.bytes)
