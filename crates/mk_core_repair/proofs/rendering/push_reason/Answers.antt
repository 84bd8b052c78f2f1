use Rattle.std.proofs.Common.{◌∙◌, ◌++◌, codes, true, ap, sym}
use Rattle.std.proofs.lemmas.Result.{on_ok_weaker}
use Rattle.mk_core_repair.specs.Outcome.{reason_of}
use Rattle.mk_core_repair.specs.RepairText.{led, reason_text}
use Rattle.mk_core_repair.proofs.Joined.{two_joined}
use Rattle.mk_core_repair.proofs.rendering.push_reason.Goals as goal

pub returns-in_ok-push_led-in-Tried : goal.returns-in_ok-push_led-in-Tried
returns-in_ok-push_led-in-Tried c =
    on_ok_weaker c.push_after.result
    (λ is. two_joined c.args.out.now.items _ _ _ _
    (c.in_ok-push_led-in-Tried.ensures ∙ ap (λ text. c.args.out.now.items ++ led (codes "tried ") true text) c.as_str-in-Tried.ensures.value) is
    ∙ ap (λ why. c.args.out.now.items ++ reason_text (reason_of why)) (sym c.in-Tried.is))
    c.push_after.ensures
