use Rattle.std.proofs.lemmas.Result.{on_ok_weaker}
use Rattle.mk_core_repair.proofs.Joined.{three_joined}
use Rattle.mk_core_repair.proofs.rendering.push_taken.Goals as goal

pub returns : goal.returns
returns c =
    on_ok_weaker c.push_left.result
    (λ is. three_joined c.args.out.now.items _ _ _ _ _ _ c.in_ok-extend_from_slice.ensures.items c.in_ok-push_led.ensures is)
    c.push_left.ensures
