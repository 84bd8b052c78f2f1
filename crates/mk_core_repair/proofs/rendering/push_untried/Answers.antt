use Rattle.std.proofs.Common.{◌∙◌, ◌++◌, ap}
use Rattle.std.proofs.lemmas.Result.{on_ok_weaker}
use Rattle.mk_core_repair.proofs.Joined.{three_joined}
use Rattle.mk_core_repair.proofs.rendering.push_untried.Goals as goal

pub returns : goal.returns
returns c =
    on_ok_weaker c.push_others.result
    (λ is. three_joined c.args.out.now.items _ _ _ _ _ _
    (c.in_ok-extend_from_slice.ensures.items ∙ ap (λ l. c.args.out.now.items ++ l) c.as_bytes.ensures.value) c.in_ok-extend_from_slice-2.ensures.items is)
    c.push_others.ensures
