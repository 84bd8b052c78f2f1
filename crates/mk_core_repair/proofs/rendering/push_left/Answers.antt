use Rattle.std.proofs.Common.{◌∙◌, ◌++◌, ap}
use Rattle.std.proofs.lemmas.Result.{on_ok_weaker}
use Rattle.mk_core_repair.proofs.Joined.{on_ok_if, three_joined}
use Rattle.mk_core_repair.proofs.rendering.push_left.Goals as goal

pub returns : goal.returns
returns c =
    on_ok_weaker c.extend_from_slice-3.result
    (λ is. three_joined c.args.out.now.items _ _ _ _ _ _ c.in_ok-extend_from_slice.ensures.items
    (c.in_ok-extend_from_slice-2.ensures.items ∙ ap (λ l. c.extend_from_slice.new.self.items ++ l) (c.deref.ensures.value ∙ c.in_ok-text.ensures))
    (is ∙ ap (λ l. c.extend_from_slice-2.new.self.items ++ l) (c.as_bytes.ensures.value ∙ c.recording_again.ensures)))
    (on_ok_if c.extend_from_slice-3.result _ _ _ c.extend_from_slice-3.ensures.items)
