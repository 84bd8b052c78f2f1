use Rattle.std.proofs.Common.{◌≤◌, ◌-◌, length, length-take, length-drop, arith, drop, ◌∙◌}
use Rattle.mkcheck_host.proofs.EndingLemmas.{sent_more}
use Rattle.mkcheck_host.proofs.writing.emit.Goals as goal

pub loop-done-preserved : goal.loop-done-preserved
loop-done-preserved g c =
    let room = length c.args.text.now - c.loop-done.done in
    let fits : c.in_ok-done.field-0 ≤ room = omega (arith, c.in_ok-done.ensures.bound, length-take room (drop c.loop-done.done c.args.text.now)) in
    let front : c.in_ok-done.field-0 ≤ length (drop c.loop-done.done c.args.text.now) = omega (arith, c.in_ok-done.ensures.bound, length-take room (drop c.loop-done.done c.args.text.now)) in (
      omega (arith, front, length-drop c.loop-done.done c.args.text.now, c.loop-done-test.true),
      sent_more _ _ _ c.args.text.now c.loop-done.done c.in_ok-done.field-0 room c.loop-done.invariant.1 c.in_ok-done.ensures.bytes fits,
      c.in_ok-done.ensures.ok ∙ c.loop-done.invariant.2,
    )
