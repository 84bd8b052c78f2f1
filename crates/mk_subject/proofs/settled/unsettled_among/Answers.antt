-- The place is one more where the file at it isn't settled.
use Rattle.std.proofs.Common.{arith}
use Rattle.mk_subject.proofs.SettledReads.{so_far_more, so_far_past, so_far_all}
use Rattle.mk_subject.proofs.settled.unsettled_among.Goals as goal
use Rattle.mk_subject.proofs.settled.unsettled_among.Goals.{then-not-is_settled_at+in_ok-push, else-not-is_settled_at}

pub loop-at-preserved : goal.loop-at-preserved
loop-at-preserved c =
    let known = c.args.known.now in
    let places = c.args.places.now in
    let some = c.loop-at.unsettled.items in
    let i = c.loop-at.at-index in
    elim c.if-not-is_settled_at.branch [
      | then-not-is_settled_at+in_ok-push w ↦ rw w.unsettled-is (so_far_more known places some w.push.new.self.items i c.is_settled_at.result (omega arith) c.is_settled_at.ensures w.if-not-is_settled_at.true w.in_ok-push.ensures.items c.loop-at.invariant)
      | else-not-is_settled_at w ↦ rw w.unsettled-is (so_far_past known places some i c.is_settled_at.result (omega arith) c.is_settled_at.ensures w.if-not-is_settled_at.false c.loop-at.invariant)
    ]

pub returns : goal.returns
returns c = so_far_all c.args.known.now c.args.places.now c.loop-at.unsettled.items c.loop-at.at-index (omega arith) c.loop-at.invariant
