-- Each turn of the loop is a step of the walk.
use Rattle.std.proofs.Common.{arith, ◌≡◌, ℕ, ◌<◌, ◌≤◌, length, get_or, reverse, List, [], ap, subst, sym, ◌∙◌}
use Rattle.mk_graph.specs.declared.walk.Mark.TheVariants.{New}
use Rattle.mk_graph.specs.Walk.{passes, ends}
use Rattle.mk_graph.specs.Progress.{row, IsMark}
use Rattle.mk_graph.proofs.Frames.{is_new}
use Rattle.mk_graph.proofs.Steps.{row_is, node_low, begin_step, finish_step, finish_less, next_low, pass_step, pass_less, close_step, down_step, down_less}
use Rattle.mk_graph.proofs.walk.walk_from.Goals as goal
use Rattle.mk_graph.proofs.walk.walk_from.Goals.{After-as_slice-needs}

-- the marks are as many as the rows
sizes : (c : After-as_slice-needs) → length c.loop-frame.marks ≡ length c.args.rows.now
sizes c = omega arith

-- the frame's node is one
frame_low : (c : After-as_slice-needs) → c.in-Some.frame.node < length c.args.rows.now
frame_low c = node_low c.args.rows.now _ _ _ _ _ c.in-Some.frame _ c.in-Some.ensures.items c.loop-frame.invariant (sizes c)

-- what was read is the node's row
needs_are : (c : After-as_slice-needs) → row c.args.rows.now c.in-Some.frame.node ≡ c.as_slice-needs.result.now
needs_are c = row_is c.args.rows.now c.in-Some.frame.node c.index-rows-frame.result (frame_low c) c.index-rows-frame.is ∙ sym c.as_slice-needs.ensures.value

-- the next prerequisite
next_is : (c : After-as_slice-needs) → get_or c.as_slice-needs.result.now c.in-Some.frame.walked 0 ≡ get_or (row c.args.rows.now c.in-Some.frame.node) c.in-Some.frame.walked 0
next_is c = ap (λ (l : List ℕ). get_or l c.in-Some.frame.walked 0) (sym (needs_are c))

-- it is a node
next_is_low : (c : After-as_slice-needs) → c.in-Some.frame.walked < length c.as_slice-needs.result.now → get_or c.as_slice-needs.result.now c.in-Some.frame.walked 0 < length c.args.rows.now
next_is_low c more = next_low c.args.rows.now _ _ _ _ _ c.in-Some.frame _ c.in-Some.ensures.items c.loop-frame.invariant (sizes c) _ (rw (needs_are c) more) (next_is c) c.requires.rows

pub returns-in-Finished-clause-end : goal.returns-in-Finished-clause-end
returns-in-Finished-clause-end c =
    passes (subst (λ m. IsMark m [] (reverse c.args.order.now.items) c.args.goal) c.in-Finished.is (c.requires.marks c.args.goal (omega arith))) ends

pub loop-frame-init : goal.loop-frame-init
loop-frame-init c =
    let within : c.args.goal < length c.args.marks.now = omega arith in
    let new = is_new (get_or c.args.marks.now c.args.goal New) (reverse c.args.order.now.items) c.args.goal c.in_default.not-Finished (c.requires.marks c.args.goal within) in
    rw (c.in_ok-enter.ensures.frames, c.in_ok-enter.ensures.marks, c.new-frames.ensures.items) (begin_step c.args.rows.now c.args.marks.now c.args.order.now.items c.args.goal c.requires.goal within c.requires.marks new)

pub bounds-then-frame-needs : goal.bounds-then-frame-needs
bounds-then-frame-needs c =
    let a = (goal.at.bounds-then-frame-needs c).After-as_slice-needs in
    subst (λ k. get_or c.as_slice-needs.result.now c.in-Some.frame.walked 0 < k) (sym (sizes a)) (next_is_low a c.if-frame-needs.true)

pub enter-requires-in-New : goal.enter-requires-in-New
enter-requires-in-New c =
    let a = (goal.at.enter-requires-in-New c).After-as_slice-needs in
    subst (λ k. get_or c.as_slice-needs.result.now c.in-Some.frame.walked 0 < k) (sym (sizes a)) (next_is_low a c.if-frame-needs.true)

pub loop-frame-smaller-in_ok-enter-in-New : goal.loop-frame-smaller-in_ok-enter-in-New
loop-frame-smaller-in_ok-enter-in-New c =
    let a = (goal.at.loop-frame-smaller-in_ok-enter-in-New c).After-as_slice-needs in
    let low = next_is_low a c.if-frame-needs.true in
    rw (c.in_ok-enter-in-New.ensures.frames, c.in_ok-enter-in-New.ensures.marks, c.in_ok-push.ensures.items)
    (down_less c.args.rows.now _ _ _ _ _ c.in-Some.frame _ c.in-Some.ensures.items c.loop-frame.invariant
    (sizes a) _ (rw (needs_are a) c.if-frame-needs.true) (next_is a) c.in-New.is
    (subst (λ k. get_or c.as_slice-needs.result.now c.in-Some.frame.walked 0 < k) (sym (sizes a)) low)
    low)

pub loop-frame-preserved-in_ok-enter-in-New : goal.loop-frame-preserved-in_ok-enter-in-New
loop-frame-preserved-in_ok-enter-in-New c =
    let a = (goal.at.loop-frame-preserved-in_ok-enter-in-New c).After-as_slice-needs in
    let low = next_is_low a c.if-frame-needs.true in
    rw (c.in_ok-enter-in-New.ensures.frames, c.in_ok-enter-in-New.ensures.marks, c.in_ok-push.ensures.items)
    (down_step c.args.rows.now _ _ _ _ _ c.in-Some.frame _ c.in-Some.ensures.items c.loop-frame.invariant
    (sizes a) _ (rw (needs_are a) c.if-frame-needs.true) (next_is a) c.in-New.is
    (subst (λ k. get_or c.as_slice-needs.result.now c.in-Some.frame.walked 0 < k) (sym (sizes a)) low)
    low)

pub returns-in-UnderWay : goal.returns-in-UnderWay
returns-in-UnderWay c =
    let a = (goal.at.returns-in-UnderWay c).After-as_slice-needs in
    let low = next_is_low a c.if-frame-needs.true in
    record {
      end = rw (c.in_ok-closed_path_from-in-UnderWay.ensures, c.in_ok-push.ensures.items)
          (close_step c.args.rows.now _ _ _ _ _ c.in-Some.frame _ c.in-Some.ensures.items c.loop-frame.invariant
          (sizes a) _ (rw (needs_are a) c.if-frame-needs.true) (next_is a) c.in-UnderWay.is
          (subst (λ k. get_or c.as_slice-needs.result.now c.in-Some.frame.walked 0 < k) (sym (sizes a)) low));
      marks = tt;
    }

pub loop-frame-smaller-in-Finished-marks : goal.loop-frame-smaller-in-Finished-marks
loop-frame-smaller-in-Finished-marks c =
    let a = (goal.at.loop-frame-smaller-in-Finished-marks c).After-as_slice-needs in
    rw c.in_ok-push.ensures.items (pass_less c.args.rows.now _ _ _ _ _ c.in-Some.frame _ c.in-Some.ensures.items c.loop-frame.invariant (sizes a) _ (rw (needs_are a) c.if-frame-needs.true) (next_is a))

pub loop-frame-preserved-in-Finished-marks : goal.loop-frame-preserved-in-Finished-marks
loop-frame-preserved-in-Finished-marks c =
    let a = (goal.at.loop-frame-preserved-in-Finished-marks c).After-as_slice-needs in
    let low = next_is_low a c.if-frame-needs.true in
    rw c.in_ok-push.ensures.items (pass_step c.args.rows.now _ _ _ _ _ c.in-Some.frame _
    c.in-Some.ensures.items c.loop-frame.invariant (sizes a) _ (rw (needs_are a) c.if-frame-needs.true)
    (next_is a) c.in-Finished-marks.is (subst (λ k. get_or c.as_slice-needs.result.now
    c.in-Some.frame.walked 0 < k) (sym (sizes a)) low))

pub loop-frame-smaller : goal.loop-frame-smaller
loop-frame-smaller c =
    let a = (goal.at.loop-frame-smaller c).After-as_slice-needs in
    finish_less c.args.rows.now _ _ _ _ _ c.in-Some.frame _ c.in-Some.ensures.items c.loop-frame.invariant (sizes a)

pub loop-frame-preserved : goal.loop-frame-preserved
loop-frame-preserved c =
    let a = (goal.at.loop-frame-preserved c).After-as_slice-needs in
    let done : length (row c.args.rows.now c.in-Some.frame.node) ≤ c.in-Some.frame.walked = rw (needs_are a) (c.if-frame-needs.false) in
    rw (c.in_ok-push-2.ensures.items) (finish_step c.args.rows.now _ _ _ _ _ c.in-Some.frame _ c.in-Some.ensures.items c.loop-frame.invariant (sizes a) done)
