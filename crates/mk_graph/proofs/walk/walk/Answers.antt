-- The walks from the goals are one walk.
use Rattle.std.proofs.Common.{◌≡◌, ◌+◌, List, ◌∷◌, [], length, get_or, reverse, IfNone, subst, sym, arith}
use Rattle.std.proofs.lemmas.List.{with_items_is}
use Rattle.mk_lemmas.proofs.Members.{Has-get_or}
use Rattle.mk_graph.specs.declared.walk.Mark.{Mark}
use Rattle.mk_graph.specs.Walk.{Walks}
use Rattle.mk_graph.specs.Progress.{row, AreMarks, ending}
use Rattle.mk_graph.proofs.Goals.{HasWalked, one_more, path_closed, all_walked}
use Rattle.mk_graph.proofs.walk.walk.Goals as goal

pub walk_from-requires-clause-goal : goal.walk_from-requires-clause-goal
walk_from-requires-clause-goal c = c.requires.goals _ (Has-get_or c.args.goals.now c.loop-goal.goal-index 0 c.loop-goal-test.true)

pub returns-in-Some : goal.returns-in-Some
returns-in-Some c =
    let w = subst (λ o. Walks (row c.args.rows.now) [] (reverse c.loop-goal.order.items) (get_or c.args.goals.now c.loop-goal.goal-index 0 ∷ []) (ending o (reverse c.walk_from.new.order.items))) c.in-Some.is c.in_ok-path.ensures.end in
    path_closed c.args.rows.now c.args.goals.now c.loop-goal.goal-index c.loop-goal.marks.items c.loop-goal.order.items c.in-Some.path.items c.loop-goal-test.true c.loop-goal.invariant w

pub loop-goal-preserved : goal.loop-goal-preserved
loop-goal-preserved c =
    let w = subst (λ o. Walks (row c.args.rows.now) [] (reverse c.loop-goal.order.items) (get_or c.args.goals.now c.loop-goal.goal-index 0 ∷ []) (ending o (reverse c.walk_from.new.order.items))) c.in_default.is c.in_ok-path.ensures.end in
    let are = subst (λ o. IfNone o (AreMarks c.walk_from.new.marks [] (reverse c.walk_from.new.order.items))) c.in_default.is c.in_ok-path.ensures.marks in
    let size : length c.walk_from.new.marks ≡ c.loop-goal.marks.len = omega (arith, c.loop-goal.marks.ok.0) in
    let same : length c.walk_from.new.marks ≡ length c.loop-goal.marks.items = omega (arith, c.loop-goal.marks.ok.0) in
    subst (λ (l : List Mark). HasWalked c.args.rows.now c.args.goals.now (c.loop-goal.goal-index + 1) l
    c.walk_from.new.order.items) (sym (with_items_is c.loop-goal.marks c.walk_from.new.marks size))
    (one_more c.args.rows.now c.args.goals.now c.loop-goal.goal-index c.loop-goal.marks.items
    c.walk_from.new.marks c.loop-goal.order.items c.walk_from.new.order.items c.loop-goal-test.true
    c.loop-goal.invariant w are same)

pub returns : goal.returns
returns c = all_walked c.args.rows.now c.args.goals.now c.loop-goal.goal-index c.loop-goal.marks.items c.loop-goal.order.items (omega arith) c.loop-goal.invariant
