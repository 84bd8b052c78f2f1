-- What is left of the groups gives what is left of the row.
use Rattle.std.proofs.Common.{◌≡◌, ◌++◌, ◌∙◌, ap, refl, drop, List, ℕ, ◌+◌, sym}
use Rattle.std.proofs.lemmas.Bool.{false≢true}
use Rattle.mk_graph.specs.BitRows.{lists}
use Rattle.mk_graph.specs.Without.{opened}
use Rattle.mk_graph.proofs.Loops.{lists_more}
use Rattle.mk_graph.proofs.TurnLoops.{goes_on, ends_with, all_joined}
use Rattle.mk_graph.proofs.schedule.open_row.Goals as goal
use Rattle.mk_graph.proofs.schedule.open_row.Goals.{else-loop-group-test, then-loop-group-test+in_ok-extend_from_slice+then-not-has_all}

pub loop-group-preserved : goal.loop-group-preserved
loop-group-preserved c =
    let free = c.args.free.now in
    let numbers = c.deref-in-loop-group.result.now in
    let more = lists_more c.args.groups.now c.loop-group.group-index c.group-item.result numbers c.loop-group-test.true c.group-item.is c.deref-in-loop-group.ensures.value in
    let grown : c.extend_from_slice.new.self.items ≡ c.loop-group.row.items ++ numbers = c.in_ok-extend_from_slice.ensures.items ∙ ap (λ (l : List ℕ). c.loop-group.row.items ++ l) (c.deref.ensures.value ∙ sym c.deref-in-loop-group.ensures.value) in
    ap (λ (l : List ℕ). l ++ opened free (lists (drop (c.loop-group.group-index + 1) c.args.groups.now))) grown ∙ goes_on free c.loop-group.row.items _ c.args.groups.now c.loop-group.group-index c.loop-group.invariant numbers more (c.if-not-has_all.ensures.0 refl)

pub returns : goal.returns
returns c =
    let free = c.args.free.now in
    let groups = c.args.groups.now in
    let at = c.loop-group.group-index in
    let row = c.loop-group.row.items in
    elim c.loop-group-test.branch [
      | else-loop-group-test w ↦ rw w.row-is
          (all_joined free row _ groups at c.loop-group.invariant w.loop-group-test.false)
      | then-loop-group-test+in_ok-extend_from_slice+then-not-has_all w ↦ rw w.row-is
          (w.in_ok-extend_from_slice.ensures.items ∙ (ap (λ (l : List ℕ). row ++ l)
          (w.deref.ensures.value ∙ sym w.deref-in-loop-group.ensures.value)
          ∙ ends_with free row _ groups at c.loop-group.invariant w.deref-in-loop-group.result.now
          (lists_more groups at w.group-item.result w.deref-in-loop-group.result.now w.loop-group-test.true
          w.group-item.is w.deref-in-loop-group.ensures.value)
          (λ all. false≢true (w.if-not-has_all.ensures.1 all))))
    ]
