-- What is left of the order gives what is left of the turns.
use Rattle.std.proofs.Common.{◌++◌, ◌∙◌, ap, refl, drop, List, ℕ, ◌+◌}
use Rattle.std.proofs.lemmas.Bool.{false≢true}
use Rattle.mk_graph.specs.Without.{until}
use Rattle.mk_graph.proofs.TurnPast.{kept}
use Rattle.mk_graph.proofs.TurnLoops.{passes_over, takes_in, stops_at, all_taken}
use Rattle.mk_graph.proofs.schedule.free_until.Goals as goal
use Rattle.mk_graph.proofs.schedule.free_until.Goals.{else-loop-n-test, then-loop-n-test+else-not-has+then-n-t}

pub loop-n-preserved-then-not-has : goal.loop-n-preserved-then-not-has
loop-n-preserved-then-not-has c = passes_over c.args.t c.args.free.now c.args.order.now c.loop-n.turns.items _ c.loop-n.n-index c.loop-n.invariant c.loop-n-test.true (λ h. false≢true (c.if-not-has.ensures.1 h))

pub loop-n-preserved : goal.loop-n-preserved
loop-n-preserved c =
    let on = takes_in c.args.t c.args.free.now c.args.order.now c.loop-n.turns.items _ c.loop-n.n-index c.loop-n.invariant c.loop-n-test.true (c.if-not-has.ensures.0 refl) c.if-n-t.false in
    ap (λ (l : List ℕ). l ++ until c.args.t (kept c.args.free.now (drop (c.loop-n.n-index + 1) c.args.order.now))) c.in_ok-push.ensures.items ∙ on

pub returns : goal.returns
returns c =
    elim c.loop-n-test.branch [
      | else-loop-n-test w ↦ all_taken c.args.t c.args.free.now c.args.order.now
          c.loop-n.turns.items _ c.loop-n.n-index c.loop-n.invariant w.loop-n-test.false
      | then-loop-n-test+else-not-has+then-n-t w ↦ stops_at c.args.t c.args.free.now c.args.order.now
          c.loop-n.turns.items _ c.loop-n.n-index c.loop-n.invariant w.loop-n-test.true
          (w.if-not-has.ensures.0 refl) w.if-n-t.true
    ]
