use Rattle.std.proofs.Common.{◌+◌, ◌<◌, ℕ, List, length, get_or, take, sym, subst, ◌∙◌, arith}
use Rattle.mk_lemmas.proofs.Members.{Has-get_or}
use Rattle.mk_graph_ready.specs.Stages.{Wakes}
use Rattle.mk_graph_ready.proofs.Stepping.{wakes_one, wakes_none}
use Rattle.mk_graph_ready.proofs.state.wake.Goals as goal

pub write_one-requires : goal.write_one-requires
write_one-requires c =
    let low = c.requires _ (Has-get_or c.args.numbers.now c.loop-number.number-index 0 c.loop-number-test.true) in
    let many = c.loop-number.invariant.many in
    omega arith

pub loop-number-preserved-then-at-eq-NEW : goal.loop-number-preserved-then-at-eq-NEW
loop-number-preserved-then-at-eq-NEW c =
    wakes_none c.args.stages.now c.loop-number.stages c.args.numbers.now c.loop-number.number-index c.loop-number-test.true (sym c.at.ensures ∙ c.if-at-eq-NEW.true) c.loop-number.invariant

pub loop-number-preserved : goal.loop-number-preserved
loop-number-preserved c =
    let k = get_or c.args.numbers.now c.loop-number.number-index 0 in
    let few = c.requires k (Has-get_or c.args.numbers.now c.loop-number.number-index 0 c.loop-number-test.true) in
    let many = c.loop-number.invariant.many in
    let low : k < length c.loop-number.stages = omega arith in
    subst (λ (l : List ℕ). Wakes c.args.stages.now l (take (c.loop-number.number-index + 1) c.args.numbers.now)) (sym c.write_one.ensures)
    (wakes_one c.args.stages.now c.loop-number.stages c.args.numbers.now c.loop-number.number-index c.loop-number-test.true low (λ e. c.if-at-eq-NEW.false (c.at.ensures ∙ e)) c.loop-number.invariant)
