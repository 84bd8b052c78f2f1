use Rattle.std.proofs.Common.{◌+◌, ◌<◌, ℕ, List, length, get_or, take, sym, subst, ◌∙◌, arith}
use Rattle.mk_lemmas.proofs.Members.{Has-get_or}
use Rattle.mk_graph_ready.specs.Stages.{Wants}
use Rattle.mk_graph_ready.proofs.Stepping.{wants_one, wants_had}
use Rattle.mk_graph_ready.proofs.state.want_all.Goals as goal

pub write_one-requires : goal.write_one-requires
write_one-requires c =
    let low = c.requires _ (Has-get_or c.args.group.now c.loop-number.number-index 0 c.loop-number-test.true) in
    let many = c.loop-number.invariant.many in
    omega arith

pub loop-number-preserved-then-at-ne-NEW : goal.loop-number-preserved-then-at-ne-NEW
loop-number-preserved-then-at-ne-NEW c =
    wants_had c.args.stages.now c.loop-number.stages c.args.group.now c.loop-number.number-index c.loop-number-test.true (λ e. c.if-at-ne-NEW.true (c.at.ensures ∙ e)) c.loop-number.invariant

pub loop-number-preserved : goal.loop-number-preserved
loop-number-preserved c =
    let k = get_or c.args.group.now c.loop-number.number-index 0 in
    let few = c.requires k (Has-get_or c.args.group.now c.loop-number.number-index 0 c.loop-number-test.true) in
    let many = c.loop-number.invariant.many in
    let low : k < length c.loop-number.stages = omega arith in
    subst (λ (l : List ℕ). Wants c.args.stages.now l (take (c.loop-number.number-index + 1) c.args.group.now)) (sym c.write_one.ensures)
    (wants_one c.args.stages.now c.loop-number.stages c.args.group.now c.loop-number.number-index c.loop-number-test.true low (sym c.at.ensures ∙ c.if-at-ne-NEW.false) c.loop-number.invariant)
