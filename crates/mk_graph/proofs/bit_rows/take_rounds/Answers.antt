-- A round lowers the sum, or nothing was cleared in it.
use Rattle.std.proofs.Common.{◌≡◌, ℕ, List, length, sym, subst, arith}
use Rattle.mk_graph.specs.BitRows.{RowLacks, PassesGates, PassesTargets}
use Rattle.mk_graph.proofs.RowBits.{round_falls}
use Rattle.mk_graph.proofs.bit_rows.take_rounds.Goals as goal

pub returns-then-after-before-clause-settled : goal.returns-then-after-before-clause-settled
returns-then-after-before-clause-settled c =
    let g = c.args.graph.now in
    let stride = c.args.stride in
    let first = c.loop-before.first in
    let done = c.loop-before.done in
    let new_first = c.pass_backwards.new.first in
    let new_done = c.pass_forwards.new.done in
    let long_first = c.requires.first.long in
    let long_done = c.requires.done.long in
    let of_first = round_falls stride (length g.nodes) first new_first (omega arith) (omega arith) c.pass_backwards.ensures.stays c.sum_of-in-loop-before.ensures.fits in
    let of_done = round_falls stride (length g.nodes) done new_done (omega arith) (omega arith) c.pass_forwards.ensures.stays c.sum_of-in-loop-before-2.ensures.fits in
    let was = c.loop-before.invariant.before in
    let first_falls = of_first.0 in
    let done_falls = of_done.0 in
    let same_first : new_first ≡ first = of_first.1 (omega arith) in
    let same_done : new_done ≡ done = of_done.1 (omega arith) in
    record {
      goals = λ n o h. c.pass_backwards.ensures.stays n o (c.loop-before.invariant.goals n o h);
      gates = subst (λ (l : List ℕ). PassesGates g (RowLacks stride new_first) (RowLacks stride l)
          (RowLacks stride new_first)) (sym same_done) (subst
          (λ (l : List ℕ). PassesGates g (RowLacks stride l) (RowLacks stride done)
          (RowLacks stride new_first)) (sym same_first) c.pass_backwards.ensures.gates);
      targets = subst (λ (l : List ℕ). PassesTargets g (RowLacks stride new_first) (RowLacks stride l) (RowLacks stride new_done)) (sym same_done) c.pass_forwards.ensures.targets;
      wanted = c.pass_backwards.ensures.wanted;
      free = c.pass_forwards.ensures.free;
    }

pub loop-before-smaller : goal.loop-before-smaller
loop-before-smaller c =
    let g = c.args.graph.now in
    let stride = c.args.stride in
    let long_first = c.requires.first.long in
    let long_done = c.requires.done.long in
    let of_first = (round_falls stride (length g.nodes) c.loop-before.first c.pass_backwards.new.first (omega arith) (omega arith) c.pass_backwards.ensures.stays c.sum_of-in-loop-before.ensures.fits).0 in
    let of_done = (round_falls stride (length g.nodes) c.loop-before.done c.pass_forwards.new.done (omega arith) (omega arith) c.pass_forwards.ensures.stays c.sum_of-in-loop-before-2.ensures.fits).0 in
    let was = c.loop-before.invariant.before in
    let differ = c.if-after-before.false in
    omega arith
