-- One more node is done in each turn, and there are only so many.
use Rattle.std.proofs.Common.{◌≡◌, ◌+◌, ◌<◌, length, subst, arith, ℕ}
use Rattle.mk_graph_search.proofs.Going.{few_visits}
use Rattle.mk_graph_search.proofs.progress.Progress.go_on_to.Goals as goal

pub loop-self-smaller : goal.loop-self-smaller
loop-self-smaller c =
    let self = c.loop-self.self in
    let few = few_visits c.args.rows.now c.args.self.now.start self.visits self.at self.looked c.loop-self.invariant.1 in
    let on : c.expand.new.self.at ≡ self.at + 1 = c.in_ok-expand.ensures.on in
    let more : self.at < length self.visits = subst (λ (k : ℕ). self.at < k) c.len-in-loop-self.ensures c.if-self-len.true in
    omega (arith, few, on, more)
