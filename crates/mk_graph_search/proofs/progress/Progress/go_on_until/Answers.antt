-- One more node is done in each turn, and there are only so many.
use Rattle.std.proofs.Common.{◌≡◌, ◌+◌, ◌<◌, length, inl, subst, arith, ℕ}
use Rattle.mk_graph_search.proofs.Going.{few_visits, node_found}
use Rattle.mk_graph_search.proofs.progress.Progress.go_on_until.Goals as goal

pub loop-self-smaller : goal.loop-self-smaller
loop-self-smaller c =
    let self = c.loop-self.self in
    let few = few_visits c.args.rows.now c.args.self.now.start self.visits self.at self.looked c.loop-self.invariant.1 in
    let on : c.expand.new.self.at ≡ self.at + 1 = c.in_ok-expand.ensures.on in
    let more : self.at < length self.visits = subst (λ (k : ℕ). self.at < k) c.len.ensures c.if-self-len.true in
    omega (arith, few, on, more)

pub returns-after-loop-self-clause-reached : goal.returns-after-loop-self-clause-reached
returns-after-loop-self-clause-reached c =
    inl (node_found c.loop-self.self.visits c.args.node c.place_of.result c.place_of.ensures c.loop-self-test.ensures)
