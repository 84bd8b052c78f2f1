-- At the start the nodes lie along the way, the start last.
use Rattle.std.proofs.Common.{◌≡◌, arith}
use Rattle.mk_graph_search.specs.Ways.{successors}
use Rattle.mk_graph_search.proofs.Going.{back_at_start}
use Rattle.mk_graph_search.proofs.progress.Progress.along.Goals as goal

pub returns : goal.returns
returns c =
    let self = c.args.self.now in
    let at_start : c.loop-at.at ≡ 0 = omega arith in
    rw (c.reverse.ensures.items, c.in_ok-push-2.ensures.items) (back_at_start (successors c.args.rows.now) self.start self.visits c.loop-at.nodes.items self.at self.looked c.loop-at.at c.args.place c.requires.stands c.requires.within c.loop-at.invariant.1 at_start)
