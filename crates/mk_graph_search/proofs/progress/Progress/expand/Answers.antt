-- Each turn looks at one more successor, and behind the last one the node is done.
use Rattle.mk_graph_search.specs.Ways.{successors}
use Rattle.mk_graph_search.proofs.Going.{looks_on, stands_done}
use Rattle.mk_graph_search.proofs.progress.Progress.expand.Goals as goal

pub loop-self-preserved : goal.loop-self-preserved
loop-self-preserved c =
    looks_on c.args.rows.now c.row_of-row.result.now c.args.self.now.start c.args.self.now.at c.loop-self.self.start c.loop-self.self.visits c.visit.new.self c.loop-self.self.at c.loop-self.self.looked c.loop-self.invariant c.loop-self-test.true c.in_ok-visit.ensures.ok

pub returns-clause-stands : goal.returns-clause-stands
returns-clause-stands c =
    let i = c.loop-self.invariant in
    stands_done (successors c.args.rows.now) c.args.self.now.start c.loop-self.self.visits c.loop-self.self.at c.loop-self.self.looked i.stands i.more c.row_of-row.result.now i.row_is c.loop-self-test.false
