-- The search begins at the start alone.
use Rattle.mk_graph_search.specs.Ways.{successors}
use Rattle.mk_graph_search.proofs.Going.{stands_first}
use Rattle.mk_graph_search.proofs.search.Search.new.Goals as goal

pub invariant_of-result : goal.invariant_of-result
invariant_of-result c =
    rw (c.in_ok-new.ensures.start, c.in_ok-new.ensures.visits, c.in_ok-new.ensures.at, c.in_ok-new.ensures.looked) (stands_first (successors c.args.rows.now) c.args.start)
