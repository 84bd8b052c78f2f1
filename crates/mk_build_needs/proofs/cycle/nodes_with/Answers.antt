-- One more node stands behind those before it.
use Rattle.std.proofs.Common.{◌++◌}
use Rattle.mk_graph.specs.Graph.{prerequisites}
use Rattle.mk_graph.specs.Progress.{row}
use Rattle.mk_build_needs.proofs.Graphs.{one_node_more}
use Rattle.mk_build_needs.proofs.cycle.nodes_with.Goals as goal

pub loop-number-preserved : goal.loop-number-preserved
loop-number-preserved c =
    one_node_more c.args.graph.now (λ n. prerequisites c.args.graph.now n ++ row c.args.more.now n) c.loop-number.number c.loop-number.nodes.items c.push.new.self.items c.in_ok-node_with.field-0
    c.loop-number.invariant c.in_ok-node_with.ensures c.in_ok-push.ensures.items
