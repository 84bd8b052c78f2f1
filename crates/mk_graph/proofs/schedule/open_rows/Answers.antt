-- What stands in open groups are nodes.
use Rattle.std.proofs.Common.{◌≡◌, ℕ, List, map, ap, ◌∙◌}
use Rattle.std.proofs.lemmas.List.{take_all}
use Rattle.mk_graph.specs.BitRows.{lists}
use Rattle.mk_graph.specs.declared.node.Node.{Node}
use Rattle.mk_graph.specs.Without.{opened}
use Rattle.mk_graph.proofs.TurnLoops.{rows_hold_numbers}
use Rattle.mk_graph.proofs.schedule.open_rows.Goals as goal

pub returns-clause-numbers : goal.returns-clause-numbers
returns-clause-numbers c =
    let open_node : Node → List ℕ = λ (node : Node). opened c.args.free.now node.groups in
    let are : lists c.loop-node.rows.items ≡ map open_node c.args.graph.now.nodes = c.loop-node.invariant
    ∙ (ap (λ (l : List Node). map open_node l) (take_all c.loop-node.node-index c.nodes-nodes.result.now
    c.loop-node-test.false) ∙ ap (λ (l : List Node). map open_node l) c.nodes-nodes.ensures.value) in
    rows_hold_numbers c.args.graph.now c.args.free.now c.loop-node.rows.items are c.nodes-nodes.ensures.graph
