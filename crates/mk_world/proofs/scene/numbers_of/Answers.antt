use Rattle.std.proofs.Common.{List, map, sym, ap, subst, ◌∙◌}
use Rattle.mk_graph.specs.declared.node.Node.{Node}
use Rattle.mk_graph.specs.Membership.{IsDistinct}
use Rattle.mk_world.proofs.Numbers.{names_more}
use Rattle.mk_world.proofs.scene.numbers_of.Goals as goal

pub loop-node-preserved : goal.loop-node-preserved
loop-node-preserved c =
    let distinct = subst (λ (ns : List Node). IsDistinct (map (λ (n : Node). n.name) ns)) (sym c.nodes-nodes.ensures.value) c.nodes-nodes.ensures.graph.sound.names in
    names_more c.nodes-nodes.result.now c.loop-node.node-index c.node-item.result c.loop-node.names c.insert.new.self c.as_str.result.now distinct c.loop-node-test.true c.loop-node.invariant (c.as_str.ensures ∙ ap (λ (n : Node). n.name) c.node-item.is) c.in_ok-insert.ensures.ok
