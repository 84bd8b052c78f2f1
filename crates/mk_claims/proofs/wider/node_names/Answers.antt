use Rattle.std.proofs.Common.{◌<◌, ◌∙◌, List, ap, sym, subst, map, length, arith}
use Rattle.mk_graph.specs.declared.node.Node.{Node}
use Rattle.mk_graph.specs.Membership.{IsDistinct}
use Rattle.mk_subject.proofs.Numbers.{names_more}
use Rattle.mk_claims.proofs.wider.node_names.Goals as goal

pub loop-node-preserved : goal.loop-node-preserved
loop-node-preserved c =
    let nodes = c.nodes-nodes.result.now in
    let i = c.loop-node.node-index in
    let lt : i < length nodes = omega arith in
    let distinct : IsDistinct (map (λ (n : Node). n.name) nodes) = subst (λ (ns : List Node). IsDistinct (map (λ (n : Node). n.name) ns)) (sym c.nodes-nodes.ensures.value) c.nodes-nodes.ensures.graph.sound.names in
    names_more nodes i c.node-item.result c.loop-node.names c.insert.new.self c.as_str.result.now distinct lt c.loop-node.invariant (c.as_str.ensures ∙ ap (λ (n : Node). n.name) c.node-item.is) c.in_ok-insert.ensures.ok
