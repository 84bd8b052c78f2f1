-- What is done without the node tells.
use Rattle.std.proofs.Common.{◌≡◌, List, get_or, true, refl, sym, ap, ◌∙◌}
use Rattle.std.proofs.lemmas.Bool.{false≢true}
use Rattle.mk_graph.specs.BitRows.{lists}
use Rattle.mk_graph.specs.declared.node.Node.{Node}
use Rattle.mk_graph.specs.Graph.{no_node, node}
use Rattle.mk_graph.proofs.AllButOne.{is_before}
use Rattle.mk_graph.proofs.Rounds.{tells}
use Rattle.mk_graph.proofs.without.Without.is_before.Goals as goal

pub returns-then-not-has : goal.returns-then-not-has
returns-then-not-has c =
    rw (← c.self.view_is) (λ e. is_before c.self.inside.graph.now c.self.inside.other c.nodes.ensures.graph c.self.inside.free c.self.invariant.0 c.args.t (λ both. false≢true (c.if-not-has.ensures.1 ((c.self.invariant.1 c.args.t).1 both.0))), λ before. refl)

pub returns : goal.returns
returns c =
    let g = c.self.inside.graph.now in
    let found = c.in-Some.ensures.lookup.3 in
    let node_is : c.in-Some.node.now ≡ node g c.args.t = found.1 no_node ∙ ap (λ (l : List Node). get_or l c.args.t no_node) c.nodes.ensures.value in
    let groups : lists c.as_slice.result.now ≡ (node g c.args.t).groups = c.as_slice.ensures ∙ ap (λ (v : Node). v.groups) node_is in
    let recipe : (node g c.args.t).recipe ≡ true = sym (ap (λ (v : Node). v.recipe) node_is) ∙ c.if-not-node.false in
    rw (← c.self.view_is) (tells g c.nodes.ensures.graph c.self.inside.other c.args.t c.self.inside.free c.self.invariant.0 recipe ((c.self.invariant.1 c.args.t).0 (c.if-not-has.ensures.0 refl)) (lists c.as_slice.result.now) groups c.has_groups.result c.has_groups.ensures)
