-- A name that differs from each so far and from the next one.
use Rattle.std.proofs.lemmas.Bool.{false≢true}
use Rattle.std.proofs.lemmas.Bool.Decides.{Decides-eqb}
use Rattle.std.proofs.lemmas.Slice.Eq.{slice_eq-Decides}
use Rattle.std.proofs.Common.{◌∙◌, false}
use Rattle.mk_graph.specs.declared.node.Node.{Node}
use Rattle.tests_model.proofs.Sound.{not_Has-map_more}
use Rattle.tests_model.proofs.graph_fixtures.has_name.Goals as goal

pub loop-node-preserved : goal.loop-node-preserved
loop-node-preserved c =
    let other = slice_eq-Decides Decides-eqb c.as_str.result.now c.args.name.now false c.if-eq.ensures in
    not_Has-map_more (λ (node : Node). node.name) c.args.nodes.now c.loop-node.node-index c.node-item.result c.args.name.now c.loop-node-test.true c.node-item.is (λ e. false≢true (other.1 (c.as_str.ensures ∙ e))) c.loop-node.invariant
