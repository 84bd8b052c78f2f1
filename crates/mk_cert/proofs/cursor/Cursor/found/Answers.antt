-- The cursor stands within the reads that are not settled, and the names are held against its own.
use Rattle.std.proofs.Common.{◌≡◌, ◌<◌, ◌∙◌, List, ap, sym, length, get_or, arith}
use Rattle.mk_graph.specs.declared.node.Node.{Node}
use Rattle.mk_graph.specs.Graph.{Graph, node, no_node}
use Rattle.mk_subject.specs.Target.{Target, unsettled_of}
use Rattle.mk_cert.proofs.ReadOf.{found_there, same_names}
use Rattle.mk_cert.proofs.cursor.Cursor.found.Goals as goal

pub returns : goal.returns
returns c =
    let x = c.args.subject.now in
    let t = c.in_ok-number.field-0.now in
    let nodes : c.nodes.result.now ≡ x.graph.nodes = c.nodes.ensures.value ∙ ap (λ (g : Graph). g.nodes) c.graph.ensures.value in
    let this : c.in_ok-node.node.now ≡ node x.graph t = c.in_ok-node.ensures.lookup.3.1 no_node ∙ ap (λ (ns : List Node). get_or ns t no_node) nodes in
    let named : c.as_str.result.now ≡ c.args.recipe.now = same_names _ _ c.ne.result c.ne.ensures c.if-ne.false in
    let same : c.target.inside.file.now ≡ c.args.file.now = same_names _ _ c.ne-2.result c.ne-2.ensures c.if-ne-2.false in
    let within : c.args.self.now.read < length (unsettled_of x t) = omega (arith, c.if-self-count.false, c.count_of_unsettled-count.ensures) in
    found_there x c.args.recipe.now c.args.file.now t c.args.self.now.read c.unsettled-target.result within c.unsettled-target.ensures (ap (λ (n : Node). n.name) (sym this) ∙ (sym c.as_str.ensures ∙ named)) (ap (λ (v : Target). v.file) (sym c.target.view_is) ∙ same)
