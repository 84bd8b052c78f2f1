-- What was tested makes the nodes and goals sound.
use Rattle.std.proofs.Common.{refl}
use Rattle.mk_graph.specs.Graph.{Graph}
use Rattle.tests_model.specs.Rows.{AreRows, HaveParents}
use Rattle.tests_model.proofs.Sound.{is_sound}
use Rattle.tests_model.proofs.graph_fixtures.is_sound.Goals as goal

pub returns : goal.returns
returns c passed =
    let g : Graph = record { nodes = c.args.nodes.now; goals = c.args.goals.now } in
    let rows : AreRows c.in_ok-rows.rows.items = rw c.deref.ensures.value at (c.if-not-are_rows.ensures refl) in
    let parents : HaveParents c.in_ok-rows.rows.items g.goals = rw c.deref-2.ensures.value at (c.have_parents.ensures passed) in
    is_sound g c.in_ok-rows.rows.items c.in_ok-rows.ensures (c.if-not-names_differ.ensures refl) rows (c.if-not-are_below.ensures refl) parents
