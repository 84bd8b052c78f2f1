-- The name of a node stands at its place.
use Rattle.std.proofs.Common.{◌≡◌, ◌∙◌, ◌<◌, [], ℕ, ap, Some, get_or, length, arith}
use Rattle.std.specs.Prelude.{slice_get}
use Rattle.std.proofs.lemmas.List.{get_or-map, get_or_default, length-map}
use Rattle.mk_lemmas.proofs.Texts.{texts}
use Rattle.mk_graph.specs.declared.node.Node.{Node}
use Rattle.mk_graph.specs.Graph.{no_node}
use Rattle.mk_subject.specs.FileInfo.{all_names, known_of}
use Rattle.mk_subject.specs.Subject.{name_of}
use Rattle.mk_subject.proofs.KnownFiles.{FileAt, file_at}
use Rattle.mk_subject.proofs.TablesOf.{files_held}
use Rattle.mk_subject.proofs.subject.Subject.file_of_node.Goals as goal

pub index-place-requires : goal.index-place-requires
index-place-requires c =
    let x = c.args.self.now in
    let t = c.self.inside.tables in
    let held = files_held _ x t c.self.view_is c.self.invariant in
    let names = texts t.files.names.keys in
    let nodes = t.files.nodes.items in
    let n = c.args.number in
    let low : n < length (all_names x) = omega (arith, c.requires, length-map x.graph.nodes (λ (k : Node). k.name)) in
    let at : FileAt names t.files.known.items nodes (all_names x) n = file_at (known_of x) names t.files.known.items nodes (all_names x) n held.known_held held.nodes_held low in
    omega (arith, at.place, t.files.nodes.ok.0)

pub target_at-requires : goal.target_at-requires
target_at-requires c =
    let x = c.args.self.now in
    let t = c.self.inside.tables in
    let held = files_held _ x t c.self.view_is c.self.invariant in
    let names = texts t.files.names.keys in
    let nodes = t.files.nodes.items in
    let n = c.args.number in
    let low : n < length (all_names x) = omega (arith, c.requires, length-map x.graph.nodes (λ (k : Node). k.name)) in
    let at : FileAt names t.files.known.items nodes (all_names x) n = file_at (known_of x) names t.files.known.items nodes (all_names x) n held.known_held held.nodes_held low in
    let place : c.index-place.result.now ≡ get_or nodes n 0 = c.index-place.ensures ∙ get_or_default nodes n c.index-place.result.now 0 at.place in
    omega (arith, at.within, place)

pub returns : goal.returns
returns c =
    let x = c.args.self.now in
    let t = c.self.inside.tables in
    let held = files_held _ x t c.self.view_is c.self.invariant in
    let names = texts t.files.names.keys in
    let nodes = t.files.nodes.items in
    let n = c.args.number in
    let low : n < length (all_names x) = omega (arith, c.requires, length-map x.graph.nodes (λ (k : Node). k.name)) in
    let at : FileAt names t.files.known.items nodes (all_names x) n = file_at (known_of x) names t.files.known.items nodes (all_names x) n held.known_held held.nodes_held low in
    let place : c.index-place.result.now ≡ get_or nodes n 0 = c.index-place.ensures ∙ get_or_default nodes n c.index-place.result.now 0 at.place in
    let named : get_or (all_names x) n [] ≡ name_of x n = get_or-map (λ (k : Node). k.name) x.graph.nodes n no_node [] c.requires in
    c.target_at.ensures x (name_of x n) held.known_held (ap (λ (k : ℕ). slice_get names k) place ∙ (at.here ∙ ap (λ f. Some f) named))
