-- The name of a node stands at its place.
use Rattle.std.proofs.Common.{◌≡◌, ◌∙◌, ◌<◌, [], ℕ, List, ap, get_or, length, arith}
use Rattle.std.proofs.lemmas.List.{get_or-map, get_or_default, length-map}
use Rattle.mk_lemmas.proofs.Texts.{texts}
use Rattle.mk_graph.specs.declared.node.Node.{Node}
use Rattle.mk_graph.specs.Graph.{no_node}
use Rattle.mk_subject.specs.FileInfo.{FileInfo, all_names, known_of}
use Rattle.mk_subject.specs.Subject.{name_of}
use Rattle.mk_subject.proofs.KnownFiles.{FileAt, file_at, known_at}
use Rattle.mk_subject.proofs.TablesOf.{files_held}
use Rattle.mk_subject.proofs.subject.Subject.writers_of_node.Goals as goal

pub index-at-requires : goal.index-at-requires
index-at-requires c =
    let x = c.args.self.now in
    let t = c.self.inside.tables in
    let held = files_held _ x t c.self.view_is c.self.invariant in
    let names = texts t.files.names.keys in
    let nodes = t.files.nodes.items in
    let n = c.args.number in
    let low : n < length (all_names x) = omega (arith, c.requires, length-map x.graph.nodes (λ (k : Node). k.name)) in
    let at : FileAt names t.files.known.items nodes (all_names x) n = file_at (known_of x) names t.files.known.items nodes (all_names x) n held.known_held held.nodes_held low in
    omega (arith, at.place, t.files.nodes.ok.0)

pub index-requires : goal.index-requires
index-requires c =
    let x = c.args.self.now in
    let t = c.self.inside.tables in
    let held = files_held _ x t c.self.view_is c.self.invariant in
    let names = texts t.files.names.keys in
    let nodes = t.files.nodes.items in
    let n = c.args.number in
    let low : n < length (all_names x) = omega (arith, c.requires, length-map x.graph.nodes (λ (k : Node). k.name)) in
    let at : FileAt names t.files.known.items nodes (all_names x) n = file_at (known_of x) names t.files.known.items nodes (all_names x) n held.known_held held.nodes_held low in
    let place : c.index-at.result.now ≡ get_or nodes n 0 = c.index-at.ensures ∙ get_or_default nodes n c.index-at.result.now 0 at.place in
    omega (arith, at.within, place, t.files.known.ok.0)

pub returns : goal.returns
returns c =
    let x = c.args.self.now in
    let t = c.self.inside.tables in
    let held = files_held _ x t c.self.view_is c.self.invariant in
    let names = texts t.files.names.keys in
    let nodes = t.files.nodes.items in
    let n = c.args.number in
    let low : n < length (all_names x) = omega (arith, c.requires, length-map x.graph.nodes (λ (k : Node). k.name)) in
    let at : FileAt names t.files.known.items nodes (all_names x) n = file_at (known_of x) names t.files.known.items nodes (all_names x) n held.known_held held.nodes_held low in
    let place : c.index-at.result.now ≡ get_or nodes n 0 = c.index-at.ensures ∙ get_or_default nodes n c.index-at.result.now 0 at.place in
    let named : get_or (all_names x) n [] ≡ name_of x n = get_or-map (λ (k : Node). k.name) x.graph.nodes n no_node [] c.requires in
    let known : c.index.result.now ≡ known_of x (get_or (all_names x) n []) = c.index.ensures
    ∙ (ap (λ (k : ℕ). get_or t.files.known.items k c.index.result.now) place
    ∙ known_at (known_of x) names t.files.known.items (get_or nodes n 0) (get_or (all_names x) n [])
    c.index.result.now held.known_held at.here) in
    c.as_slice.ensures ∙ (ap (λ (k : FileInfo). k.writers) (c.behind-self.view_is ∙ known) ∙ ap (λ (f : List ℕ). (known_of x f).writers) named)
