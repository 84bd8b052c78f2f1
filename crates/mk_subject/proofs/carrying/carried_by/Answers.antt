use Rattle.std.proofs.Common.{◌≡◌, ◌+◌, ◌<◌, ◌∷◌, ◌++◌, ◌∙◌, [], ℕ, List, ap, sym, subst, get_or, length, take, append-nil, arith}
use Rattle.std.specs.List.{flat_map}
use Rattle.std.proofs.lemmas.Grind.{flat_map-append}
use Rattle.std.proofs.lemmas.List.{take_more}
use Rattle.mk_graph.specs.Graph.{Graph, prerequisites}
use Rattle.mk_graph.specs.Membership.{Has}
use Rattle.mk_subject.specs.Subject.{name_of}
use Rattle.mk_subject.specs.NodeRow.{writers_of}
use Rattle.mk_subject.proofs.Rows.{at}
use Rattle.mk_subject.proofs.carrying.carried_by.Goals as goal

pub writers_of_node-requires : goal.writers_of_node-requires
writers_of_node-requires c =
    let x = c.args.subject.now in
    let ps = c.prerequisites-prerequisites.result.now in
    let i = c.loop-prerequisite.prerequisite-index in
    let lt : i < length ps = omega arith in
    let same : ps ≡ prerequisites x.graph c.args.number = c.prerequisites-prerequisites.ensures ∙ ap (λ (g : Graph). prerequisites g c.args.number) c.graph.ensures.value in
    c.graph.ensures.graph.sound.edges c.args.number (get_or ps i 0) (subst (λ (l : List ℕ). Has l (get_or ps i 0)) same (at ps i 0 lt))

pub loop-prerequisite-preserved : goal.loop-prerequisite-preserved
loop-prerequisite-preserved c =
    let x = c.args.subject.now in
    let ps = c.prerequisites-prerequisites.result.now in
    let i = c.loop-prerequisite.prerequisite-index in
    let p = get_or ps i 0 in
    let lt : i < length ps = omega arith in
    let f = λ (q : ℕ). writers_of x (name_of x q) in
    let more : flat_map f (take (i + 1) ps) ≡ flat_map f (take i ps) ++ f p = ap (flat_map f) (take_more ps i 0 lt) ∙ (flat_map-append f (take i ps) (p ∷ []) ∙ ap (λ (l : List ℕ). flat_map f (take i ps) ++ l) (append-nil (f p))) in
    c.in_ok-extend_from_slice.ensures.items ∙ (ap (λ (l : List ℕ). l ++ c.writers_of_node.result.now) c.loop-prerequisite.invariant ∙ (ap (λ (l : List ℕ). flat_map f (take i ps) ++ l) c.writers_of_node.ensures ∙ sym more))
