use Rattle.std.proofs.Common.{◌≡◌, ◌+◌, ◌<◌, ◌∷◌, ◌∙◌, [], ℕ, List, true, false, ap, sym, subst, get_or, length, map, drop, arith}
use Rattle.std.specs.Prelude.{bytes_eq}
use Rattle.std.proofs.lemmas.Bool.{true≢false, not-false, not-true}
use Rattle.std.proofs.lemmas.List.{drop_more, get_or_default}
use Rattle.std.proofs.lemmas.Slice.Eq.{bytes_eq-Decides}
use Rattle.mk_graph.specs.declared.node.Node.{Node}
use Rattle.mk_graph.specs.Graph.{Graph, node, no_node}
use Rattle.mk_graph.specs.Membership.{Has}
use Rattle.mk_subject.specs.Subject.{name_of}
use Rattle.mk_subject.proofs.Rows.{at}
use Rattle.mk_cert.proofs.Walks.{first_same, rest_same}
use Rattle.mk_cert.proofs.verifying.has_goals.Goals as goal

pub offset_bounds-nodes-goal : goal.offset_bounds-nodes-goal
offset_bounds-nodes-goal c =
    let goals = c.goals-goals.result.now in
    let i = c.loop-place.place in
    let lt : i < length goals = omega arith in
    let low : get_or goals i 0 < length c.graph-graph.result.now.nodes = c.goals-goals.ensures.graph.sound.goals (get_or goals i 0) (subst (λ (l : List ℕ). Has l (get_or goals i 0)) c.goals-goals.ensures.value (at goals i 0 lt)) in
    omega (arith, c.goals-goals.ensures.graph.few)

pub bounds-nodes-goal : goal.bounds-nodes-goal
bounds-nodes-goal c =
    let goals = c.goals-goals.result.now in
    let i = c.loop-place.place in
    let lt : i < length goals = omega arith in
    let low : get_or goals i 0 < length c.graph-graph.result.now.nodes = c.goals-goals.ensures.graph.sound.goals (get_or goals i 0) (subst (λ (l : List ℕ). Has l (get_or goals i 0)) c.goals-goals.ensures.value (at goals i 0 lt)) in
    omega (arith, ap (λ (l : List Node). length l) c.nodes-nodes.ensures.value)

pub returns-then-ne : goal.returns-then-ne
returns-then-ne c =
    let x = c.args.subject.now in
    let name = name_of x in
    let names = c.args.names.now in
    let goals = c.goals-goals.result.now in
    let i = c.loop-place.place in
    let n = get_or goals i 0 in
    let a = get_or names i [] in
    let lt : i < length goals = omega arith in
    let less : i < length names = omega arith in
    let low : n < length c.nodes-nodes.result.now = omega (arith, c.goals-goals.ensures.graph.sound.goals n (subst (λ (l : List ℕ). Has l n) c.goals-goals.ensures.value (at goals i 0 lt)), ap (λ (l : List Node). length l) c.nodes-nodes.ensures.value) in
    let this : get_or c.nodes-nodes.result.now n c.index-nodes-goal.result
    ≡ node x.graph n = get_or_default c.nodes-nodes.result.now n c.index-nodes-goal.result no_node low
    ∙ (ap (λ (l : List Node). get_or l n no_node) c.nodes-nodes.ensures.value
    ∙ ap (λ (g : Graph). node g n) c.graph-graph.ensures.value) in
    let left : c.at.result.now ≡ a = c.at.ensures in
    let right : c.as_str.result.now ≡ name n = c.as_str.ensures ∙ ap (λ (v : Node). v.name) this in
    let differ : bytes_eq c.at.result.now c.as_str.result.now ≡ false = not-true (bytes_eq c.at.result.now c.as_str.result.now) (sym c.ne.ensures ∙ c.if-ne.true) in (
      (λ t. absurd (let e : false ≡ true = t in cc)),
      λ h.
          let same : a ∷ drop (i + 1) names ≡ name n ∷ map name (drop (i + 1) goals) = sym (drop_more names i [] less) ∙ (c.loop-place.invariant.1 h ∙ ap (map name) (drop_more goals i 0 lt)) in
          absurd (true≢false (sym ((bytes_eq-Decides c.at.result.now c.as_str.result.now).1 (left ∙ (first_same a (name n) (drop (i + 1) names) (map name (drop (i + 1) goals)) same ∙ sym right))) ∙ differ)),
    )

pub loop-place-preserved : goal.loop-place-preserved
loop-place-preserved c =
    let x = c.args.subject.now in
    let name = name_of x in
    let names = c.args.names.now in
    let goals = c.goals-goals.result.now in
    let i = c.loop-place.place in
    let n = get_or goals i 0 in
    let a = get_or names i [] in
    let lt : i < length goals = omega arith in
    let less : i < length names = omega arith in
    let low : n < length c.nodes-nodes.result.now = omega (arith, c.goals-goals.ensures.graph.sound.goals n (subst (λ (l : List ℕ). Has l n) c.goals-goals.ensures.value (at goals i 0 lt)), ap (λ (l : List Node). length l) c.nodes-nodes.ensures.value) in
    let this : get_or c.nodes-nodes.result.now n c.index-nodes-goal.result
    ≡ node x.graph n = get_or_default c.nodes-nodes.result.now n c.index-nodes-goal.result no_node low
    ∙ (ap (λ (l : List Node). get_or l n no_node) c.nodes-nodes.ensures.value
    ∙ ap (λ (g : Graph). node g n) c.graph-graph.ensures.value) in
    let left : c.at.result.now ≡ a = c.at.ensures in
    let right : c.as_str.result.now ≡ name n = c.as_str.ensures ∙ ap (λ (v : Node). v.name) this in
    let equal : bytes_eq c.at.result.now c.as_str.result.now ≡ true = not-false (bytes_eq c.at.result.now c.as_str.result.now) (sym c.ne.ensures ∙ c.if-ne.false) in
    let here : a ≡ name n = sym left ∙ ((bytes_eq-Decides c.at.result.now c.as_str.result.now).0 equal ∙ right) in (
      λ h. c.loop-place.invariant.0 (drop_more names i [] less ∙ (ap (λ (k : List ℕ). k ∷ drop (i + 1) names) here ∙ (ap (λ (l : List (List ℕ)). name n ∷ l) h ∙ sym (ap (map name) (drop_more goals i 0 lt))))),
      λ h. rest_same a (name n) (drop (i + 1) names) (map name (drop (i + 1) goals)) (sym (drop_more names i [] less) ∙ (c.loop-place.invariant.1 h ∙ ap (map name) (drop_more goals i 0 lt))),
    )
