use Rattle.std.proofs.Common.{◌≡◌, ◌<◌, ◌∙◌, ℕ, List, ap, sym, get_or, length, refl, ⊎_elim, arith}
use Rattle.std.proofs.lemmas.Bool.{true≢false}
use Rattle.std.proofs.lemmas.List.{get_or_default}
use Rattle.mk_graph.specs.declared.node.Node.{Node}
use Rattle.mk_graph.specs.Graph.{node, no_node}
use Rattle.mk_subject.proofs.Rows.{at, in_take_more}
use Rattle.mk_subject.proofs.way_tables.some_phony.Goals as goal

pub offset_bounds-nodes-number : goal.offset_bounds-nodes-number
offset_bounds-nodes-number c =
    let ns = c.args.numbers.now in
    let i = c.loop-number.number-index in
    let lt : i < length ns = omega arith in
    let low : get_or ns i 0 < length c.args.graph.now.nodes = c.requires (get_or ns i 0) (at ns i 0 lt) in
    omega (arith, c.nodes-nodes.ensures.graph.few)

pub bounds-nodes-number : goal.bounds-nodes-number
bounds-nodes-number c =
    let ns = c.args.numbers.now in
    let i = c.loop-number.number-index in
    let lt : i < length ns = omega arith in
    let low : get_or ns i 0 < length c.args.graph.now.nodes = c.requires (get_or ns i 0) (at ns i 0 lt) in
    omega (arith, ap (λ (l : List Node). length l) c.nodes-nodes.ensures.value)

pub bounds-nodes-number-in-loop-number : goal.bounds-nodes-number-in-loop-number
bounds-nodes-number-in-loop-number c =
    let ns = c.args.numbers.now in
    let i = c.loop-number.number-index in
    let lt : i < length ns = omega arith in
    let low : get_or ns i 0 < length c.args.graph.now.nodes = c.requires (get_or ns i 0) (at ns i 0 lt) in
    omega (arith, ap (λ (l : List Node). length l) c.nodes-nodes.ensures.value)

pub returns-then-nodes-number : goal.returns-then-nodes-number
returns-then-nodes-number c =
    let ns = c.args.numbers.now in
    let i = c.loop-number.number-index in
    let lt : i < length ns = omega arith in
    let p = get_or ns i 0 in
    let low : p < length c.nodes-nodes.result.now = omega (arith, c.requires p (at ns i 0 lt), ap (λ (l : List Node). length l) c.nodes-nodes.ensures.value) in
    let this : get_or c.nodes-nodes.result.now p c.index-nodes-number.result ≡ node c.args.graph.now p = get_or_default c.nodes-nodes.result.now p c.index-nodes-number.result no_node low ∙ ap (λ (l : List Node). get_or l p no_node) c.nodes-nodes.ensures.value in
    ((λ t. (p, at ns i 0 lt, sym (ap (λ (v : Node). v.phony) this) ∙ c.if-nodes-number.true)), (λ h. refl))

pub loop-number-preserved : goal.loop-number-preserved
loop-number-preserved c = λ k stands phony.
    let ns = c.args.numbers.now in
    let i = c.loop-number.number-index in
    let lt : i < length ns = omega arith in
    let p = get_or ns i 0 in
    let low : p < length c.nodes-nodes.result.now = omega (arith, c.requires p (at ns i 0 lt), ap (λ (l : List Node). length l) c.nodes-nodes.ensures.value) in
    let this : get_or c.nodes-nodes.result.now p c.index-nodes-number.result ≡ node c.args.graph.now p = get_or_default c.nodes-nodes.result.now p c.index-nodes-number.result no_node low ∙ ap (λ (l : List Node). get_or l p no_node) c.nodes-nodes.ensures.value in
    ⊎_elim (λ before. c.loop-number.invariant k before phony)
    (λ here. true≢false (sym phony ∙ (ap (λ (n : ℕ). (node c.args.graph.now n).phony) (sym here) ∙ (sym (ap (λ (v : Node). v.phony) this) ∙ c.if-nodes-number.false)))) ((in_take_more ns i 0 k lt).0 stands)
