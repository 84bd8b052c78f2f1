use Rattle.std.proofs.Common.{◌≡◌, ℕ, List, length, map, get_or, ap, ◌∙◌, arith}
use Rattle.mk_graph.specs.declared.node.Node.{Node}
use Rattle.mk_graph.specs.Graph.{Graph}
use Rattle.mk_graph_ready.specs.State.{fresh}
use Rattle.mk_graph_ready.proofs.Standing.{zero_at, zeros_many, blank}
use Rattle.mk_graph_ready.proofs.state.State.new.Goals as goal

pub returns-clause-stands : goal.returns-clause-stands
returns-clause-stands c =
    let g = c.args.layout.now in
    let stages = c.in_ok-zeros.ensures in
    let marks = c.in_ok-zeros-2.ensures in
    blank g (record { goals = c.new.result; done = c.new-2.result; stages = c.in_ok-zeros.field-0; left = c.in_ok-lefts_of.field-0; marks = c.in_ok-zeros-2.field-0 })
    (ap (λ (l : List ℕ). length l) stages ∙ (zeros_many _ ∙ (ap (λ (l : List Node). length l) c.nodes.ensures.value ∙ ap (λ (k : Graph). length k.nodes) c.graph-graph.ensures.value)))
    (λ n. ap (λ (l : List ℕ). get_or l n 0) stages ∙ zero_at _ n)
    (c.in_ok-lefts_of.ensures ∙ ap (λ (k : Graph). map fresh k.nodes) c.graph-graph.ensures.value)
    (ap (λ (l : List ℕ). length l) marks ∙ (zeros_many _ ∙ ap (λ (l : List ℕ). length l) c.order.ensures.value))
    (λ i e. let z : get_or c.in_ok-zeros-2.field-0 i 0 ≡ 0 = ap (λ (l : List ℕ). get_or l i 0) marks ∙ zero_at _ i in omega arith)
    c.new.ensures
