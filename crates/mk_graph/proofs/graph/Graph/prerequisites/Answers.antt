-- The row of a node is what it needs.
use Rattle.std.proofs.Common.{◌≡◌, ℕ, List, [], map, get_or, ap, sym, subst, ◌∙◌, Vec}
use Rattle.std.specs.declared.alloc.Global.{Global}
use Rattle.std.proofs.lemmas.List.{get_or-map}
use Rattle.mk_graph.specs.Graph.{Graph, prerequisites}
use Rattle.mk_graph.specs.Progress.{row}
use Rattle.mk_graph.proofs.Building.{rows_are}
use Rattle.mk_graph.proofs.graph.Graph.prerequisites.Goals as goal

pub returns-in-Some : goal.returns-in-Some
returns-in-Some c =
    let n = c.args.number in
    let found = c.in-Some.ensures.lookup.3 in
    let this = c.in-Some.row.now in
    let at_row : this ≡ get_or c.deref.result.now n this = found.1 this in
    let items : row c.deref.result.now n ≡ (get_or c.deref.result.now n this).items = get_or-map (λ (r : Vec ℕ Global). r.items) c.deref.result.now n this [] found.0 in
    let g : Graph = record { nodes = c.self.inside.nodes.items; goals = c.self.inside.goals.items } in
    let are = ap (λ (l : List (Vec ℕ Global)). map (λ (r : Vec ℕ Global). r.items) l) c.deref.ensures.value ∙ c.self.invariant.2 in
    let own : row c.deref.result.now n ≡ prerequisites g n = ap (λ (f : ℕ → List ℕ). f n) (rows_are g c.deref.result.now are) in
    let needs = subst (λ (k : Graph). row c.deref.result.now n ≡ prerequisites k n) c.self.view_is own in
    c.as_slice.ensures.value ∙ ap (λ (r : Vec ℕ Global). r.items) at_row ∙ sym items ∙ needs
