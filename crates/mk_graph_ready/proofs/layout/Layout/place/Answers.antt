use Rattle.std.proofs.Common.{ℕ, List, subst}
use Rattle.mk_graph_ready.specs.Layout.{ArePlaces}
use Rattle.mk_graph_ready.proofs.Users.{node_place, only_place}
use Rattle.mk_graph_ready.proofs.layout.Layout.place.Goals as goal

pub returns-clause-within : goal.returns-clause-within
returns-clause-within c =
    let g = c.self.inside.graph.now in
    let are = subst (λ (l : List ℕ). ArePlaces l c.self.inside.places.items) c.self.invariant.1 c.self.invariant.3 in
    let low = rw (← c.self.view_is) at c.requires in
    rw (← c.self.view_is) (node_place g c.self.invariant.0 c.serial_reaches_each_once.ensures c.self.inside.places.items c.self.invariant.2 are c.args.number c.index.result.now low c.index.ensures).0

pub returns-clause-is : goal.returns-clause-is
returns-clause-is c =
    let g = c.self.inside.graph.now in
    let are = subst (λ (l : List ℕ). ArePlaces l c.self.inside.places.items) c.self.invariant.1 c.self.invariant.3 in
    let low = rw (← c.self.view_is) at c.requires in
    rw (← c.self.view_is) (node_place g c.self.invariant.0 c.serial_reaches_each_once.ensures c.self.inside.places.items c.self.invariant.2 are c.args.number c.index.result.now low c.index.ensures).1

pub returns-clause-only : goal.returns-clause-only
returns-clause-only c =
    let g = c.self.inside.graph.now in
    let are = subst (λ (l : List ℕ). ArePlaces l c.self.inside.places.items) c.self.invariant.1 c.self.invariant.3 in
    let low = rw (← c.self.view_is) at c.requires in
    rw (← c.self.view_is) (only_place g c.self.inside.places.items c.self.invariant.2 are c.args.number c.index.result.now low c.index.ensures)
