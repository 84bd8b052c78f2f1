use Rattle.std.proofs.Common.{arith}
use Rattle.mk_graph.specs.Serial.{serial_order}
use Rattle.mk_graph_ready.specs.State.{progress}
use Rattle.mk_graph_ready.proofs.Standing.{idle_marked, first_at, none_at}
use Rattle.mk_graph_ready.proofs.readiness.Readiness.next_idle.Goals as goal

pub returns-in-Some-clause-found : goal.returns-in-Some-clause-found
returns-in-Some-clause-found c =
    let g = c.self.inside.layout in
    let s = c.self.inside.state in
    let stands = c.self.invariant.0 in
    let found = c.in-Some.ensures in
    let low = rw stands.marks at found.0 in
    rw (c.order-order.ensures.value, ← c.self.view_is) (first_at (progress g s) (serial_order g) c.in-Some.place low (stands.marked c.in-Some.place found.1) (λ j less idle. found.2 j less (idle_marked g s stands c.self.invariant.1 j (omega arith) idle)))

pub returns-in-None-clause-found : goal.returns-in-None-clause-found
returns-in-None-clause-found c =
    let g = c.self.inside.layout in
    let s = c.self.inside.state in
    let stands = c.self.invariant.0 in
    let none = c.in-None.ensures in
    rw (← c.self.view_is) (none_at (progress g s) (serial_order g) (λ j lt idle. none j (rw stands.marks lt) (idle_marked g s stands c.self.invariant.1 j lt idle)))
