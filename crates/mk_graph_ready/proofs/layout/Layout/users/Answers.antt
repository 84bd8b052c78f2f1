use Rattle.std.proofs.Common.{ℕ, List, sym, subst}
use Rattle.mk_graph.specs.Membership.{Has}
use Rattle.mk_graph_ready.proofs.Users.{users_are}
use Rattle.mk_graph_ready.proofs.layout.Layout.users.Goals as goal

pub returns-clause-nodes : goal.returns-clause-nodes
returns-clause-nodes c =
    let low = rw (← c.self.view_is) at c.requires in
    let is = users_are c.self.inside.graph.now c.self.inside.users.items c.self.invariant.4 c.args.number c.index.result.now c.deref.result.now low c.index.ensures c.deref.ensures.value in
    rw (← c.self.view_is) (λ p h. c.self.invariant.4.nodes c.args.number p (subst (λ (l : List ℕ). Has l p) is h))

pub returns-clause-all : goal.returns-clause-all
returns-clause-all c =
    let low = rw (← c.self.view_is) at c.requires in
    let is = users_are c.self.inside.graph.now c.self.inside.users.items c.self.invariant.4 c.args.number c.index.result.now c.deref.result.now low c.index.ensures c.deref.ensures.value in
    rw (← c.self.view_is) (λ p lt h. subst (λ (l : List ℕ). Has l p) (sym is) (c.self.invariant.4.all c.args.number p lt h))
