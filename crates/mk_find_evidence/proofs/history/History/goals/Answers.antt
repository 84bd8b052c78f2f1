use Rattle.std.proofs.Common.{◌<◌, List, ℕ, length, get_or, sym, ap, subst}
use Rattle.mk_lemmas.proofs.Members.{Has-get_or}
use Rattle.mk_graph.specs.Membership.{Has}
use Rattle.mk_graph.specs.Graph.{Graph}
use Rattle.mk_find_evidence.proofs.history.History.goals.Goals as goal

pub name_of-requires : goal.name_of-requires
name_of-requires c =
    let n = get_or c.goals-goals.result.now c.loop-goal.goal-index 0 in
    let has = Has-get_or c.goals-goals.result.now c.loop-goal.goal-index 0 c.loop-goal-test.true in
    let low = c.goals-goals.ensures.graph.sound.goals n (subst (λ (l : List ℕ). Has l n) c.goals-goals.ensures.value has) in
    let at = ap (λ (k : Graph). length k.nodes) (sym c.self.invariant.0) in
    rw (← c.self.view_is) (subst (λ (m : ℕ). n < m) at low)
