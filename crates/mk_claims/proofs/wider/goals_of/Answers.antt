use Rattle.std.proofs.Common.{◌≡◌, ◌∙◌, ℕ, List, ap, subst}
use Rattle.std.specs.Prelude.{slice_index_or}
use Rattle.mk_graph.specs.Graph.{Graph}
use Rattle.mk_graph.specs.Membership.{Has}
use Rattle.mk_lemmas.proofs.Members.{Has-get_or}
use Rattle.mk_claims.proofs.wider.goals_of.Goals as goal

pub name-requires : goal.name-requires
name-requires c =
    let goals = c.goals-goal-items.result.now in
    let i = c.loop-goal.goal-index in
    let same : goals ≡ c.args.subject.now.graph.goals = c.goals-goal-items.ensures.value ∙ ap (λ (g : Graph). g.goals) c.graph-graph.ensures.value in
    c.graph-graph.ensures.graph.sound.goals (slice_index_or goals i 0) (subst (λ (l : List ℕ). Has l (slice_index_or goals i 0)) same (Has-get_or goals i 0 c.loop-goal-test.true))
