use Rattle.std.proofs.Common.{ℕ, below_more, subst, sym, refl, ◌∙◌, List}
use Rattle.mk_graph.specs.Membership.{Has}
use Rattle.tests_model.proofs.Sound.{row_is}
use Rattle.tests_model.proofs.graph_fixtures.are_rows.Goals as goal

pub loop-numbers-preserved : goal.loop-numbers-preserved
loop-numbers-preserved c =
    let is = row_is c.args.rows.now c.loop-numbers.numbers-index c.numbers-item.result c.loop-numbers-test.true c.numbers-item.is ∙ sym c.deref.ensures.value in
    below_more _ _ c.loop-numbers.invariant (λ p h. c.if-not-are_below.ensures refl p (subst (λ (l : List ℕ). Has l p) is h))
