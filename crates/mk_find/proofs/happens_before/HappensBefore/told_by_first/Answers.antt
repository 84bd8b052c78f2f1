use Rattle.std.proofs.Common.{◌≡◌, ◌∙◌, ℕ, Option, Some, Bool, true, sym, subst}
use Rattle.std.specs.Prelude.{◌↔◌}
use Rattle.mk_graph.specs.Graph.{Graph}
use Rattle.mk_graph.specs.Schedules.{Before}
use Rattle.mk_graph.specs.Without.{Lacking}
use Rattle.mk_find.specs.HappensBefore.{IsFirstOf, IsToldOf}
use Rattle.mk_find.proofs.happens_before.HappensBefore.told_by_first.Goals as goal
use Rattle.mk_find.proofs.happens_before.HappensBefore.told_by_first.Goals.{in-Some-is_told, in-None}

pub returns-clause-before : goal.returns-clause-before
returns-clause-before c =
    let e = c.self.inside in
    let first = c.in-Some.first in
    let of : first.graph ≡ e.graph.now = subst (λ (o : Option Lacking). IsFirstOf e.graph.now o) c.in-Some.is c.self.invariant.1 in
    let named : first.other ≡ c.args.other = sym c.other.ensures ∙ c.if-other.false in
    let told : (c.match-self-2.is ≡ true) ↔ Before first.graph first.other e.number = elim c.match-self-2.branch [
      | in-Some-is_told w ↦ subst (λ (b : Bool). (b ≡ true) ↔ Before first.graph first.other e.number)
          (sym w.is-is) (subst (λ (o : Option Lacking). IsToldOf e.number o (Some w.in-Some-is_told.is'))
          c.in-Some.is (subst (λ (o : Option Bool). IsToldOf e.number e.first o) w.in-Some-is_told.is
          c.self.invariant.2))
      | in-None w ↦ subst (λ (b : Bool). (b ≡ true) ↔ Before first.graph first.other e.number) (sym w.is-is) w.is_before-is.ensures
    ] in
    rw (← c.self.view_is) (subst (λ (g : Graph). (c.match-self-2.is ≡ true) ↔ Before g c.args.other e.number) of (subst (λ (o : ℕ). (c.match-self-2.is ≡ true) ↔ Before first.graph o e.number) named told))
