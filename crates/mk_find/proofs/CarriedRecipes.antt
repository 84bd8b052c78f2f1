-- What is carried is a recipe.
use Rattle.std.proofs.Common.{ℕ, List, [], ◌∷◌, inl, inr, subst}
use Rattle.mk_lemmas.proofs.Members.{Has-from_then}
use Rattle.mk_graph.specs.Graph.{node}
use Rattle.mk_graph.specs.Membership.{Has}
use Rattle.mk_subject.specs.Subject.{IsRecipe, Subject, footprints}
use Rattle.mk_subject.specs.Paths.{AreCarried}

-- what is carried is a recipe
pub carried_are_recipes : (x : Subject) (t : ℕ) (others : List ℕ) → AreCarried x.graph (footprints x.setting) t others → (n : ℕ) → Has others n → IsRecipe x n
carried_are_recipes x t [] are n h = absurd h
carried_are_recipes x t (o ∷ others) are n (inl here) = subst (λ (k : ℕ). IsRecipe x k) here ((Has-from_then (node x.graph o).recipe _ _ are.0.2).0)
carried_are_recipes x t (o ∷ others) are n (inr there) = carried_are_recipes x o others are.1 n there
