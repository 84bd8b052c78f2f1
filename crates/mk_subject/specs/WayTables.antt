-- The tables that a walk along a way uses.
use Rattle.std.specs.Prelude.{◌≡◌, ℕ, Bool, true, false, ◌↔◌, List, [], slice_index_or}
use Rattle.mk_graph.specs.Membership.{Has}
use Rattle.mk_graph.specs.Graph.{prerequisites}
use Rattle.mk_build.specs.Setting.{IsAlwaysMade}
use Rattle.mk_build.specs.Ways.{Carries}
use Rattle.mk_subject.specs.Subject.{Subject, footprints}

-- For each node, `needed` has its direct prerequisites and `always` whether it is made in each
-- make.
pub record AreEnds (x : Subject) (needed : List (List ℕ)) (always : List Bool) : Type 0 where
  pub needed_held : (t p : ℕ) → Has (slice_index_or needed t []) p ↔ Has (prerequisites x.graph t) p
  pub always_held : (t : ℕ) → (slice_index_or always t false ≡ true) ↔ IsAlwaysMade x.graph t

-- `AreEnds`, and for each node `carried` has the recipes that it carries.
pub record AreLinks (x : Subject) (carried needed : List (List ℕ))
    (always : List Bool) : Type 0 where
  pub ends : AreEnds x needed always
  pub carried_held : (t o : ℕ) →
      Has (slice_index_or carried t []) o ↔ Carries x.graph (footprints x.setting) t o
