-- The recipes that a node carries, as a list.
use Rattle.std.specs.Prelude.{ℕ, List, ◌↔◌}
use Rattle.std.specs.List.{flat_map}
use Rattle.mk_graph.specs.Graph.{IsGraph, prerequisites}
use Rattle.mk_graph.specs.Membership.{Has}
use Rattle.mk_build.specs.Ways.{Carries}
use Rattle.mk_subject.specs.Subject.{Subject, footprints, name_of}
use Rattle.mk_subject.specs.NodeRow.{writers_of}

-- The writers of a node's direct prerequisites, in the order of these.
abbrev pub carried : Subject → ℕ → List ℕ
carried x t = flat_map (λ p. writers_of x (name_of x p)) (prerequisites x.graph t)

-- `carried` lists exactly the recipes that a node carries.
abbrev pub CarriedExactly : Type 0
CarriedExactly =
    (x : Subject) → IsGraph x.graph → (t o : ℕ) →
    Has (carried x t) o ↔ Carries x.graph (footprints x.setting) t o
