-- What the happens-before lookup caches.
use Rattle.std.specs.Prelude.{◌≡◌, ℕ, true, ◌↔◌, Bool, List, Option, IfSome, MatchOption}
use Rattle.mk_graph.specs.Membership.{Has}
use Rattle.mk_graph.specs.Graph.{Graph, prerequisites}
use Rattle.mk_graph.specs.Schedules.{Before}
use Rattle.mk_graph.specs.Without.{Lacking}

-- A graph and its current node.
pub record NodeInGraph : Type 0 where
  pub graph : Graph
  pub number : ℕ

-- Each number in the list, if there is one, is that of a direct prerequisite of the node.
abbrev pub AreDirect : Graph → (number : ℕ) → Option (List ℕ) → Type 0
AreDirect g number list =
    MatchOption list (Unit {0}) (λ ns. (n : ℕ) → Has ns n → Has (prerequisites g number) n)

-- The computation without some node, if it was made, is over this graph.
abbrev pub IsFirstOf : Graph → Option Lacking → Type 0
IsFirstOf g first = MatchOption first (Unit {0}) (λ h. h.graph ≡ g)

-- The cached answer, if there is one, says whether the node of `first` happens before the current
-- node.
abbrev pub IsToldOf : (number : ℕ) → Option Lacking → Option Bool → Type 0
IsToldOf number first told =
    IfSome told (λ is. MatchOption first ⊥ (λ h. (is ≡ true) ↔ Before h.graph h.other number))

-- The set, if there is one, has exactly the nodes that happen before the node.
abbrev pub AreBefore : Graph → (number : ℕ) → Option (List ℕ) → Type 0
AreBefore g number set = IfSome set (λ ns. (o : ℕ) → Has ns o ↔ Before g o number)

-- The bit matrix, if there is one, is that of this graph.
abbrev pub RowsAreOf : Graph → Option Graph → Type 0
RowsAreOf g rows = MatchOption rows (Unit {0}) (λ h. h ≡ g)
