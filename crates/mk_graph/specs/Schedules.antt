-- In which orders a make can do its nodes, and which nodes run before which in all of them.
use Rattle.std.specs.Prelude.{◌≡◌, ℕ, List, [], ◌∷◌, true, ◌⊎◌}
use Rattle.mk_graph.specs.Membership.{Has}
use Rattle.mk_graph.specs.Graph.{Graph, node, prerequisites}

-- Each element of the second list is in the first.
abbrev pub HasAll : List ℕ → List ℕ → Type 0
HasAll ns [] = Unit {0}
HasAll ns (m ∷ ms) = Has ns m × HasAll ns ms

-- The node is in a group whose earlier groups are all done (IEEE Std 1003.1-2024, XCU make, "Target
-- Rules", `.WAIT`).
abbrev pub InOpenGroup : (done : List ℕ) → List (List ℕ) → ℕ → Type 0
InOpenGroup done [] n = ⊥
InOpenGroup done (group ∷ groups) n = Has group n ⊎ (HasAll done group × InOpenGroup done groups n)

-- A make of these goals wants the node: it is a goal, or it is in an open group of a wanted node.
pub data Wanted (g : Graph) (goals done : List ℕ) : ℕ → Type 0 where
  goal : {n : ℕ} → Has goals n → Wanted g goals done n
  onward : {p n : ℕ} → Wanted g goals done p → InOpenGroup done (node g p).groups n →
      Wanted g goals done n

-- The node can start: it is wanted, it isn't done, and all its prerequisites are done (IEEE Std
-- 1003.1-2024, XCU make, "Target Rules").
pub record CanStart (g : Graph) (goals done : List ℕ) (n : ℕ) : Type 0 where
  pub wanted : Wanted g goals done n
  pub not_done : ¬ (Has done n)
  pub prerequisites : HasAll done (prerequisites g n)

-- A schedule, the last node first: each node can start once those before it are done.
abbrev pub IsSchedule : Graph → (goals : List ℕ) → List ℕ → Type 0
IsSchedule g goals [] = Unit {0}
IsSchedule g goals (n ∷ ns) = CanStart g goals ns n × IsSchedule g goals ns

-- A part of the goals that isn't empty.
pub record IsPart (goals all : List ℕ) : Type 0 where
  pub not_empty : ¬ (goals ≡ [])
  pub within : HasAll all goals

-- o runs before t: if t has a recipe, o is done whenever t can start, in every make of any part of
-- the goals.
abbrev pub Before : Graph → (o t : ℕ) → Type 0
Before g o t =
    (node g t).recipe ≡ true → (goals ns : List ℕ) → IsPart goals g.goals → IsSchedule g goals ns →
    CanStart g goals ns t → Has ns o

-- A schedule for all goals without o, after which t can start.
pub record IsScheduleWithout (g : Graph) (o t : ℕ) (ns : List ℕ) : Type 0 where
  pub turns : IsSchedule g g.goals ns
  pub can_start : CanStart g g.goals ns t
  pub lacks : ¬ (Has ns o)
