-- How the stages of nodes change.
use Rattle.std.specs.Prelude.{◌≡◌, ℕ, zero, suc, ◌+◌, ◌≤◌, List, [], ◌∷◌, length, slice_index, ◌⊎◌}
use Rattle.mk_graph.specs.Membership.{Has}
use Rattle.mk_graph.specs.Schedules.{InOpenGroup}
use Rattle.mk_graph_ready.specs.Rest.{Rest}
use Rattle.mk_graph_ready.specs.Stage.{IsToCheck, IsUnwanted}
use Rattle.mk_graph_ready.specs.RemainingGroups.{IsLeft}

-- The number of stages that a node has still to go through.
abbrev pub to_come : ℕ → ℕ
to_come zero = 2
to_come (suc zero) = 1
to_come (suc (suc n)) = 0

-- The number of stages that all nodes have still to go through.
abbrev pub work : List ℕ → ℕ
work [] = 0
work (stage ∷ stages) = to_come stage + work stages

-- The members of the group become wanted: those that weren't must be checked.
pub record Wants (old new group : List ℕ) : Type 0 where
  pub many : length new ≡ length old
  pub all : (n : ℕ) → Has group n → ¬ (IsUnwanted new n)
  pub each : (n : ℕ) →
      (slice_index new n ≡ slice_index old n) ⊎
      (IsUnwanted old n × IsToCheck new n × Has group n)
  pub less : work new ≤ work old

-- The node is in an open group of any groups of which this remains.
abbrev pub IsOpened : (stages done : List ℕ) → Rest → ℕ → Type 0
IsOpened stages done rest n =
    (groups : List (List ℕ)) → IsLeft stages done groups rest → InOpenGroup done groups n

-- Groups are opened one after another, and their members become wanted.
pub record WantsOpened (old new done : List ℕ) (rest : Rest) : Type 0 where
  pub many : length new ≡ length old
  pub each : (n : ℕ) →
      (slice_index new n ≡ slice_index old n) ⊎
      (IsUnwanted old n × IsToCheck new n × IsOpened old done rest n)
  pub less : work new ≤ work old

-- The wanted ones of these nodes must be checked again.
pub record Wakes (old new numbers : List ℕ) : Type 0 where
  pub many : length new ≡ length old
  pub was_new : (n : ℕ) → IsUnwanted new n → IsUnwanted old n
  pub stays_new : (n : ℕ) → IsUnwanted old n → IsUnwanted new n
  pub others : (n : ℕ) → ¬ (IsUnwanted new n) → ¬ (IsToCheck new n) →
      (slice_index new n ≡ slice_index old n) × (¬ (Has numbers n))
