-- What can be made while one node is never done.
use Rattle.std.specs.Prelude.{◌≡◌, ℕ, ◌<◌, ◌==◌, List, [], ◌∷◌, ◌++◌, length, ◌↔◌, if◌then◌else◌}
use Rattle.std.specs.List.{flat_map, list_all}
use Rattle.mk_graph.specs.Membership.{Has, has}
use Rattle.mk_graph.specs.Graph.{Graph, node, HasPath}
use Rattle.mk_graph.specs.Schedules.{Wanted}

-- The node isn't o, and no path of prerequisites leads from it to o.
abbrev pub IsFree : Graph → (o n : ℕ) → Type 0
IsFree g o n = (¬ (n ≡ o)) × (¬ (HasPath g n o))

-- These are exactly the nodes that can be done without o.
abbrev pub AreFree : Graph → (o : ℕ) → List ℕ → Type 0
AreFree g o free = (n : ℕ) → Has free n ↔ (n < length g.nodes) × IsFree g o n

-- A graph and a node of it that is never done.
pub record Lacking : Type 0 where
  pub graph : Graph
  pub other : ℕ

-- These are exactly the nodes that a make of all goals wants once the nodes `done` are done.
abbrev pub AreWantedWith : Graph → (done wanted : List ℕ) → Type 0
AreWantedWith g done wanted = (n : ℕ) → Has wanted n ↔ Wanted g g.goals done n

-- The members of all groups.
abbrev pub joined : List (List ℕ) → List ℕ
joined groups = flat_map (λ group. group) groups

-- The members of the open groups: of the first groups up to and including the first that isn't all
-- done.
abbrev pub opened : (done : List ℕ) → List (List ℕ) → List ℕ
opened done [] = []
opened done (group ∷ groups) =
    group ++ (if list_all (has done) group then opened done groups else [])

-- The row of each node has the members of its open groups.
abbrev pub AreOpened : Graph → (done : List ℕ) → (ℕ → List ℕ) → Type 0
AreOpened g done rows = (n : ℕ) → rows n ≡ opened done (node g n).groups

-- The part of a list before the first t.
abbrev pub until : ℕ → List ℕ → List ℕ
until t [] = []
until t (n ∷ ns) = if n == t then [] else n ∷ until t ns
