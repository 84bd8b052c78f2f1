-- What must be tested of nodes and goals before `Graph::build`: their prerequisites as rows of
-- numbers.
use Rattle.std.specs.Prelude.{ℕ, ◌<◌, ◌⊎◌, List, [], length, map, slice_index_or, Vec}
use Rattle.std.specs.List.{flat_map}
use Rattle.std.specs.declared.alloc.Global.{Global}
use Rattle.mk_graph.specs.declared.node.Node.{Node}
use Rattle.mk_graph.specs.Membership.{Has}
use Rattle.mk_graph.specs.Graph.{IsSound}

-- The numbers in each row.
abbrev pub items_of : List (Vec ℕ Global) → List (List ℕ)
items_of rows = map (λ (r : Vec ℕ Global). r.items) rows

-- The row of a node, empty if there is no such node.
abbrev pub row : List (Vec ℕ Global) → ℕ → List ℕ
row rows n = slice_index_or (items_of rows) n []

-- The prerequisites of a node, in the order of its groups.
abbrev pub needs : Node → List ℕ
needs node = flat_map (λ group. group) node.groups

-- Each number in a row is the number of a row.
abbrev pub AreRows : List (Vec ℕ Global) → Type 0
AreRows rows = (n p : ℕ) → Has (row rows n) p → p < length rows

-- Each node is a goal, or a prerequisite of a node with a smaller number.
abbrev pub HaveParents : List (Vec ℕ Global) → List ℕ → Type 0
HaveParents rows goals =
    (k : ℕ) → k < length rows → Has goals k ⊎ (n : ℕ) × (n < k) × Has (row rows n) k

-- The nodes and goals satisfy what `Graph::build` requires.
abbrev pub AreSound : List Node → List ℕ → Type 0
AreSound nodes goals = IsSound (record { nodes = nodes; goals = goals })
