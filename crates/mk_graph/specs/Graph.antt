-- Graphs as values: the nodes, numbered by their positions, and the numbers of the goals.
use Rattle.std.specs.Prelude.{ℕ, ◌<◌, ◌≤◌, List, [], length, map, false, slice_index_or}
use Rattle.std.specs.List.{flat_map}
use Rattle.mk_graph.specs.declared.node.Node.{Node}
use Rattle.mk_graph.specs.Membership.{Has, IsDistinct}

-- A graph: its nodes, numbered by their positions, and the numbers of its goals.
pub record Graph : Type 0 where
  pub nodes : List Node
  pub goals : List ℕ

-- An empty node, which stands for a number without a node.
abbrev pub no_node : Node
no_node = record { name = []; groups = []; recipe = false; phony = false }

-- The node with this number, or `no_node` if there is none.
abbrev pub node : Graph → ℕ → Node
node g n = slice_index_or g.nodes n no_node

-- The direct prerequisites of a node, in the order of its groups (IEEE Std 1003.1-2024, XCU make,
-- "Target Rules").
abbrev pub prerequisites : Graph → ℕ → List ℕ
prerequisites g n = flat_map (λ group. group) (node g n).groups

-- A path of prerequisites leads from a goal to the node.
pub data Reached (g : Graph) : ℕ → Type 0 where
  goal : {n : ℕ} → Has g.goals n → Reached g n
  onward : {n p : ℕ} → Reached g n → Has (prerequisites g n) p → Reached g p

-- A path of at least one prerequisite leads from the first node to the second.
pub data HasPath (g : Graph) : ℕ → ℕ → Type 0 where
  one : {n p : ℕ} → Has (prerequisites g n) p → HasPath g n p
  then : {n m p : ℕ} → HasPath g n m → Has (prerequisites g m) p → HasPath g n p

-- Each node has a height, less than the number of nodes, and a prerequisite is lower than its node,
-- so no path leads from a node to itself.
pub record HasNoCycle (g : Graph) : Type 0 where
  pub height : ℕ → ℕ
  pub low : (n : ℕ) → n < length g.nodes → height n < length g.nodes
  pub falls : (n p : ℕ) → Has (prerequisites g n) p → height p < height n

-- What the caller of `Graph::build` must ensure: names are distinct, goals and prerequisites are
-- numbers of nodes, and the goals reach every node.
pub record IsSound (g : Graph) : Type 0 where
  pub names : IsDistinct (map (λ (n : Node). n.name) g.nodes)
  pub goals : (n : ℕ) → Has g.goals n → n < length g.nodes
  pub edges : (n p : ℕ) → Has (prerequisites g n) p → p < length g.nodes
  pub reached : (n : ℕ) → n < length g.nodes → Reached g n

-- The most nodes that a graph may have.
abbrev pub max_nodes : ℕ
max_nodes = 4096

-- What holds of every graph that was built: it is sound, has at most 4,096 nodes, and has no cycle.
pub record IsGraph (g : Graph) : Type 0 where
  pub sound : IsSound g
  pub few : length g.nodes ≤ max_nodes
  pub no_cycle : HasNoCycle g
