-- What is computed once for a graph.
use Rattle.std.specs.Prelude.{◌≡◌, ℕ, ◌<◌, List, length, Vec, slice_index}
use Rattle.std.specs.declared.alloc.Global.{Global}
use Rattle.mk_graph.specs.Membership.{Has}
use Rattle.mk_graph.specs.Graph.{Graph, prerequisites}
use Rattle.mk_graph.specs.Progress.{row}

-- For each node there is a row that contains every node with it as a direct prerequisite.
pub record AreUsers (g : Graph) (rows : List (Vec ℕ Global)) : Type 0 where
  pub many : length rows ≡ length g.nodes
  pub nodes : (n p : ℕ) → Has (row rows n) p → p < length g.nodes
  pub all : (n p : ℕ) → p < length g.nodes → Has (prerequisites g p) n → Has (row rows n) p

-- `places` has the position of each node of the order.
abbrev pub ArePlaces : (order places : List ℕ) → Type 0
ArePlaces order places =
    (i : ℕ) → i < length order → slice_index places (slice_index order i) ≡ i
