-- The state of a make: the wanted nodes, what remains of each node's groups, and which nodes can be
-- passed.
use Rattle.std.specs.Prelude.{◌≡◌, ℕ, ◌<◌, [], length, false, slice_index, slice_index_or}
use Rattle.mk_graph.specs.declared.node.Node.{Node}
use Rattle.mk_graph.specs.Membership.{Has}
use Rattle.mk_graph.specs.Graph.{Graph, node}
use Rattle.mk_graph.specs.Serial.{serial_order}
use Rattle.mk_graph.specs.Schedules.{Wanted}
use Rattle.mk_graph_ready.specs.Rest.{Rest}
use Rattle.mk_graph_ready.specs.RemainingGroups.{IsLeft, IsStopped}
use Rattle.mk_graph_ready.specs.Stage.{IsToCheck, IsUnwanted}
use Rattle.mk_graph_ready.specs.Progress.{Progress, IsIdle}
use Rattle.mk_graph_ready.specs.declared.state.State.{State}

-- Nothing remains.
abbrev pub no_rest : Rest
no_rest = record { group = []; behind = [] }

-- All groups of a node remain.
abbrev pub fresh : Node → Rest
fresh n = record { group = []; behind = n.groups }

-- What remains of a node's groups.
abbrev pub rest_at : State → ℕ → Rest
rest_at s n = slice_index_or s.left.items n no_rest

-- The node at a place of the serial order.
abbrev pub node_at : Graph → ℕ → ℕ
node_at g i = slice_index (serial_order g) i

-- The progress that a state represents.
abbrev pub progress : Graph → State → Progress
progress g s = record { graph = g; goals = s.goals; done = s.done }

-- A checked node waits for a prerequisite that isn't done, or, if it is idle, its place is marked.
pub record IsSettled (g : Graph) (s : State) (n : ℕ) : Type 0 where
  pub stopped : IsStopped s.done (rest_at s n)
  pub marked : (rest_at s n).group ≡ [] → ¬ (Has s.done n) → (node g n).recipe ≡ false →
      (i : ℕ) → i < length (serial_order g) → node_at g i ≡ n → slice_index s.marks i ≡ 1

-- The state represents a make of this graph: the goals have the stage of a wanted node, only wanted
-- nodes have one, what remains of groups is right, checked nodes are settled, and only idle nodes
-- are marked.
pub record Stands (g : Graph) (s : State) : Type 0 where
  pub stages : length s.stages ≡ length g.nodes
  pub lefts : length s.left.items ≡ length g.nodes
  pub marks : length s.marks ≡ length (serial_order g)
  pub goals : (n : ℕ) → Has s.goals n → ¬ (IsUnwanted s.stages n)
  pub wanted : (n : ℕ) → ¬ (IsUnwanted s.stages n) → Wanted g s.goals s.done n
  pub left : (n : ℕ) → n < length g.nodes →
      IsLeft s.stages s.done (node g n).groups (rest_at s n)
  pub settled : (n : ℕ) → ¬ (IsUnwanted s.stages n) → ¬ (IsToCheck s.stages n) → IsSettled g s n
  pub marked : (i : ℕ) → slice_index s.marks i ≡ 1 → IsIdle (progress g s) (node_at g i)

-- No node must be checked.
abbrev pub IsAtRest : State → Type 0
IsAtRest s = (n : ℕ) → ¬ (IsToCheck s.stages n)
