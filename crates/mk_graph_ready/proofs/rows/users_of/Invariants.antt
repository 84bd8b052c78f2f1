use Rattle.std.proofs.Common.{◌≡◌, ℕ, ◌<◌, length}
use Rattle.mk_graph.specs.Membership.{Has}
use Rattle.mk_graph.specs.Graph.{prerequisites}
use Rattle.mk_graph.specs.Progress.{row}
use Rattle.mk_graph_ready.proofs.rows.users_of.Given as goal

-- the nodes so far are in their rows
abbrev pub invariant-loop-node : goal.invariant-loop-node
invariant-loop-node l = record {
  many : length l.rows.items ≡ length l.graph.nodes;
  nodes : (n p : ℕ) → Has (row l.rows.items n) p → p < length l.graph.nodes;
  all : (n p : ℕ) → p < l.node → Has (prerequisites l.graph p) n → Has (row l.rows.items n) p;
}
