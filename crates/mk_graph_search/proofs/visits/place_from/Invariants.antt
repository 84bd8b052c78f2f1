use Rattle.std.proofs.Common.{◌≡◌, ℕ, ◌<◌, ◌≤◌}
use Rattle.mk_graph_search.specs.Progress.{visit_at}
use Rattle.mk_graph_search.proofs.visits.place_from.Given as goal

-- no visit so far is of the node
abbrev pub invariant-loop-place : goal.invariant-loop-place
invariant-loop-place l = (k : ℕ) → l.first ≤ k → k < l.place → ¬ ((visit_at l.list k).node ≡ l.node)
