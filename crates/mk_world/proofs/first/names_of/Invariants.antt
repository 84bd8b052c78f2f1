use Rattle.std.proofs.Common.{ℕ, List, ◌<◌, ◌⊎◌}
use Rattle.std.specs.Prelude.{◌↔◌}
use Rattle.mk_graph.specs.Membership.{Has}
use Rattle.mk_graph.specs.Graph.{node}
use Rattle.mk_world.specs.First.{IsNameOf}
use Rattle.mk_world.proofs.first.names_of.Given as goal

-- the sources and the names of the nodes so far are there
abbrev pub invariant-loop-node : goal.invariant-loop-node
invariant-loop-node l = (f : List ℕ) → Has l.names f ↔ (Has l.setting.sources f ⊎ ((n : ℕ) × (n < l.node-index) × IsNameOf l.setting (node l.graph n) f))
