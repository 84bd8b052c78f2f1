use Rattle.std.proofs.Common.{◌≡◌, ℕ, List, take}
use Rattle.std.specs.List.{list_any}
use Rattle.mk_lines.specs.Names.{has_name}
use Rattle.mk_world_plan.specs.PlanText.{is_idle_at}
use Rattle.mk_world_plan.proofs.tables.idle_names.Given as goal

-- the nodes so far
abbrev pub invariant-loop-node : goal.invariant-loop-node
invariant-loop-node l = (name : List ℕ) → has_name l.names name ≡ list_any (is_idle_at name) (take l.node-index l.node-items)
