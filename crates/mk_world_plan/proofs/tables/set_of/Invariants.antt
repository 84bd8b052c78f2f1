use Rattle.std.proofs.Common.{◌≡◌, ℕ, List, map, take}
use Rattle.mk_lines.specs.Names.{has_name}
use Rattle.mk_world_plan.proofs.tables.set_of.Given as goal

-- the names so far
abbrev pub invariant-loop-name : goal.invariant-loop-name
invariant-loop-name l = (name : List ℕ) → has_name l.set name ≡ has_name (map (λ other. other.now) (take l.name-index l.names)) name
