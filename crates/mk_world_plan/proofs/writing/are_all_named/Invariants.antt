use Rattle.std.proofs.Common.{◌≡◌, map, take}
use Rattle.std.specs.Prelude.{true}
use Rattle.std.specs.List.{list_all}
use Rattle.mk_lines.specs.Names.{has_name}
use Rattle.mk_build.specs.Setting.{name}
use Rattle.mk_world_plan.proofs.writing.are_all_named.Given as goal

-- the goals so far are named
abbrev pub invariant-loop-goal : goal.invariant-loop-goal
invariant-loop-goal l = list_all (λ n. has_name (map (λ goal. goal.now) l.goals) (name l.graph n)) (take l.goal-index l.goal-items) ≡ true
