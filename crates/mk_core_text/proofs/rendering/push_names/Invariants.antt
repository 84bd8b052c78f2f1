use Rattle.std.proofs.Common.{◌≡◌, ◌++◌, take}
use Rattle.mk_world_plan.specs.PlanText.{names_text}
use Rattle.mk_core_text.proofs.rendering.push_names.Given as goal

-- the names so far
abbrev pub invariant-loop-place : goal.invariant-loop-place
invariant-loop-place l = l.out.items ≡ l.initial.out.items ++ names_text (take l.place l.names)
