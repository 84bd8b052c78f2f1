use Rattle.std.proofs.Common.{◌≡◌, ◌++◌, map, take, string_bytes}
use Rattle.mk_world_plan.specs.PlanText.{names_text}
use Rattle.mk_world_plan.proofs.writing.push_names.Given as goal

-- the names so far
abbrev pub invariant-loop-name : goal.invariant-loop-name
invariant-loop-name l = string_bytes l.line ≡ string_bytes l.initial.line ++ names_text (map (λ name. name.now) (take l.name-index l.names))
