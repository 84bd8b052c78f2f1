use Rattle.std.proofs.Common.{◌≡◌, map, take}
use Rattle.mk_world.specs.State.{number_of}
use Rattle.mk_find_evidence.proofs.history.History.goals.Given as goal

-- the names so far are those of the goals so far
abbrev pub invariant-loop-goal : goal.invariant-loop-goal
invariant-loop-goal l = map (number_of l.self.world.scene.graph) (map (λ name. name.now) l.names.items) ≡ take l.goal-index l.goals
