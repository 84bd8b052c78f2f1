use Rattle.std.proofs.Common.{◌≡◌, map, take}
use Rattle.mk_subject.specs.Subject.{name_of}
use Rattle.mk_claims.proofs.wider.goals_of.Given as goal

-- the names so far
abbrev pub invariant-loop-goal : goal.invariant-loop-goal
invariant-loop-goal l = l.goals.items ≡ map (name_of l.subject) (take l.goal-index l.subject.graph.goals)
