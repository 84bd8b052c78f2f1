use Rattle.std.proofs.Common.{◌≡◌, map, drop}
use Rattle.std.specs.Prelude.{◌↔◌}
use Rattle.mk_subject.specs.Subject.{name_of}
use Rattle.mk_cert.proofs.verifying.has_goals.Given as goal

-- what is left decides
abbrev pub invariant-loop-place : goal.invariant-loop-place
invariant-loop-place l = (drop l.place l.names ≡ map (name_of l.subject) (drop l.place l.goals)) ↔ (l.names ≡ map (name_of l.subject) l.subject.graph.goals)
