use Rattle.std.proofs.Common.{◌≡◌, take}
use Rattle.std.specs.List.{flat_map}
use Rattle.mk_subject.specs.Subject.{name_of}
use Rattle.mk_subject.specs.NodeRow.{writers_of}
use Rattle.mk_subject.proofs.carrying.carried_by.Given as goal

-- the prerequisites so far
abbrev pub invariant-loop-prerequisite : goal.invariant-loop-prerequisite
invariant-loop-prerequisite l = l.carried.items ≡ flat_map (λ p. writers_of l.subject (name_of l.subject p)) (take l.prerequisite-index l.prerequisites)
