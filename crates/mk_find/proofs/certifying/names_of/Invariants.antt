use Rattle.std.proofs.Common.{◌≡◌, map, take}
use Rattle.mk_subject.specs.Subject.{name_of}
use Rattle.mk_find.proofs.certifying.names_of.Given as goal

abbrev pub invariant-loop-node : goal.invariant-loop-node
invariant-loop-node l = l.names ≡ map (name_of l.subject) (take l.node-index l.nodes)
