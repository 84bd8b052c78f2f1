use Rattle.std.proofs.Common.{take}
use Rattle.mk_subject.specs.Subject.{subject_of}
use Rattle.mk_subject.specs.NodeRow.{AreEntriesOf}
use Rattle.mk_subject.proofs.looking_up.entries_with.Given as goal

-- the nodes so far
abbrev pub invariant-loop-place : goal.invariant-loop-place
invariant-loop-place l = AreEntriesOf (subject_of l.choices.makefile l.choices.exists l.records.graph l.records.setting) (take l.place l.order) l.entries.items
