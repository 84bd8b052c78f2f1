use Rattle.std.proofs.Common.{take}
use Rattle.mk_since.specs.Parts.{Renews}
use Rattle.mk_since.proofs.Naming.{AreNoted}
use Rattle.mk_since.proofs.named.note_made_anew.Given as goal

-- what the first rows lead to
abbrev pub invariant-loop-entry : goal.invariant-loop-entry
invariant-loop-entry l = AreNoted (Renews l.past l.subject l.always) l.names l.initial.names (take l.entry-index l.entry-items)
