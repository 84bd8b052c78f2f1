use Rattle.std.proofs.Common.{take}
use Rattle.mk_since.specs.Parts.{Leaves}
use Rattle.mk_since.proofs.Naming.{AreNoted}
use Rattle.mk_since.proofs.named.note_left_over.Given as goal

-- what the first recipes lead to
abbrev pub invariant-loop-recipe : goal.invariant-loop-recipe
invariant-loop-recipe l = AreNoted (Leaves l.subject) l.names l.initial.names (take l.recipe-index l.recipe-items)
