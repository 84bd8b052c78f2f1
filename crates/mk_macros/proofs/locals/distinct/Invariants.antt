use Rattle.std.proofs.Common.{◌≡◌, drop}
use Rattle.mk_lemmas.proofs.Texts.{texts}
use Rattle.mk_macros.specs.Locals.{distinct}
use Rattle.mk_macros.proofs.Distinct.{and_new}
use Rattle.mk_macros.proofs.locals.distinct.Given as goal

-- the names that are kept, and those that are left and new
abbrev pub invariant-loop-name : goal.invariant-loop-name
invariant-loop-name l = and_new (texts l.set.keys) (texts (drop l.name-index l.names)) ≡ distinct (texts l.names)
