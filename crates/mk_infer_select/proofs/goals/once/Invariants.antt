use Rattle.std.proofs.Common.{◌≡◌, drop}
use Rattle.mk_lemmas.proofs.Texts.{texts}
use Rattle.mk_lines.proofs.Once.{and_new}
use Rattle.mk_read.specs.Names.{once}
use Rattle.mk_infer_select.proofs.goals.once.Given as goal

-- the names so far, and the new ones of those that are left
abbrev pub invariant-loop-name : goal.invariant-loop-name
invariant-loop-name l = and_new l.set (texts (drop l.name-index l.names)) ≡ once (texts l.names)
