use Rattle.std.proofs.Common.{◌≡◌, take}
use Rattle.mk_lemmas.proofs.Texts.{texts}
use Rattle.mk_infer_select.proofs.goals.Goals.texts.Given as goal

-- the names so far
abbrev pub invariant-loop-name : goal.invariant-loop-name
invariant-loop-name l = texts l.texts.items ≡ take l.name-index l.name-items
