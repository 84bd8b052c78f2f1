use Rattle.std.proofs.Common.{◌≡◌, take}
use Rattle.mk_lemmas.proofs.Texts.{texts}
use Rattle.mk_infer_select.proofs.goals.owned.Given as goal

-- the copies so far
abbrev pub invariant-loop-name : goal.invariant-loop-name
invariant-loop-name l = l.copies.items ≡ texts (take l.name-index l.names)
