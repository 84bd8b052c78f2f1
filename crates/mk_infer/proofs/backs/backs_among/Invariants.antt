use Rattle.std.proofs.Common.{take}
use Rattle.mk_lemmas.proofs.Texts.{texts}
use Rattle.mk_infer.specs.Table.{HasBacks}
use Rattle.mk_infer.proofs.backs.backs_among.Given as goal

-- the names so far
abbrev pub invariant-loop-name : goal.invariant-loop-name
invariant-loop-name l = HasBacks (texts (take l.name-index l.name-items)) l.backs
