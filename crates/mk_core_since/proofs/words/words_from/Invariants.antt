use Rattle.std.proofs.Common.{◌≡◌, ◌+◌, drop}
use Rattle.mk_lemmas.proofs.Texts.{texts}
use Rattle.mk_core_since.specs.Words.{words_from}
use Rattle.mk_core_since.proofs.Lines.{onto}
use Rattle.mk_core_since.proofs.words.words_from.Given as goal

-- the words so far, with those of the lines that are left
abbrev pub invariant-loop-at : goal.invariant-loop-at
invariant-loop-at l = words_from 1 (texts l.lines) ≡ onto (texts l.words.items) (words_from (l.at + 1) (texts (drop l.at l.lines)))
