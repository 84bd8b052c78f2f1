use Rattle.std.proofs.Common.{◌≡◌, ◌++◌, drop}
use Rattle.mk_lemmas.proofs.Texts.{texts}
use Rattle.mk_infer.specs.Table.{lines_at, words_in}
use Rattle.mk_infer.proofs.rule_table.words_at.Given as goal

-- the words so far, and those of the rule lines that are left
abbrev pub invariant-loop-place : goal.invariant-loop-place
invariant-loop-place l = texts l.words.items ++ words_in (lines_at l.rules (drop l.place-index l.places)) ≡ words_in (lines_at l.rules l.places)
