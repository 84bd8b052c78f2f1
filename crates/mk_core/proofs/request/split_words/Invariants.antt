use Rattle.std.proofs.Common.{◌≡◌, map, take}
use Rattle.mk_lemmas.proofs.Texts.{texts}
use Rattle.mk_core.specs.Words.{operands_of, goals_of}
use Rattle.mk_core.proofs.request.split_words.Given as goal

-- the words so far, parted
abbrev pub invariant-loop-word : goal.invariant-loop-word
invariant-loop-word l = record {
  operands : map (λ word. word.items) l.operands.items ≡ operands_of (texts (take l.word-index l.words));
  goals : l.goals.items ≡ goals_of (texts (take l.word-index l.words));
}
