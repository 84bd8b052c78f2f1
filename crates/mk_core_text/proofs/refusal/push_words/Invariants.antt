use Rattle.std.proofs.Common.{◌≡◌, ◌++◌, map, take}
use Rattle.mk_core_text.specs.FaultText.{words_text}
use Rattle.mk_core_text.proofs.refusal.push_words.Given as goal

-- the words so far
abbrev pub invariant-loop-word : goal.invariant-loop-word
invariant-loop-word l = l.out.items ≡ l.initial.out.items ++ words_text (map (λ word. word.now) (take l.word-index l.words))
