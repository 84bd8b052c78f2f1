use Rattle.std.proofs.Common.{◌≡◌, ◌++◌, map, take}
use Rattle.std.specs.String.{string_bytes}
use Rattle.mk_lemmas.proofs.Texts.{texts}
use Rattle.mk_infer.proofs.rule_table.push_words.Given as goal

-- the words so far
abbrev pub invariant-loop-word : goal.invariant-loop-word
invariant-loop-word l = texts l.words.items ≡ texts l.initial.words.items ++ map string_bytes (take l.word-index l.more)
