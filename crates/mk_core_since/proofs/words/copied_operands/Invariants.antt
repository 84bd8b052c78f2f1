use Rattle.std.proofs.Common.{◌≡◌, ◌++◌, drop, map}
use Rattle.mk_core_since.proofs.words.copied_operands.Given as goal

-- the operands so far, with those that are left
abbrev pub invariant-loop-word : goal.invariant-loop-word
invariant-loop-word l = map (λ word. word.items) l.copies.items ++ map (λ word. word.items) (drop l.word-index l.words) ≡ map (λ word. word.items) l.words
