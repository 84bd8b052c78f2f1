use Rattle.std.proofs.Common.{◌≡◌, drop, map}
use Rattle.std.specs.Prelude.{fold}
use Rattle.mk_repair.specs.Word.{with_word}
use Rattle.mk_repair.specs.Words.{stored_view}
use Rattle.mk_repair.proofs.words.Words.add_all.Given as goal

-- the words so far, with those that are left
abbrev pub invariant-loop-word : goal.invariant-loop-word
invariant-loop-word l = fold with_word l.self (map stored_view (drop l.word-index l.word-items)) ≡ fold with_word l.fn.self l.more
