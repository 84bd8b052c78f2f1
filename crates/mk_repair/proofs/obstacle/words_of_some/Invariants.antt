use Rattle.std.proofs.Common.{◌≡◌, drop, fold}
use Rattle.mk_repair.specs.Obstacle.{with_word_of, words_of_some}
use Rattle.mk_repair.proofs.obstacle.words_of_some.Given as goal

-- the words so far, with those of the findings that are left
abbrev pub invariant-loop-finding : goal.invariant-loop-finding
invariant-loop-finding l = fold (with_word_of l.subject) l.words (drop l.finding-index l.findings) ≡ words_of_some l.subject l.findings
