use Rattle.std.proofs.Common.{◌≡◌, drop}
use Rattle.mk_repair.specs.FindingWords.{with_words_of, words_of}
use Rattle.mk_repair.proofs.finding_words.words_of.Given as goal

-- the words so far, with those of the findings that are left
abbrev pub invariant-loop-finding : goal.invariant-loop-finding
invariant-loop-finding l = with_words_of l.subject l.words (drop l.finding-index l.findings) ≡ words_of l.subject l.findings
