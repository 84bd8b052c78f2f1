use Rattle.std.proofs.Common.{◌≡◌, drop}
use Rattle.mkcheck_run.specs.Run.{first_explained}
use Rattle.mkcheck_run.proofs.answering.first_explained.Given as goal

-- what is explained in the words that are left is explained in all
abbrev pub invariant-loop-word : goal.invariant-loop-word
invariant-loop-word l = first_explained (drop l.word-index l.words) ≡ first_explained l.words
