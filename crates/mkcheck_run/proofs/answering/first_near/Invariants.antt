use Rattle.std.proofs.Common.{◌≡◌, drop}
use Rattle.mkcheck_run.specs.Run.{first_near}
use Rattle.mkcheck_run.proofs.answering.first_near.Given as goal

-- what begins like one of the words that are left does so in all
abbrev pub invariant-loop-word : goal.invariant-loop-word
invariant-loop-word l = first_near (drop l.word-index l.words) ≡ first_near l.words
