use Rattle.std.proofs.Common.{◌≡◌, ℕ, ◌+◌, ◌≤◌, length, take, drop}
use Rattle.mk_lines.proofs.Pieces.{pieces}
use Rattle.mk_lines.proofs.RunsFound.{first_run, behind_run}
use Rattle.mk_lines.proofs.runs.take_run.Given as goal

-- The rest of the text, from `end` on, begins with the rest of the first run, `count` pieces of
-- which precede it.
abbrev pub invariant-loop-after : goal.invariant-loop-after
invariant-loop-after l = record {
  rest : l.rest ≡ drop l.end l.text;
  size : l.end + length l.rest ≡ length l.text;
  behind : behind_run (pieces l.rest) ≡ behind_run (pieces l.text);
  run : (m : ℕ) → pieces (take m l.rest) ≡ first_run (pieces l.rest) → pieces (take (l.end + m) l.text) ≡ first_run (pieces l.text);
  count : l.count + length (first_run (pieces l.rest)) ≡ length (first_run (pieces l.text)) + 1;
  few : l.count ≤ l.end + 1;
}

abbrev pub decreases-loop-after : goal.decreases-loop-after
decreases-loop-after l = length l.rest
