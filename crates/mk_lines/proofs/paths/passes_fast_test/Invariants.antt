use Rattle.std.proofs.Common.{◌≡◌, drop}
use Rattle.mk_lines.proofs.Tidy.{tidy_from}
use Rattle.mk_lines.proofs.paths.passes_fast_test.Given as goal

-- The bytes so far follow each other as they may.
abbrev pub invariant-loop-byte : goal.invariant-loop-byte
invariant-loop-byte l = tidy_from l.before (drop l.byte-index l.rest) ≡ tidy_from l.initial.before l.rest
