use Rattle.std.proofs.Common.{◌≡◌, drop, map}
use Rattle.std.specs.Str.{bytes_eq}
use Rattle.mk_repair.specs.Gathering.{with_values}
use Rattle.mk_repair.specs.Lines.{lacking, needed_pairs}
use Rattle.mk_repair.specs.Rows.{rows_view}
use Rattle.mk_repair.specs.Words.{stored_view}
use Rattle.mk_repair.proofs.rows.rows_of.Given as goal

-- the rows so far, with the pairs that are left
abbrev pub invariant-loop-word : goal.invariant-loop-word
invariant-loop-word l = with_values bytes_eq (rows_view l.rows.entries) (needed_pairs (map stored_view (drop l.word-index l.words))) ≡ lacking (map stored_view l.words)
