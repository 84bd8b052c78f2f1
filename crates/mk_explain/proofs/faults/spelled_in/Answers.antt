use Rattle.std.proofs.Common.{ℕ, List, Some, None}
use Rattle.std.specs.Borrow.{Bor}
use Rattle.std.specs.Str.{str_eq_ignore_ascii_case}
use Rattle.mk_explain.proofs.Lookup.{word_of_row}
use Rattle.mk_explain.proofs.faults.spelled_in.Goals as goal

abbrev Row : Type 0
Row = ℕ × Bor (List ℕ) × Bor (List ℕ)

pub returns-in-Some : goal.returns-in-Some
returns-in-Some c = word_of_row (λ (row : Row). row.1.now) (λ (w : List ℕ). str_eq_ignore_ascii_case w c.args.word.now) c.args.rows.now (Some c.in-Some.row.now) c.in-Some.ensures

pub returns-in-None : goal.returns-in-None
returns-in-None c = word_of_row (λ (row : Row). row.1.now) (λ (w : List ℕ). str_eq_ignore_ascii_case w c.args.word.now) c.args.rows.now None c.in-None.ensures
