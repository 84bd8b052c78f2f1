use Rattle.std.proofs.Common.{ℕ, List, Some, None}
use Rattle.std.specs.Borrow.{Bor}
use Rattle.std.specs.Str.{bytes_eq}
use Rattle.mk_explain.proofs.Lookup.{said}
use Rattle.mk_explain.proofs.faults.named_sentence_in.Goals as goal

abbrev Row : Type 0
Row = ℕ × Bor (List ℕ) × Bor (List ℕ)

pub returns-in-Some : goal.returns-in-Some
returns-in-Some c = said (λ (row : Row). row.1.now) (λ (row : Row). row.2.now) (λ (w : List ℕ). bytes_eq w c.args.name.now) c.args.rows.now (Some c.in-Some.row.now) c.in-Some.ensures

pub returns-in-None : goal.returns-in-None
returns-in-None c = said (λ (row : Row). row.1.now) (λ (row : Row). row.2.now) (λ (w : List ℕ). bytes_eq w c.args.name.now) c.args.rows.now None c.in-None.ensures
