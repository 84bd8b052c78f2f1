use Rattle.std.proofs.Common.{ℕ, List, length, ap, arith}
use Rattle.std.specs.List.{concat}
use Rattle.mk_subject.proofs.number_rows.NumberRows.total.Goals as goal

pub returns : goal.returns
returns c =
    omega (arith, c.len.ensures, c.self.inside.numbers.ok.0, ap length c.self.invariant.whole, ap (λ (rows : List (List ℕ)). length (concat rows)) c.self.view_is)
