use Rattle.std.proofs.Common.{length, ap, arith}
use Rattle.mk_subject.proofs.NumberRows.{counted}
use Rattle.mk_subject.proofs.number_rows.NumberRows.len.Goals as goal

pub returns : goal.returns
returns c =
    omega (arith, c.len.ensures, c.self.inside.ends.ok.0, counted c.self.inside.ends.items c.self.inside.numbers.items c.self.invariant, ap length c.self.view_is)
