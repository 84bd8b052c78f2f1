use Rattle.std.proofs.Common.{[], get_or, arith}
use Rattle.mk_lemmas.proofs.Texts.{texts}
use Rattle.mk_subject.proofs.KnownFiles.{as_many}
use Rattle.mk_subject.proofs.NumberRows.{row_within}
use Rattle.mk_subject.proofs.TablesOf.{unsettled_held}
use Rattle.mk_subject.specs.Target.{unsettled_of}
use Rattle.mk_subject.proofs.subject.Subject.count_of_all_unsettled.Goals as goal

pub returns : goal.returns
returns c = λ n.
    let x = c.args.self.now in
    let t = c.self.inside.tables in
    omega (arith, c.total.ensures, row_within t.unsettled n, as_many (texts t.files.names.keys) (get_or t.unsettled n []) (unsettled_of x n) (unsettled_held _ x t c.self.view_is c.self.invariant n))
