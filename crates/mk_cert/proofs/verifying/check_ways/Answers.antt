use Rattle.std.proofs.Common.{List, [], ⊎_elim, sym, subst}
use Rattle.mk_cert.specs.WalkTables.{AreSeen}
use Rattle.mk_cert.specs.Verdict.{NoneBad}
use Rattle.mk_cert.proofs.Found.{ways_answer}
use Rattle.mk_cert.proofs.verifying.check_ways.Goals as goal

pub returns : goal.returns
returns c =
    let x = c.args.subject.now in
    let ways = c.args.ways.now in
    let none : NoneBad x [] ways = ⊎_elim (λ e. absurd (cc)) (λ h. h) c.in_ok-check_entries.ensures.answer in
    let seen : AreSeen x ways c.deref.result.now = subst (λ (l : List _). AreSeen x ways l) (sym c.deref.ensures.value) c.in_ok-check_entries.ensures.seen in
    ways_answer x ways none c.check_reads.result (c.check_reads.ensures ways seen)
