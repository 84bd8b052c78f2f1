use Rattle.std.proofs.Common.{List, subst}
use Rattle.mk_find.specs.declared.finding.Finding.{Finding}
use Rattle.mk_find.specs.Listed.{Adds}
use Rattle.mk_find.specs.NodeChecks.{candidates_after_pairs}
use Rattle.mk_find.proofs.FirstFound.{tells_of}
use Rattle.mk_find.proofs.first.first_behind_pairs.Goals as goal

pub returns : goal.returns
returns c =
    let x = c.args.subject.now in
    let all = candidates_after_pairs x in
    let found = c.run_checks_after_pairs.new.found in
    tells_of x all found c.first_of.result (subst (λ (old : List Finding). Adds x all old found) c.new-found.ensures c.in_ok-run_checks_after_pairs.ensures) c.first_of.ensures
