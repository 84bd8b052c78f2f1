use Rattle.std.proofs.Common.{List, subst}
use Rattle.mk_find.specs.declared.finding.Finding.{Finding}
use Rattle.mk_find.specs.Listed.{Adds}
use Rattle.mk_find.specs.NodeChecks.{pairs_with}
use Rattle.mk_find.proofs.FirstFound.{tells_of}
use Rattle.mk_find.proofs.first.first_pair_with.Goals as goal

pub returns : goal.returns
returns c =
    let x = c.args.subject.now in
    let all = pairs_with x c.args.row.now.number in
    let found = c.note_files.new.found in
    tells_of x all found c.first_of.result (subst (λ (old : List Finding). Adds x all old found) c.new-found.ensures c.in_ok-note_files.ensures) c.first_of.ensures
