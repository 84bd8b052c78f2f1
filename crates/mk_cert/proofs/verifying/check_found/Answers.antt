use Rattle.std.proofs.Common.{[], inr, subst}
use Rattle.std.specs.Prelude.{Option, Some}
use Rattle.mk_find.specs.declared.finding.Finding.{Finding}
use Rattle.mk_find.specs.Candidates.{static_candidates, race_candidates}
use Rattle.mk_find.specs.Listing.{Lists}
use Rattle.mk_find.specs.Listed.{IsFirstFinding}
use Rattle.mk_find.proofs.FirstFound.{tells_before, tells_behind}
use Rattle.mk_cert.proofs.verifying.check_found.Goals as goal

pub returns-in-Some : goal.returns-in-Some
returns-in-Some c =
    let x = c.args.subject.now in
    inr (tells_before x (static_candidates x) (race_candidates x) c.in-Some.finding (subst (λ (r : Option Finding). IsFirstFinding x (static_candidates x) r) c.in-Some.is c.in_ok-finding.ensures))

pub returns-in-Some-2 : goal.returns-in-Some-2
returns-in-Some-2 c =
    let x = c.args.subject.now in
    let none : Lists x (static_candidates x) [] = subst (λ (r : Option Finding). IsFirstFinding x (static_candidates x) r) c.in_default.is c.in_ok-finding.ensures in
    inr (tells_behind x (static_candidates x) (race_candidates x) (Some c.in-Some-2.finding) none (subst (λ (r : Option Finding). IsFirstFinding x (race_candidates x) r) c.in-Some-2.is c.in_ok-finding-2.ensures))

pub returns : goal.returns
returns c =
    let x = c.args.subject.now in
    inr (
      subst (λ (r : Option Finding). IsFirstFinding x (static_candidates x) r) c.in_default.is c.in_ok-finding.ensures,
      subst (λ (r : Option Finding). IsFirstFinding x (race_candidates x) r) c.in_default-2.is c.in_ok-finding-2.ensures,
    )
