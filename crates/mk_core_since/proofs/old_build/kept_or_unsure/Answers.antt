use Rattle.std.proofs.Common.{subst}
use Rattle.mk_find.specs.Candidates.{static_candidates}
use Rattle.mk_find.specs.Listed.{IsFirstFinding}
use Rattle.mk_core_since.proofs.StaticFound.{first_is_listed}
use Rattle.mk_core_since.proofs.old_build.kept_or_unsure.Goals as goal

pub returns-in-Some : goal.returns-in-Some
returns-in-Some c =
    let x = c.args.subject.now in
    let first = subst (IsFirstFinding x (static_candidates x)) c.in-Some.is c.in_ok-first_static.ensures in
    (c.requires.some, first_is_listed x (static_candidates x) first.0 first.1, c.requires.found)
