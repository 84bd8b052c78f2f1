use Rattle.std.proofs.Common.{List, sym, subst}
use Rattle.std.proofs.lemmas.Bool.{MatchBool-at_false, MatchBool-at_true}
use Rattle.mk_world.specs.NamedStep.{Step}
use Rattle.mk_find_evidence.specs.Shown.{ShowsRace}
use Rattle.mk_find_evidence.proofs.race.race.Goals as goal

pub returns-then-branch-clause-shown : goal.returns-then-branch-clause-shown
returns-then-branch-clause-shown c =
    subst (λ (steps : List Step). ShowsRace c.args.subject.now c.args.o c.args.t steps) (sym c.into_steps-steps.ensures.steps) (MatchBool-at_true _ _ c.if-branch.true c.in_ok-enough.ensures)

pub returns-clause-shown : goal.returns-clause-shown
returns-clause-shown c = MatchBool-at_false _ _ c.if-branch.false c.in_ok-enough.ensures
