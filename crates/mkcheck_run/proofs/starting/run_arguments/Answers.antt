use Rattle.std.proofs.Common.{◌≡◌, List, [], String, Global, subst}
use Rattle.mk_core.specs.Files.{IfFits}
use Rattle.mk_command.specs.Invocation.{AreRefusedUnread, faults_of, invocation_of}
use Rattle.mkcheck_run.specs.Run.{Promises}
use Rattle.mkcheck_run.proofs.RunLemmas.{texts_of}
use Rattle.mkcheck_run.proofs.starting.run_arguments.Goals as goal

pub returns-in-Ok-run-clause-right : goal.returns-in-Ok-run-clause-right
returns-in-Ok-run-clause-right g c =
    rw c.in-Ok.is
    (subst (λ (words : List (String Global)). faults_of (texts_of words) ≡ [] → c.in-Ok-run.outcome.status ≡ 0 → IfFits (g.F.Files.fits c.run.new.files) (λ told. Promises told (invocation_of (texts_of words)) c.in-Ok-run.outcome.out.items))
    c.as_slice.ensures.value c.in-Ok-run.ensures.right)

pub returns-in-Ok-run-clause-untouched : goal.returns-in-Ok-run-clause-untouched
returns-in-Ok-run-clause-untouched g c =
    rw c.in-Ok.is
    (subst (λ (words : List (String Global)). AreRefusedUnread (texts_of words) → c.run.new.files ≡ c.args.files.now)
    c.as_slice.ensures.value c.run.ensures.untouched)

pub returns-in-Ok-clause-untouched : goal.returns-in-Ok-clause-untouched
returns-in-Ok-clause-untouched g c =
    rw c.in-Ok.is
    (subst (λ (words : List (String Global)). AreRefusedUnread (texts_of words) → c.run.new.files ≡ c.args.files.now)
    c.as_slice.ensures.value c.run.ensures.untouched)
