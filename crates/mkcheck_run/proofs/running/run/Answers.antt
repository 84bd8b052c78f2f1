use Rattle.std.proofs.Common.{◌≡◌, ◌∙◌, [], ap, subst, map}
use Rattle.std.proofs.lemmas.Result.{IfOk-weaker}
use Rattle.std.specs.Prelude.{OnErr}
use Rattle.clap.specs.Words.{App, HasKind, IsAmong, fault_of, is_simple, is_simple_and_free, kind_of, subcommand_of}
use Rattle.mk_command.specs.declared.invocation.Invocation.{Invocation}
use Rattle.mk_command.specs.Invocation.{invocation_of, asked_with, faults_of, request_in}
use Rattle.mk_core.specs.Files.{IfFits}
use Rattle.mk_core.specs.Ready.{macros_for}
use Rattle.mkcheck_host.specs.Outcome.{written}
use Rattle.mkcheck_run.specs.Run.{IsAnswered, Promises}
use Rattle.mk_command.proofs.PlainWords.{plain_asked, plain_taken}
use Rattle.mk_command.proofs.Simple.{is_simple_command, is_simple_line}
use Rattle.mkcheck_run.proofs.RunLemmas.{IfOk-each, explained_kind, unread_by}
use Rattle.mkcheck_run.proofs.running.run.Goals as goal

pub returns-in-Ok-clause-refused : goal.returns-in-Ok-clause-refused
returns-in-Ok-clause-refused g c =
    let app = c.in_ok-command.ensures.app in
    let words = map g.S.AsStr.text c.args.words.now in
    let none = subst (λ (a : App). fault_of a words ≡ []) app (c.in-Ok.ensures.kinds (ap is_simple_and_free app ∙ is_simple_line)) in
    IfOk-each c.answered.result _ (λ outcome some. absurd (some none))

pub returns-in-Err-clause-taken : goal.returns-in-Err-clause-taken
returns-in-Err-clause-taken g c =
    let app = c.in_ok-command.ensures.app in
    let words = map g.S.AsStr.text c.args.words.now in
    let kinds = subst (λ (a : App). HasKind (fault_of a words) c.in-Err.error) app (c.in-Err.ensures.kinds (ap is_simple_and_free app ∙ is_simple_line)) in
    IfOk-weaker c.explained.result _ _ (λ outcome h none. absurd (subst (IsAmong (kind_of c.in-Err.error)) none (explained_kind _ _ _ h kinds))) c.explained.ensures

pub returns-in-Err-clause-refused : goal.returns-in-Err-clause-refused
returns-in-Err-clause-refused g c =
    let app = c.in_ok-command.ensures.app in
    let words = map g.S.AsStr.text c.args.words.now in
    let kinds = subst (λ (a : App). HasKind (fault_of a words) c.in-Err.error) app (c.in-Err.ensures.kinds (ap is_simple_and_free app ∙ is_simple_line)) in
    IfOk-weaker c.explained.result _ _ (λ outcome h some. (kind_of c.in-Err.error, explained_kind _ _ _ h kinds, h)) c.explained.ensures

pub returns-in-Ok-clause-plain : goal.returns-in-Ok-clause-plain
returns-in-Ok-clause-plain g c =
    let app = c.in_ok-command.ensures.app in
    let words = map g.S.AsStr.text c.args.words.now in
    let met = (c.in-Ok.ensures.matches (ap is_simple app ∙ is_simple_command)).1 ∙ ap (λ (a : App). subcommand_of a words) app in
    let asks = ap asked_with met in
    IfOk-weaker c.answered.result _ _ (λ outcome h makefile asked is plain few.
    subst (λ (a : Invocation). IsAnswered (g.B.Files.fits c.answered.new.below) (g.F.Files.fits c.answered.new.files) (g.F.Files.failed c.args.files.now) (g.F.Files.failed c.answered.new.files) a (written outcome))
    (asks ∙ (ap invocation_of is ∙ plain_asked makefile asked plain)) h) c.answered.ensures.answered

pub returns-in-Err-clause-plain : goal.returns-in-Err-clause-plain
returns-in-Err-clause-plain g c =
    let app = c.in_ok-command.ensures.app in
    let words = map g.S.AsStr.text c.args.words.now in
    let kinds = subst (λ (a : App). HasKind (fault_of a words) c.in-Err.error) app (c.in-Err.ensures.kinds (ap is_simple_and_free app ∙ is_simple_line)) in
    IfOk-weaker c.explained.result _ _ (λ outcome h makefile asked is plain few.
    absurd (subst (IsAmong (kind_of c.in-Err.error)) (ap faults_of is ∙ plain_taken makefile asked plain few) (explained_kind _ _ _ h kinds))) c.explained.ensures

pub returns-in-Ok-clause-taken : goal.returns-in-Ok-clause-taken
returns-in-Ok-clause-taken g c =
    let app = c.in_ok-command.ensures.app in
    let words = map g.S.AsStr.text c.args.words.now in
    let met = (c.in-Ok.ensures.matches (ap is_simple app ∙ is_simple_command)).1 ∙ ap (λ (a : App). subcommand_of a words) app in
    IfOk-weaker c.answered.result _ _ (λ outcome h taken.
    subst (λ (a : Invocation). IsAnswered (g.B.Files.fits c.answered.new.below) (g.F.Files.fits c.answered.new.files) (g.F.Files.failed c.args.files.now) (g.F.Files.failed c.answered.new.files) a (written outcome))
    (ap asked_with met) h) c.answered.ensures.answered

pub returns-in-Ok-clause-right : goal.returns-in-Ok-clause-right
returns-in-Ok-clause-right g c =
    let app = c.in_ok-command.ensures.app in
    let words = map g.S.AsStr.text c.args.words.now in
    let met = (c.in-Ok.ensures.matches (ap is_simple app ∙ is_simple_command)).1 ∙ ap (λ (a : App). subcommand_of a words) app in
    IfOk-weaker c.answered.result _ _ (λ outcome h taken done.
    subst (λ (a : Invocation). IfFits (g.F.Files.fits c.answered.new.files) (λ files. Promises files a outcome.out.items)) (ap asked_with met) (h done)) c.answered.ensures.right

pub returns-in-Err-clause-right : goal.returns-in-Err-clause-right
returns-in-Err-clause-right g c =
    let app = c.in_ok-command.ensures.app in
    let words = map g.S.AsStr.text c.args.words.now in
    let kinds = subst (λ (a : App). HasKind (fault_of a words) c.in-Err.error) app (c.in-Err.ensures.kinds (ap is_simple_and_free app ∙ is_simple_line)) in
    IfOk-weaker c.explained.result _ _ (λ outcome h none done. absurd (subst (IsAmong (kind_of c.in-Err.error)) none (explained_kind _ _ _ h kinds))) c.explained.ensures

pub returns-in-Ok-clause-untouched : goal.returns-in-Ok-clause-untouched
returns-in-Ok-clause-untouched g c =
    let app = c.in_ok-command.ensures.app in
    let words = map g.S.AsStr.text c.args.words.now in
    let none = subst (λ (a : App). fault_of a words ≡ []) app (c.in-Ok.ensures.kinds (ap is_simple_and_free app ∙ is_simple_line)) in
    let met = (c.in-Ok.ensures.matches (ap is_simple app ∙ is_simple_command)).1 ∙ ap (λ (a : App). subcommand_of a words) app in
    let same = c.answered.new.files ≡ c.args.files.now in
    unread_by words same none (subst (λ (a : Invocation). OnErr (macros_for (request_in a)) same) (ap asked_with met) c.answered.ensures.untouched)
