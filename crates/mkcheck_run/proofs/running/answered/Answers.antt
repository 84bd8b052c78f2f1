use Rattle.std.proofs.Common.{◌∙◌, sym, ap, subst}
use Rattle.std.proofs.lemmas.Result.{IfOk-weaker}
use Rattle.std.specs.Prelude.{◌≡◌, IfOk, OnErr}
use Rattle.clap.specs.Words.{found_of, rows_of}
use Rattle.mk_core.specs.Ready.{macros_for}
use Rattle.mk_command.specs.declared.invocation.Invocation.{Invocation}
use Rattle.mk_command.specs.Invocation.{asked_with, request_in}
use Rattle.mkcheck_host.specs.Outcome.{written}
use Rattle.mkcheck_run.specs.Run.{AnswersOver, Promises, Shows}
use Rattle.mkcheck_run.proofs.RunLemmas.{met_found, promised, unread_twice}
use Rattle.mkcheck_run.proofs.running.answered.Goals as goal

pub returns-clause-answered : goal.returns-clause-answered
returns-clause-answered g c =
    let found = c.answer-found.result in
    let met = met_found (λ p. p.0.now) (λ p. rows_of (found_of p.1.now)) _ _ _ c.subcommand.result c.unwrap.result c.subcommand.ensures.name c.subcommand.ensures.rows c.unwrap.ensures in
    let asks = c.in_ok-asked.ensures ∙ sym (ap asked_with met) in
    IfOk-weaker c.shown.result _ _ (λ outcome h. record {
      answer = found;
      answers = λ was below told fits.
          subst (λ (a : Invocation). AnswersOver was told a found) asks
          (c.answer-found.ensures.answer was below told (c.shown.ensures.keeps told fits));
      between = g.F.Files.failed c.answer-found.new.files;
      noted = c.answer-found.ensures.noted;
      shows = subst (λ (a : Invocation). Shows (g.F.Files.fits c.shown.new.files)
          (g.F.Files.failed c.answer-found.new.files) (g.F.Files.failed c.shown.new.files) a found
          (written outcome)) asks h;
    }) c.shown.ensures.shows

pub returns-clause-right : goal.returns-clause-right
returns-clause-right g c =
    let found = c.answer-found.result in
    let met = met_found (λ p. p.0.now) (λ p. rows_of (found_of p.1.now)) _ _ _ c.subcommand.result c.unwrap.result c.subcommand.ensures.name c.subcommand.ensures.rows c.unwrap.ensures in
    let asks = c.in_ok-asked.ensures ∙ sym (ap asked_with met) in
    IfOk-weaker c.shown.result _ _ (λ outcome shows done told fits. promised told _
    (g.F.Files.fits c.shown.new.files) (g.F.Files.failed c.answer-found.new.files)
    (g.F.Files.failed c.shown.new.files) found _
    (subst (λ (a : Invocation). IfOk found (λ shown. shown.status ≡ 0 → Promises told a shown.text)) asks
    (c.answer-found.ensures.right told (c.shown.ensures.keeps told fits)))
    (subst (λ (a : Invocation). Shows (g.F.Files.fits c.shown.new.files)
    (g.F.Files.failed c.answer-found.new.files) (g.F.Files.failed c.shown.new.files) a found
    (written outcome)) asks shows) done) c.shown.ensures.shows

pub returns-clause-untouched : goal.returns-clause-untouched
returns-clause-untouched g c =
    let met = met_found (λ p. p.0.now) (λ p. rows_of (found_of p.1.now)) _ _ _ c.subcommand.result c.unwrap.result c.subcommand.ensures.name c.subcommand.ensures.rows c.unwrap.ensures in
    let asks = c.in_ok-asked.ensures ∙ sym (ap asked_with met) in
    subst (λ (a : Invocation). OnErr (macros_for (request_in a)) (c.shown.new.files ≡ c.args.files.now)) asks
    (unread_twice (macros_for (request_in c.in_ok-asked.asked)) _ _ _ c.answer-found.ensures.untouched c.shown.ensures.untouched)
