use Rattle.std.proofs.Common.{List, ℕ, ◌∷◌, subst, refl, ap, ◌∙◌}
use Rattle.std.proofs.lemmas.Result.{err_from_is_err_and}
use Rattle.mk_core.specs.declared.request.Request.{Request}
use Rattle.mk_core.specs.Answer.{Answers}
use Rattle.mk_core.specs.Judging.{AnswersJudged}
use Rattle.mk_core_repair.specs.Known.{known_by, seen_by}
use Rattle.mk_core_repair.specs.Survey.{GivesSurvey}
use Rattle.mk_core_repair.proofs.Rounding.{round_over}
use Rattle.mk_core_repair.proofs.rounds.judge_amended.Goals as goal

pub returns-in_err-request-clause-round : goal.returns-in_err-request-clause-round
returns-in_err-request-clause-round c =
    let p = err_from_is_err_and c.from_residual.result c.from_residual.ensures.1 in
    rw (p.1, p.2) (λ told base. (known_by c.args.base.known.now, base.is_cut, tt))

pub returns-in_err-text-clause-round : goal.returns-in_err-text-clause-round
returns-in_err-text-clause-round c =
    let p = err_from_is_err_and c.from_residual-in_err-text.result c.from_residual-in_err-text.ensures.1 in
    rw (p.1, p.2) (λ told base. (known_by c.args.base.known.now, base.is_cut, tt))

pub returns-clause-round : goal.returns-clause-round
returns-clause-round c =
    let answer = c.answer_judged.result in
    let after = seen_by c.answer_judged.new.files in
    let judged = c.answer_judged.ensures.answer after refl in
    λ told base. round_over told c.args.base.request.now c.args.base.own.now c.args.base.known.now base c.args.added.now c.in_ok-text.text.items c.in_ok-text.ensures after (c.answer_judged.ensures.keeps after refl ∙ (c.new-files.ensures.seen ∙ (ap (λ (n : List ℕ). (n, c.deref.result.now) ∷ known_by c.args.base.known.now) c.as_str.ensures ∙ ap (λ (t : List ℕ). (c.args.base.own.now.name, t) ∷ known_by c.args.base.known.now) c.deref.ensures.value))) answer
    (subst (λ (r : Request). Answers after r (AnswersJudged GivesSurvey) answer) c.in_ok-request.ensures judged)
