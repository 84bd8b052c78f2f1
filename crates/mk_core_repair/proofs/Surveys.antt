-- What a survey says of the verdict of `check`.
use Rattle.std.proofs.Common.{Result, Ok, Err, ap}
use Rattle.mk_subject.specs.Subject.{Subject}
use Rattle.mk_read.specs.Files.{Told}
use Rattle.mk_core_text.specs.declared.fault.Fault.{Fault}
use Rattle.mk_core_text.specs.declared.verdict.Verdict.{Verdict}
use Rattle.mk_core_text.specs.declared.verdict.Verdict.TheVariants.{Yes, No}
use Rattle.mk_core.specs.declared.request.Request.{Request}
use Rattle.mk_core.specs.Answer.{Answers}
use Rattle.mk_core.specs.CheckAnswer.{AnswersCheck, GivesVerdict}
use Rattle.mk_core.specs.Judging.{AnswersJudged}
use Rattle.mk_core.specs.Laws.{YesIsRight}
use Rattle.mk_core.proofs.Seen.{judged_along, seen_answers}
use Rattle.mk_core.specs.Steps.{seen}
use Rattle.mk_core_repair.specs.declared.surveying.First.{First}
use Rattle.mk_core_repair.specs.declared.surveying.Survey.{Survey}
use Rattle.mk_core_repair.specs.RepairAnswer.{IsAccepted}
use Rattle.mk_core_repair.specs.Survey.{GivesFirst, GivesSurvey}
use Rattle.mk_core_repair.specs.Views.{IsYesVerdict}

-- the verdict of a survey
abbrev pub verdict_in : Survey → Verdict
verdict_in survey = survey.verdict

-- the survey of the first judgement
abbrev pub survey_in : First → Survey
survey_in first = first.survey

survey_along : (x : Subject) (answer : Result Survey Fault) → GivesSurvey x answer → GivesVerdict x (seen verdict_in answer)
survey_along x answer (survey, is, e) = (survey.verdict, is.is_verdict, ap (seen verdict_in) e)

first_along : (x : Subject) (answer : Result First Fault) → GivesFirst x answer → GivesSurvey x (seen survey_in answer)
first_along x answer (first, is, e) = (first.survey, is.0, ap (seen survey_in) e)

module _ (files : Told) (request : Request) where
  -- a survey has the verdict of `check`
  pub survey_checks : (answer : Result Survey Fault) → Answers files request (AnswersJudged GivesSurvey) answer → Answers files request AnswersCheck (seen verdict_in answer)
  survey_checks answer a = seen_answers verdict_in files request (AnswersJudged GivesSurvey) AnswersCheck (judged_along verdict_in GivesSurvey GivesVerdict survey_along) answer a

  -- the first judgement has a survey
  pub first_surveys : (answer : Result First Fault) → Answers files request (AnswersJudged GivesFirst) answer → Answers files request (AnswersJudged GivesSurvey) (seen survey_in answer)
  first_surveys answer a = seen_answers survey_in files request (AnswersJudged GivesFirst) (AnswersJudged GivesSurvey) (judged_along survey_in GivesFirst GivesSurvey first_along) answer a

  -- a refusal of the first judgement is one of `check`
  pub first_refuses : (fault : Fault) → Answers files request (AnswersJudged GivesFirst) (Err fault) → Answers files request AnswersCheck (Err fault)
  first_refuses fault a = survey_checks (Err fault) (first_surveys (Err fault) a)

  -- a yes is accepted
  pub survey_accepted : YesIsRight → (survey : Survey) → Answers files request (AnswersJudged GivesSurvey) (Ok survey) → IsYesVerdict survey.verdict → IsAccepted files request
  survey_accepted right survey a agreed = by survey.verdict (survey_checks (Ok survey) a) agreed
    where
      by : (verdict : Verdict) → Answers files request AnswersCheck (Ok verdict) → IsYesVerdict verdict → IsAccepted files request
      by (Yes certificate recipes reads) b k = record {
        verdict = Yes certificate recipes reads;
        is_checked = b;
        is_yes = tt;
        is_right = right files request (Ok (Yes certificate recipes reads)) b tt;
      }
      by (No found) b k = absurd k
