-- A yes as JSON is the yes of `check`.
use Rattle.std.proofs.Common.{◌≡◌, ℕ, inl, inr, refl, None, Result, Ok, Err}
use Rattle.std.specs.declared.vec.Vec.{Vec}
use Rattle.std.specs.declared.alloc.Global.{Global}
use Rattle.mk_subject.specs.Subject.{Subject}
use Rattle.mk_read.specs.Files.{Told}
use Rattle.mk_core.specs.declared.request.Request.{Request}
use Rattle.mk_core_text.specs.declared.fault.Fault.{Fault}
use Rattle.mk_core_text.specs.declared.verdict.Verdict.{Verdict}
use Rattle.mk_core_text.specs.declared.verdict.Verdict.TheVariants as verdicts
use Rattle.mk_core.specs.Answer.{Answers, Draws}
use Rattle.mk_core.specs.CheckAnswer.{AnswersCheck, GivesVerdict, IsYes}
use Rattle.mk_core.specs.Laws.{YesIsRight}
use Rattle.mk_core.specs.Ready.{Ready, ready_for}
use Rattle.mk_core.specs.Right.{IsRightFor}
use Rattle.mk_core_json.specs.declared.checking.InJson.{InJson}
use Rattle.mk_core_json.specs.declared.checking.InJson.TheVariants.{Yes, No}
use Rattle.mk_core_json.specs.InJsonAnswer.{AnswersInJson, HasYes, IsInJson}

-- there is a verdict of yes with this property
abbrev HasVerdict : (Result Verdict Fault → Type 0) → Type 0
HasVerdict is = (verdict : Verdict) × is (Ok verdict) × IsYes (Ok verdict)

module _ (text : Vec ℕ Global) where
  of_found : (x : Subject) (found : InJson) → IsInJson x found → ◌≡◌ {A = Result InJson Fault} (Ok (Yes text)) (Ok found) → HasVerdict (GivesVerdict x)
  of_found x (Yes other) (verdicts.Yes certificate recipes reads, is, shows) e = (verdicts.Yes certificate recipes reads, (verdicts.Yes certificate recipes reads, is, refl), tt)
  of_found x (Yes other) (verdicts.No found, is, shows) e = absurd shows
  of_found x (No other) is e = absurd cc

  of_judged : (ready : Ready) → AnswersInJson ready (Ok (Yes text)) → HasVerdict (AnswersCheck ready)
  of_judged ready (Ok g, s, inl (is_graph, is_subject, (found, is, e))) =
      let v = of_found _ found is e in (v.0, (Ok g, s, inl (is_graph, is_subject, v.1)), v.2)
  of_judged ready (Ok g, s, inr (fault, first, e)) = absurd cc
  of_judged ready (Err fault, s, (settled, e)) = absurd cc

  of_drawn : (r : Result Ready Fault) → Draws AnswersInJson r (Ok (Yes text)) → HasVerdict (Draws AnswersCheck r)
  of_drawn (Ok ready) a = of_judged ready a
  of_drawn (Err fault) e = absurd cc

module _ (told : Told) (request : Request) where
  -- a yes is right
  pub yes_answered : YesIsRight → (answer : Result InJson Fault) → Answers told request AnswersInJson answer → HasYes answer → IsRightFor told request
  yes_answered right (Ok (Yes text)) a agreed =
      let v = of_drawn text (ready_for told None request) a in right told request (Ok v.0) v.1 v.2
  yes_answered right (Ok (No text)) a agreed = absurd agreed
  yes_answered right (Err fault) a agreed = absurd agreed
