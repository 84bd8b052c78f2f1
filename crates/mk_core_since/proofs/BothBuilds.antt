-- What comes of the old build and of the new one is an answer.
use Rattle.std.proofs.Common.{◌≡◌, ◌⊎◌, ℕ, Bool, true, List, Result, Ok, Err, IfErr, inl, inr, refl, ap, subst}
use Rattle.mk_read.specs.Files.{Told}
use Rattle.mk_core_text.specs.declared.fault.Fault.{Fault}
use Rattle.mk_core_text.specs.declared.fault.Fault.TheVariants.{FileReadFailed, Memory}
use Rattle.mk_core.specs.declared.request.Request.{Request}
use Rattle.mk_core.specs.Answer.{Answers, NotesFailure}
use Rattle.mk_core.specs.Judging.{AnswersJudged}
use Rattle.mk_core.specs.Steps.{is_out_of_memory}
use Rattle.mk_core_since.specs.declared.old_build.OldBuild.{OldBuild}
use Rattle.mk_core_since.specs.declared.outcome.Since.{Since}
use Rattle.mk_core_since.specs.declared.outcome.Since.TheVariants.{Refused}
use Rattle.mk_core_since.specs.InFolder.{fault_in}
use Rattle.mk_core_since.specs.OldAnswer.{AnswersBefore, AnswersOld, GivesOld}
use Rattle.mk_core_since.specs.SinceAnswer.{AfterOld, AnswersSince}
use Rattle.mk_core_since.specs.Before.{IsUnlessFailed, before}
use Rattle.mk_core_since.specs.Options.{options_name}
use Rattle.mk_core_since.specs.Words.{words_name}

module _ (was : Told) (request : Request) where
  -- the words or the options of the old build are refused
  pub request_refused : (fault : Fault) → IsUnlessFailed (before was request) (Err fault) → AnswersOld was request (Err fault)
  request_refused fault (inl e) = let k : fault ≡ Memory = cc in inl (ap Err k)
  request_refused fault (inr (inl e)) = let k : fault ≡ FileReadFailed words_name = cc in inr (inl (ap Err k))
  request_refused fault (inr (inr (inl e))) = let k : fault ≡ FileReadFailed options_name = cc in inr (inr (inl (ap Err k)))
  request_refused fault (inr (inr (inr e))) =
      inr (inr (inr (subst (λ (q : Result Request Fault). AnswersBefore was q (Err fault)) e refl)))

  -- the old build is judged
  pub old_answers : (q : Request) (r : Result OldBuild Fault) → IsUnlessFailed (before was request) (Ok q) → Answers was q (AnswersJudged GivesOld) r → AnswersOld was request r
  old_answers q r (inl e) a = absurd cc
  old_answers q r (inr (inl e)) a = absurd cc
  old_answers q r (inr (inr (inl e))) a = absurd cc
  old_answers q r (inr (inr (inr e))) a = inr (inr (inr (subst (λ (p : Result Request Fault). AnswersBefore was p r) e a)))

module _ (words : Bool) (was told : Told) (folder : List ℕ) (request : Request) where
  -- something is known of the old build
  pub known_answers : (before : OldBuild) (r : Result Since Fault) → AnswersOld was request (Ok before) → AfterOld words told folder request (Ok before) r → AnswersSince words was told folder request r
  known_answers before r a after = inr (Ok before, a, after)

  -- it is refused
  pub refused_answers : (fault : Fault) (r : Result Since Fault) → AnswersOld was request (Err fault) → (r ≡ Err Memory) ⊎ (r ≡ Ok (Refused (fault_in folder fault))) → AnswersSince words was told folder request r
  refused_answers fault r a (inl e) = inl e
  refused_answers fault r a (inr e) = inr (Err fault, a, e)

-- a refusal of the old build is no fault
pub refused_is_no_fault : (full : Fault) (r : Result Since Fault) → (r ≡ Err Memory) ⊎ (r ≡ Ok (Refused full)) → IfErr r (λ fault. is_out_of_memory fault ≡ true → fault ≡ Memory)
refused_is_no_fault full r (inl e) = rw e (λ h. refl)
refused_is_no_fault full r (inr e) = rw e tt

-- and notes no failed read
pub refused_notes_none : (full : Fault) (r : Result Since Fault) (failed : List (List ℕ)) → (r ≡ Err Memory) ⊎ (r ≡ Ok (Refused full)) → NotesFailure failed failed r
refused_notes_none full r failed (inl e) = rw e refl
refused_notes_none full r failed (inr e) = rw e refl
