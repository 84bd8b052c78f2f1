-- A judgement has one survey.
use Rattle.std.proofs.Common.{◌≡◌, ℕ, List, Option, None, Result, Ok, Err, inl, inr, refl, sym, ap, subst, ◌∙◌}
use Rattle.mk_subject.specs.Subject.{Subject}
use Rattle.mk_graph.specs.Graph.{Graph}
use Rattle.mk_infer.specs.Laws.{SelectionIsOne}
use Rattle.mk_infer.specs.Selection.{Selects}
use Rattle.mk_infer.specs.declared.fault.InferFault.{InferFault}
use Rattle.mk_read.specs.declared.fault.ReadFault.{ReadFault}
use Rattle.mk_read.specs.declared.fault.ReadFault.TheVariants as read
use Rattle.mk_read.specs.Files.{Told}
use Rattle.mk_core_text.specs.declared.fault.Fault.{Fault}
use Rattle.mk_core_text.specs.declared.fault.Fault.TheVariants.{Read, FileReadFailed, Memory}
use Rattle.mk_core_text.specs.declared.verdict.Verdict.{Verdict}
use Rattle.mk_core.specs.declared.request.Request.{Request}
use Rattle.mk_core.specs.Answer.{Answers, Draws}
use Rattle.mk_core.specs.Judging.{AnswersJudged, recorded, subject_over}
use Rattle.mk_core.specs.Ready.{Ready, ready_for}
use Rattle.mk_core.proofs.Seen.{fault_same}
use Rattle.mk_core_laws.specs.AnswerLaws.{IsSettled, VerdictIsOne}
use Rattle.mk_repair.specs.Word.{Word}
use Rattle.mk_core_repair.specs.declared.surveying.Survey.{Survey}
use Rattle.mk_core_repair.specs.Survey.{GivesSurvey, IsSurvey, words_for}
use Rattle.mk_core_repair.proofs.Surveys.{survey_checks}

-- a fault is settled whatever the answers are
pub settled_fault : (A B : Type 0) (fault : Fault) → IsSettled {A = A} (Err fault) → IsSettled {A = B} (Err fault)
settled_fault A B Memory s = s
settled_fault A B (FileReadFailed name) s = s
settled_fault A B (Read fault) s = by fault s
  where
    by : (fault : ReadFault) → IsSettled {A = A} (Err (Read fault)) → IsSettled {A = B} (Err (Read fault))
    by (read.ReadFailed place name) s = s
    by fault s = tt
settled_fault A B fault s = tt

-- the answer is a value of this kind, without a fault
abbrev pub Gives : {A : Type 0} → (Subject → A → Type 0) → Subject → Result A Fault → Type 0
Gives {A} is x answer = (a : A) × is x a × (answer ≡ Ok a)

-- the graph that was judged
found : {A : Type 0} (is : Subject → A → Type 0) (ready : Ready) (a : A) → AnswersJudged (Gives is) ready (Ok a) → (g : Graph) × Selects ready.makefile (recorded ready) ready.goals (Ok g) × is (subject_over ready g) a
found is ready a (Err fault, s, (settled, e)) = absurd cc
found is ready a (Ok g, s, inr (fault, first, e)) = absurd cc
found is ready a (Ok g, s, inl (is_graph, is_subject, (b, k, e))) =
    let same : b ≡ a = cc in
    (g, s, subst (is (subject_over ready g)) same k)

-- two judgements have the same subject
pub shared : {A B : Type 0} → SelectionIsOne → (is : Subject → A → Type 0) (are : Subject → B → Type 0) (r : Result Ready Fault) (a : A) (b : B) → Draws (AnswersJudged (Gives is)) r (Ok a) → Draws (AnswersJudged (Gives are)) r (Ok b)
    → (x : Subject) × is x a × are x b
shared selection is are (Err fault) a b d h = absurd cc
shared selection is are (Ok ready) a b d h =
    let one = found is ready a d in
    let other = found are ready b h in
    let same : ◌≡◌ {A = Result Graph InferFault} (Ok one.0) (Ok other.0) = selection ready.makefile (recorded ready) ready.goals (Ok one.0) (Ok other.0) tt tt one.1 other.1 in
    let graph : one.0 ≡ other.0 = cc in
    (subject_over ready one.0, one.2, subst (λ (g : Graph). are (subject_over ready g) b) (sym graph) other.2)

same_parts : (v w : Verdict) (one other : Option (List Word)) (these those : List (List ℕ)) → v ≡ w → one ≡ other → these ≡ those
    → ◌≡◌ {A = Survey} (record { verdict = v; words = one; files = these }) (record { verdict = w; words = other; files = those })
same_parts v w one other these those e h k = rw (e, h, k) refl

module _ (verdicts : VerdictIsOne) (selection : SelectionIsOne) (files : Told) (request : Request) where
  pub survey_one : (one other : Survey) → Answers files request (AnswersJudged GivesSurvey) (Ok one) → Answers files request (AnswersJudged GivesSurvey) (Ok other) → one ≡ other
  survey_one one other a b =
      let both = shared selection IsSurvey IsSurvey (ready_for files None request) one other a b in
      let judged : ◌≡◌ {A = Result Verdict Fault} (Ok one.verdict) (Ok other.verdict) = verdicts files request (Ok one.verdict) (Ok other.verdict) tt tt (survey_checks files request (Ok one) a) (survey_checks files request (Ok other) b) in
      let verdict : one.verdict ≡ other.verdict = cc in
      same_parts one.verdict other.verdict one.words other.words one.files other.files verdict
      (both.1.has_words ∙ (ap (words_for both.0) verdict ∙ sym both.2.has_words)) (both.1.has_files ∙ sym both.2.has_files)

  pub answer_one : (one other : Result Survey Fault) → IsSettled one → IsSettled other → Answers files request (AnswersJudged GivesSurvey) one → Answers files request (AnswersJudged GivesSurvey) other → one ≡ other
  answer_one (Ok one) (Ok other) s t a b = ap (λ (survey : Survey). Ok survey) (survey_one one other a b)
  answer_one (Ok one) (Err fault) s t a b =
      let e : ◌≡◌ {A = Result Verdict Fault} (Ok one.verdict) (Err fault) = verdicts files request (Ok one.verdict) (Err fault) tt (settled_fault Survey Verdict fault t) (survey_checks files request (Ok one) a) (survey_checks files request (Err fault) b) in
      absurd cc
  answer_one (Err fault) (Ok other) s t a b =
      let e : ◌≡◌ {A = Result Verdict Fault} (Err fault) (Ok other.verdict) = verdicts files request (Err fault) (Ok other.verdict) (settled_fault Survey Verdict fault s) tt (survey_checks files request (Err fault) a) (survey_checks files request (Ok other) b) in
      absurd cc
  answer_one (Err fault) (Err also) s t a b =
      fault_same fault also
      (verdicts files request (Err fault) (Err also) (settled_fault Survey Verdict fault s) (settled_fault Survey Verdict also t) (survey_checks files request (Err fault) a) (survey_checks files request (Err also) b))
