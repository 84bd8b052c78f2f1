-- The answer to a build that is judged is one.
use Rattle.std.proofs.Common.{◌≡◌, ◌<◌, ◌∙◌, ℕ, zero, suc, List, [], ◌∷◌, Option, None, Some, Result, Ok, Err, length, inl, inr, refl, sym, ap, subst, arith}
use Rattle.std.specs.Prelude.{slice_index}
use Rattle.std.specs.Option.{ok_or}
use Rattle.std.proofs.lemmas.Bool.{cases_lt}
use Rattle.mk_graph.specs.Graph as value
use Rattle.mk_graph.specs.Graph.{IsGraph, IsSound, Reached, goal, onward}
use Rattle.mk_graph.specs.Laws.{SerialReachesEachOnce}
use Rattle.mk_graph.specs.Membership.{Has}
use Rattle.mk_graph.specs.Serial.{serial_order}
use Rattle.mk_subject.specs.NodeRow.{IsFirstFault}
use Rattle.mk_cert.specs.Laws as judging
use Rattle.mk_subject.specs.Subject.{Subject, IsSubject, commands_of}
use Rattle.mk_find.specs.WayLaws.{CertificateIsOne}
use Rattle.mk_find.specs.FindingLaws.{FindingsAreOne}
use Rattle.mk_infer.specs.Commands.{Commands}
use Rattle.mk_infer.specs.Laws as inferring
use Rattle.mk_infer.specs.declared.fault.InferFault.{InferFault}
use Rattle.mk_infer.specs.declared.fault.InferFault.TheVariants as infer
use Rattle.mk_read.specs.Files.{Told, text_at}
use Rattle.mk_cert_text.specs.Certificate as ways
use Rattle.mk_cert_text.specs.Reading.{certificate_from}
use Rattle.mk_cert_text.specs.declared.fault.CertTextFault.{CertTextFault}
use Rattle.mk_core_text.specs.declared.fault.Fault.{Fault}
use Rattle.mk_core_text.specs.declared.fault.Fault.TheVariants.{Read, Infer, Foot, Plan, Certificate, Verify, FileReadFailed, NoFile, Memory}
use Rattle.mk_core_text.specs.declared.verdict.Verdict.{Verdict}
use Rattle.mk_core_text.specs.declared.verdict.Verdict.TheVariants.{Yes, No}
use Rattle.mk_core.specs.Answer.{Draws, failing_of}
use Rattle.mk_core.specs.CheckAnswer.{AnswersCheck, GivesVerdict, IsVerdict}
use Rattle.mk_core.specs.FileText.{text_of}
use Rattle.mk_core.specs.Judging.{AnswersJudged, AnswersTold, recorded, subject_over}
use Rattle.mk_core_laws.specs.AnswerLaws.{IsSettled, VerdictIsOne, VerificationIsOne}
use Rattle.mk_core.specs.Ready.{Ready, ready_for}
use Rattle.mk_core.specs.Selected.{DrawsGraph}
use Rattle.mk_core.specs.VerifyAnswer.{AnswersVerify, VerifiesCertificate, VerifiesText, accepted}
use Rattle.mk_core_laws.proofs.OneAnswer.{drawn}

-- ---- the first fault of commands

has_at : (xs : List ℕ) (i : ℕ) → i < length xs → Has xs (slice_index xs i)
has_at [] i low = let k : i < 0 = low in absurd (omega arith)
has_at (x ∷ xs) zero low = inl refl
has_at (x ∷ xs) (suc i) low = inr (has_at xs i (omega arith))

is_node : (g : value.Graph) (n : ℕ) → IsSound g → Reached g n → n < length g.nodes
is_node g n sound (goal h) = sound.goals n h
is_node g n sound (onward {n = m} r h) = sound.edges m n h

module _ (reaches : SerialReachesEachOnce) (x : Subject) where
  -- where all commands can be told there is no first fault
  told_all : IsGraph x.graph → IsSubject x → (fault : InferFault) → ¬ (IsFirstFault x (serial_order x.graph) fault)
  told_all is_graph is_subject fault first =
      let n = slice_index (serial_order x.graph) first.place in
      let stands = has_at (serial_order x.graph) first.place first.within in
      let low = is_node x.graph n is_graph.sound (((reaches x.graph is_graph.no_cycle).1 n).0 stands) in
      let found = is_subject.told n low in
      let e = sym found.1 ∙ first.here in absurd cc

  abbrev fault_of : Result Commands InferFault → InferFault
  fault_of (Ok found) = infer.NoGoal
  fault_of (Err fault) = fault

  fault_one : (one other : InferFault) → IsFirstFault x (serial_order x.graph) one → IsFirstFault x (serial_order x.graph) other → one ≡ other
  fault_one one other first second =
      elim (cases_lt first.place second.place) [
        | inl before ↦ let found = second.before first.place before in let e = sym found.1 ∙ first.here in absurd cc
        | inr past ↦ elim (cases_lt second.place first.place) [
          | inl before ↦ let found = first.before second.place before in let e = sym found.1 ∙ second.here in absurd cc
          | inr same ↦ let at : first.place ≡ second.place = omega arith in
              ap fault_of (sym first.here ∙ (ap (λ (k : ℕ). commands_of x (slice_index (serial_order x.graph) k)) at ∙ second.here))
        ]
      ]

  module _ {A : Type 0} (judges : Subject → Result A Fault → Type 0) (one other : Result A Fault) (same : judges x one → judges x other → one ≡ other) where
    told_one : AnswersTold judges x one → AnswersTold judges x other → one ≡ other
    told_one (inl (g, is, a)) (inl (h, also, b)) = same a b
    told_one (inl (g, is, a)) (inr (fault, first, e)) = absurd (told_all g is fault first)
    told_one (inr (fault, first, e)) (inl (g, is, a)) = absurd (told_all g is fault first)
    told_one (inr (fault, first, e)) (inr (again, second, k)) = e ∙ (ap (λ (f : InferFault). Err (Infer f)) (fault_one fault again first second) ∙ sym k)

-- ---- the build of the goals

pub is_settled : {A : Type 0} (answers : value.Graph → Result A Fault → Type 0) (selected : Result value.Graph InferFault) (answer : Result A Fault) → DrawsGraph answers selected answer → inferring.IsSettled selected
is_settled answers (Ok g) answer d = tt
is_settled answers (Err infer.Memory) answer (w, e) = absurd cc
is_settled answers (Err (infer.BadGoal place)) answer d = tt
is_settled answers (Err (infer.GoalIsMember place)) answer d = tt
is_settled answers (Err (infer.NoRule name place)) answer d = tt
is_settled answers (Err infer.NoGoal) answer d = tt
is_settled answers (Err (infer.InferencePrerequisites place)) answer d = tt
is_settled answers (Err (infer.Macro place fault)) answer d = tt
is_settled answers (Err (infer.Graph fault place)) answer d = tt

module _ {A : Type 0} (reaches : SerialReachesEachOnce) (one_selection : inferring.SelectionIsOne) (judges : Subject → Result A Fault → Type 0) (one other : Result A Fault) (same : (x : Subject) → judges x one → judges x other → one ≡ other) where
  graph_one : (ready : Ready) (selected : Result value.Graph InferFault) → DrawsGraph (λ g answer. AnswersTold judges (subject_over ready g) answer) selected one
      → DrawsGraph (λ g answer. AnswersTold judges (subject_over ready g) answer) selected other → one ≡ other
  graph_one ready (Ok g) a b = told_one reaches (subject_over ready g) judges one other (same (subject_over ready g)) a b
  graph_one ready (Err fault) (w, e) (v, k) = e ∙ sym k

  judged_one : (ready : Ready) → AnswersJudged judges ready one → AnswersJudged judges ready other → one ≡ other
  judged_one ready (selected, s, a) (again, t, b) =
      let answers = λ (g : value.Graph) (answer : Result A Fault). AnswersTold judges (subject_over ready g) answer in
      let is = one_selection ready.makefile (recorded ready) ready.goals again selected (is_settled answers again other b) (is_settled answers selected one a) t s in
      graph_one ready selected a (subst (λ (r : Result value.Graph InferFault). DrawsGraph answers r other) is b)

  pub drawn_one : (r : Result Ready Fault) → Draws (AnswersJudged judges) r one → Draws (AnswersJudged judges) r other → one ≡ other
  drawn_one (Err fault) d h = d ∙ sym h
  drawn_one (Ok ready) d h = judged_one ready d h

-- ---- verdicts

same_yes : (c d : ways.Certificate) (recipes n reads m : ℕ) → c ≡ d → recipes ≡ n → reads ≡ m → Yes c recipes reads ≡ Yes d n m
same_yes c d recipes n reads m e f g = rw (e, f, g) refl

module _ (one_list : FindingsAreOne) (one_certificate : CertificateIsOne) (x : Subject) where
  verdict_one : (one other : Verdict) → IsVerdict x one → IsVerdict x other → one ≡ other
  verdict_one (Yes c recipes reads) (Yes d n m) (none, is, e, k) (also, it, f, l) =
      let same = one_certificate x c d is it in same_yes c d recipes n reads m same (e ∙ sym f) (k ∙ sym l)
  verdict_one (Yes c recipes reads) (No found) (none, is, counted, read) (some, are) = absurd (some (one_list x found [] are none))
  verdict_one (No found) (Yes c recipes reads) (some, are) (none, is, counted, read) = absurd (some (one_list x found [] are none))
  verdict_one (No found) (No other) (some, are) (also, they) = ap (λ list. No list) (one_list x found other are they)

  given_one : (one other : Result Verdict Fault) → GivesVerdict x one → GivesVerdict x other → one ≡ other
  given_one one other (v, is, e) (w, it, k) = e ∙ (ap (λ (verdict : Verdict). Ok verdict) (verdict_one v w is it) ∙ sym k)

pub verdict_is_one : CertificateIsOne → FindingsAreOne → inferring.SelectionIsOne → SerialReachesEachOnce → VerdictIsOne
verdict_is_one one_certificate one_list one_selection reaches files request one other s t a b =
    drawn_one reaches one_selection GivesVerdict one other (λ x. given_one one_list one_certificate x one other) (ready_for files None request) (drawn files request AnswersCheck one s a) (drawn files request AnswersCheck other t b)

-- ---- certificates

pub not_failing : {A : Type 0} (answer : Result A Fault) → IsSettled answer → failing_of answer ≡ None
not_failing (Ok x) s = refl
not_failing (Err Memory) s = refl
not_failing (Err (FileReadFailed name)) s = absurd s
not_failing (Err (NoFile name)) s = refl
not_failing (Err (Read fault)) s = refl
not_failing (Err (Infer fault)) s = refl
not_failing (Err (Foot fault)) s = refl
not_failing (Err (Plan fault)) s = refl
not_failing (Err (Certificate fault)) s = refl
not_failing (Err (Verify fault)) s = refl

module _ (one_answer : judging.AnswerIsOne) (x : Subject) (one other : Result (List ℕ) Fault) where
  certificate_one : (r : Result ways.Certificate CertTextFault) → VerifiesCertificate x r one → VerifiesCertificate x r other → one ≡ other
  certificate_one (Ok c) (verdict, v, e) (again, w, k) = e ∙ (ap (accepted x) (one_answer x c verdict again v w) ∙ sym k)
  certificate_one (Err why) e k = e ∙ sym k

  text_one : (name : List ℕ) (text : Option (List ℕ)) → VerifiesText x (ok_or text (NoFile name)) one → VerifiesText x (ok_or text (NoFile name)) other → one ≡ other
  text_one name None e k = e ∙ sym k
  text_one name (Some bytes) v w = certificate_one (certificate_from bytes) v w

  verified_one : (files : Told) (name : List ℕ) → failing_of one ≡ None → failing_of other ≡ None → VerifiesText x (text_of files (failing_of one) name) one
      → VerifiesText x (text_of files (failing_of other) name) other → one ≡ other
  verified_one files name e k v w =
      text_one name (text_at files name) (subst (λ (failing : Option (List ℕ)). VerifiesText x (text_of files failing name) one) e v)
      (subst (λ (failing : Option (List ℕ)). VerifiesText x (text_of files failing name) other) k w)

pub verification_is_one : judging.AnswerIsOne → inferring.SelectionIsOne → SerialReachesEachOnce → VerificationIsOne
verification_is_one one_answer one_selection reaches files request name one other s t a b =
    let judges = λ (x : Subject) (answer : Result (List ℕ) Fault). VerifiesText x (text_of files (failing_of answer) name) answer in
    drawn_one reaches one_selection judges one other (λ x. verified_one one_answer x one other files name (not_failing one s) (not_failing other t)) (ready_for files None request)
    (drawn files request (AnswersVerify files name) one s a) (drawn files request (AnswersVerify files name) other t b)
