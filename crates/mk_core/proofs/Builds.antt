-- What is answered to a build that is judged.
use Rattle.std.proofs.Common.{◌≡◌, ◌⊎◌, ◌∙◌, ℕ, true, false, List, Result, Ok, Err, map, inl, inr, refl, sym, ap, subst}
use Rattle.mk_graph.specs.Graph as value
use Rattle.mk_graph.specs.Graph.{IsGraph}
use Rattle.mk_subject.specs.NodeRow.{IsFaultOf}
use Rattle.mk_subject.specs.Laws.{SelectedGoals}
use Rattle.mk_subject.specs.Subject.{Subject, IsSubject, name_of, subject_of}
use Rattle.mk_foot.specs.Setting.{Setting}
use Rattle.mk_infer.specs.Selection.{Selects}
use Rattle.mk_infer.specs.There.{Exists}
use Rattle.mk_infer.specs.Steps as inferring
use Rattle.mk_infer.specs.declared.fault.InferFault.{InferFault}
use Rattle.mk_read.specs.Files.{Told}
use Rattle.mk_read.specs.Reading.{Makefile}
use Rattle.mk_core_text.specs.declared.fault.Fault.{Fault}
use Rattle.mk_core_text.specs.declared.fault.Fault.TheVariants.{Infer, Memory}
use Rattle.mk_core.specs.Answer.{failing_of}
use Rattle.mk_core.specs.FileText.{text_of}
use Rattle.mk_core.specs.Judging.{AnswersJudged, AnswersTold, recorded, subject_over}
use Rattle.mk_core.specs.Ready.{Ready}
use Rattle.mk_core.specs.Steps.{of_infer, seen}
use Rattle.mk_core.specs.VerifyAnswer.{AnswersVerify, VerifiesText}
use Rattle.mk_core.specs.Views.{Selected}
use Rattle.mk_core.proofs.Seen.{fault_same}
use Rattle.mk_core.proofs.Faults.{by_infer}

-- ---- the build of a graph

module _ {A : Type 0} (judges : Subject → Result A Fault → Type 0) where
  -- some commands can't be told
  pub told_fails : (x : Subject) (fault : InferFault) → IsFaultOf x fault → (◌≡◌ {A = Result A Fault} (Err (of_infer fault)) (Err Memory)) ⊎ AnswersTold judges x (Err (of_infer fault))
  told_fails x fault (inl e) =
      by_infer (λ f. (◌≡◌ {A = Result A Fault} (Err f) (Err Memory)) ⊎ AnswersTold judges x (Err f)) fault (inl refl) (λ settled. let k : true ≡ false = ap inferring.is_out_of_memory (sym e) ∙ settled in absurd cc)
  told_fails x fault (inr first) =
      by_infer (λ f. (◌≡◌ {A = Result A Fault} (Err f) (Err Memory)) ⊎ AnswersTold judges x (Err f)) fault (inl refl) (λ settled. inr (inr (fault, first, refl)))

  -- all can be told
  pub told_well : (x : Subject) → IsGraph x.graph → IsSubject x → (answer : Result A Fault) → (answer ≡ Err Memory) ⊎ judges x answer → (answer ≡ Err Memory) ⊎ AnswersTold judges x answer
  told_well x is_graph is_subject answer (inl k) = inl k
  told_well x is_graph is_subject answer (inr h) = inr (inl (is_graph, is_subject, h))

  module _ (ready : Ready) where
    -- the goals have no graph
    pub no_graph : (fault : InferFault) → Selected (recorded ready) ready (Err fault) → (◌≡◌ {A = Result A Fault} (Err (of_infer fault)) (Err Memory)) ⊎ AnswersJudged judges ready (Err (of_infer fault))
    no_graph fault s =
        by_infer (λ f. (◌≡◌ {A = Result A Fault} (Err f) (Err Memory)) ⊎ AnswersJudged judges ready (Err f)) fault (inl refl) (λ settled. inr (Err fault, s settled, (settled, refl)))

    -- they have one, and its build is judged
    pub over_graph : (g : value.Graph) → Selected (recorded ready) ready (Ok g) → (answer : Result A Fault) → (answer ≡ Err Memory) ⊎ AnswersTold judges (subject_over ready g) answer
        → (answer ≡ Err Memory) ⊎ AnswersJudged judges ready answer
    over_graph g s answer (inl k) = inl k
    over_graph g s answer (inr h) = inr (Ok g, s, h)

-- a subject of equal parts
pub same_subject : (m n : Makefile) (e f : Exists) (g : value.Graph) (s t : Setting) → m ≡ n → e ≡ f → s ≡ t → subject_of m e g s ≡ subject_of n f g t
same_subject m n e f g s t one two three = rw (one, two, three) refl

-- the goals of the graph are those that were asked for
pub as_goals : SelectedGoals → (ready : Ready) (g : value.Graph) → Selects ready.makefile (recorded ready) ready.goals (Ok g)
    → Selects ready.makefile (recorded ready) (map (name_of (subject_over ready g)) g.goals) (Ok g)
as_goals law ready g s = subst (λ (goals : List (List ℕ)). Selects ready.makefile (recorded ready) goals (Ok g)) (sym (law ready.makefile (recorded ready) ready.goals g s)) s

-- ---- a certificate's answer as a contract sees it

module _ {A : Type 0} (f : A → List ℕ) (files : Told) (name : List ℕ) (ready : Ready) where
  -- an answer, seen, to a certificate
  abbrev seen_judges : Subject → Result A Fault → Type 0
  seen_judges x answer = VerifiesText x (text_of files (failing_of answer) name) (seen f answer)

  pub seen_verify : (answer : Result A Fault) → AnswersJudged seen_judges ready answer → AnswersVerify files name ready (seen f answer)
  seen_verify (Ok a) (Ok g, s, inl (is_graph, is_subject, v)) = (Ok g, s, inl (is_graph, is_subject, v))
  seen_verify (Ok a) (Ok g, s, inr (fault, first, e)) = absurd cc
  seen_verify (Ok a) (Err fault, s, (settled, e)) = absurd cc
  seen_verify (Err also) (Ok g, s, inl (is_graph, is_subject, v)) = (Ok g, s, inl (is_graph, is_subject, v))
  seen_verify (Err also) (Ok g, s, inr (fault, first, e)) = (Ok g, s, inr (fault, first, fault_same also (Infer fault) e))
  seen_verify (Err also) (Err fault, s, (settled, e)) = (Err fault, s, (settled, fault_same also (Infer fault) e))
