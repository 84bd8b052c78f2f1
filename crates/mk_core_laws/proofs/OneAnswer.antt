-- The answer to a request for a graph is one.
use Rattle.std.proofs.Common.{◌≡◌, ℕ, Bool, true, false, List, None, Result, Ok, Err, inl, inr, sym, ap, subst, refl, ◌∙◌}
use Rattle.mk_graph.specs.Graph as value
use Rattle.mk_infer.specs.Laws as inferring
use Rattle.mk_infer.specs.declared.fault.InferFault.{InferFault}
use Rattle.mk_infer.specs.declared.fault.InferFault.TheVariants as infer
use Rattle.mk_read.specs.declared.fault.ReadFault.{ReadFault}
use Rattle.mk_read.specs.declared.fault.ReadFault.TheVariants as read
use Rattle.mk_read.specs.Files.{Told}
use Rattle.mk_read.specs.Following as following
use Rattle.mk_read.specs.Reading.{Makefile, Reader}
use Rattle.mk_read.specs.Steps as reading
use Rattle.mk_core_text.specs.declared.fault.Fault.{Fault}
use Rattle.mk_core_text.specs.declared.fault.Fault.TheVariants.{Read, Infer, Foot, Plan, Certificate, Verify, FileReadFailed, NoFile, Memory}
use Rattle.mk_core.specs.declared.request.Request.{Request}
use Rattle.mk_core.specs.Answer.{Answers, Draws}
use Rattle.mk_core.specs.GraphAnswer.{AnswersGraph, Prints, PrintsSelected}
use Rattle.mk_core_laws.specs.AnswerLaws.{AnswerIsOne, IsSettled}
use Rattle.mk_core.specs.Ready.{Ready, exists, makefile_for, ready_for}
use Rattle.mk_core.specs.Steps.{◌>>=◌, as_fault}
use Rattle.mk_core.specs.Views.{ready_over}

-- ---- an answer that is settled is drawn

-- a fault other than out of memory is the one that is defined
settled : (r : Result Makefile ReadFault) (fault : ReadFault) → reading.is_out_of_memory fault ≡ false → reading.Fails fault r → r ≡ Err fault
settled r fault w (inl k) = let e : true ≡ false = ap reading.is_out_of_memory (sym k) ∙ w in absurd cc
settled r fault w (inr h) = h

module _ (files : Told) (reads_as : Reader → Result Makefile ReadFault) where
  abbrev made : Result Makefile ReadFault
  made = reads_as (following.reader_of files None)

  settled_read : (A : Type 0) (fault : ReadFault) → IsSettled {A = A} (Err (Read fault)) → reading.is_out_of_memory fault ≡ false → following.Answers files reads_as (Err fault) → made ≡ Err fault
  settled_read A (read.ReadFailed place name) s w h = absurd s
  settled_read A (read.Line file fault) s w h = settled made (read.Line file fault) w h
  settled_read A (read.Macro place fault) s w h = settled made (read.Macro place fault) w h
  settled_read A (read.Kind place fault) s w h = settled made (read.Kind place fault) w h
  settled_read A (read.StrayCommand place) s w h = settled made (read.StrayCommand place) w h
  settled_read A (read.BadName place word) s w h = settled made (read.BadName place word) w h
  settled_read A (read.BadMakefileName name) s w h = settled made (read.BadMakefileName name) w h
  settled_read A (read.ArchiveMember place word) s w h = settled made (read.ArchiveMember place word) w h
  settled_read A (read.UnknownSpecial place) s w h = settled made (read.UnknownSpecial place) w h
  settled_read A (read.SpecialShape place) s w h = settled made (read.SpecialShape place) w h
  settled_read A (read.TwoRecipes place name) s w h = settled made (read.TwoRecipes place name) w h
  settled_read A (read.IncludeMissing place name) s w h = settled made (read.IncludeMissing place name) w h
  settled_read A (read.IncludeDepth place) s w h = settled made (read.IncludeDepth place) w h
  settled_read A (read.IncludeEmpty place) s w h = settled made (read.IncludeEmpty place) w h
  settled_read A (read.TooManyFiles place) s w h = settled made (read.TooManyFiles place) w h
  settled_read A (read.NoMakefile name) s w h = settled made (read.NoMakefile name) w h
  settled_read A read.Memory s w h = settled made read.Memory w h

module _ {A : Type 0} (files : Told) (request : Request) (answers : Ready → Result A Fault → Type 0) where
  pub drawn : (answer : Result A Fault) → IsSettled answer → Answers files request answers answer → Draws answers (ready_for files None request) answer
  drawn (Ok x) s a = a
  drawn (Err Memory) s a = absurd s
  drawn (Err (FileReadFailed name)) s a = absurd s
  drawn (Err (NoFile name)) s a = a
  drawn (Err (Infer fault)) s a = a
  drawn (Err (Foot fault)) s a = a
  drawn (Err (Plan fault)) s a = a
  drawn (Err (Certificate fault)) s a = a
  drawn (Err (Verify fault)) s a = a
  drawn (Err (Read fault)) s (w, h) =
      subst (λ (r : Result Makefile ReadFault). Draws answers (as_fault Read r >>= ready_over files None request) (Err (Read fault))) (sym (settled_read files (makefile_for request) A fault s w h)) refl

-- ---- what is drawn is one

module _ (asked : Bool) (ready : Ready) where
  -- what is printed isn't out of memory
  is_settled : (selected : Result value.Graph InferFault) (text : Result (List ℕ) InferFault) → Prints asked ready selected text → inferring.IsSettled selected
  is_settled (Ok g) text p = tt
  is_settled (Err infer.Memory) text (w, p) = absurd cc
  is_settled (Err (infer.BadGoal place)) text p = tt
  is_settled (Err (infer.GoalIsMember place)) text p = tt
  is_settled (Err (infer.NoRule name place)) text p = tt
  is_settled (Err infer.NoGoal) text p = tt
  is_settled (Err (infer.InferencePrerequisites place)) text p = tt
  is_settled (Err (infer.Macro place fault)) text p = tt
  is_settled (Err (infer.Graph fault place)) text p = tt

  printed_one : (selected : Result value.Graph InferFault) (one other : Result (List ℕ) InferFault) → Prints asked ready selected one → Prints asked ready selected other → one ≡ other
  printed_one (Ok g) one other p q = p ∙ sym q
  printed_one (Err fault) one other (w, p) (v, q) = p ∙ sym q

  text_one : inferring.SelectionIsOne → (one other : Result (List ℕ) InferFault) → PrintsSelected asked ready one → PrintsSelected asked ready other → one ≡ other
  text_one one_selection one other (selected, s, p) (same, t, q) =
      let is = one_selection ready.makefile (exists ready) ready.goals same selected (is_settled same other q) (is_settled selected one p) t s in
      printed_one selected one other p (subst (λ (r : Result value.Graph InferFault). Prints asked ready r other) is q)

module _ (one_selection : inferring.SelectionIsOne) (asked : Bool) (one other : Result (List ℕ) Fault) where
  drawn_one : (r : Result Ready Fault) → Draws (AnswersGraph asked) r one → Draws (AnswersGraph asked) r other → one ≡ other
  drawn_one (Err fault) d h = d ∙ sym h
  drawn_one (Ok ready) (text, p, e) (same, q, k) = e ∙ (ap (as_fault Infer) (text_one asked ready one_selection text same p q) ∙ sym k)

pub answer_is_one : inferring.SelectionIsOne → AnswerIsOne
answer_is_one one_selection files request one other s t a b =
    let answers = AnswersGraph request.commands in
    drawn_one one_selection request.commands one other (ready_for files None request) (drawn files request answers one s a) (drawn files request answers other t b)
