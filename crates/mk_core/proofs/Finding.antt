-- What is ready is ready where another file fails to be read later, or that file is the one that
-- fails.
use Rattle.std.proofs.Common.{◌≡◌, ◌⊎◌, ◌∙◌, ℕ, Bool, true, false, List, Option, None, Some, Result, Ok, Err, inl, inr, refl, sym, ap, subst}
use Rattle.std.proofs.lemmas.Bool.{cond-true, cond-false}
use Rattle.std.proofs.lemmas.Slice.Eq.{bytes_eq-Decides}
use Rattle.std.specs.Option.{is_none, ok_or}
use Rattle.std.specs.Str.{bytes_eq}
use Rattle.mk_foot.specs.Reading.{book_from}
use Rattle.mk_infer.specs.Goals.{goal_names}
use Rattle.mk_infer.specs.declared.fault.InferFault.{InferFault}
use Rattle.mk_read.specs.Files.{Told, text_at}
use Rattle.mk_read.specs.Reading.{Makefile}
use Rattle.mk_core_text.specs.declared.fault.Fault.{Fault}
use Rattle.mk_core_text.specs.declared.fault.Fault.TheVariants.{Read, Infer, Foot, Plan, Certificate, Verify, FileReadFailed, NoFile, Memory}
use Rattle.mk_core.specs.declared.request.Request.{Request}
use Rattle.mk_core.specs.Answer.{Draws}
use Rattle.mk_core.specs.FileText.{text_of}
use Rattle.mk_core.specs.Ready.{Ready, book_for}
use Rattle.mk_core.specs.Steps.{◌>>=◌, as_fault}
use Rattle.mk_core.specs.Views.{AnswersOver, Finds, ready_over, ready_with}
use Rattle.mk_core.proofs.Answering.{made_with, over_ready}

module _ (files : Told) (n : List ℕ) where
  abbrev IsAgain : {A : Type 0} → (one other : Result A Fault) → Type 0
  IsAgain one other = (other ≡ one) ⊎ (other ≡ Err (FileReadFailed n))

  text_again : (name : List ℕ) → IsAgain (text_of files None name) (text_of files (Some n) name)
  text_again name = by (bytes_eq name n) refl
    where
      by : (b : Bool) → bytes_eq name n ≡ b → IsAgain (text_of files None name) (text_of files (Some n) name)
      by true e =
          inr (cond-true (bytes_eq name n) (Err (FileReadFailed name)) (ok_or (text_at files name) (NoFile name)) e
          ∙ ap (λ (x : List ℕ). Err (FileReadFailed x)) ((bytes_eq-Decides name n).0 e))
      by false e = inl (cond-false (bytes_eq name n) (Err (FileReadFailed name)) (ok_or (text_at files name) (NoFile name)) e)

  -- a step behind
  then_again : {A B : Type 0} (f : A → Result B Fault) (one other : Result A Fault) → IsAgain one other → IsAgain (one >>= f) (other >>= f)
  then_again {A} f one other (inl e) = inl (ap (λ (r : Result A Fault). r >>= f) e)
  then_again {A} f one other (inr e) = inr (ap (λ (r : Result A Fault). r >>= f) e)

  book_again : (name : Option (List ℕ)) (goals : List (List ℕ)) → IsAgain (book_for files None name goals) (book_for files (Some n) name goals)
  book_again None goals = inl refl
  book_again (Some name) goals = then_again (λ bytes. as_fault Foot (book_from goals bytes)) (text_of files None name) (text_of files (Some n) name) (text_again name)

  module _ (request : Request) (m : Makefile) where
    ready_again : IsAgain (ready_over files None request m) (ready_over files (Some n) request m)
    ready_again = by (goal_names m request.goals)
      where
        by : (r : Result (List (List ℕ)) InferFault) → IsAgain (as_fault Infer r >>= ready_with files None request m) (as_fault Infer r >>= ready_with files (Some n) request m)
        by (Err fault) = inl refl
        by (Ok goals) =
            then_again (λ book. Ok (made_with m goals book (is_none request.book))) (book_for files None request.book goals) (book_for files (Some n) request.book goals) (book_again request.book goals)

module _ {A : Type 0} (files : Told) (request : Request) (m : Makefile) (answers : Ready → Result A Fault → Type 0) where
  -- a file fails to be read once a request is ready
  fails_later : (ready : Ready) (n : List ℕ) → ready_over files None request m ≡ Ok ready → answers ready (Err (FileReadFailed n)) → AnswersOver files request m answers (Err (FileReadFailed n))
  fails_later ready n h a = inr (elim (ready_again files n request m) [
    | inl e ↦ subst (λ (r : Result Ready Fault). Draws answers r (Err (FileReadFailed n))) (sym (e ∙ h)) a
    | inr e ↦ subst (λ (r : Result Ready Fault). Draws answers r (Err (FileReadFailed n))) (sym e) refl
  ])

  -- what is ready is found, and the command answers
  pub over_found : (ready : Ready) (answer : Result A Fault) → Finds (λ failing. ready_over files failing request m) (Ok ready) → (answer ≡ Err Memory) ⊎ answers ready answer
      → AnswersOver files request m answers answer
  over_found ready answer is (inl k) = inl k
  over_found ready answer (inl k) (inr a) = absurd cc
  over_found ready (Ok x) is (inr a) = over_ready files request m answers ready (Ok x) refl is a
  over_found ready (Err (FileReadFailed n)) (inr h) (inr a) = fails_later ready n h a
  over_found ready (Err (Read fault)) is (inr a) = over_ready files request m answers ready (Err (Read fault)) refl is a
  over_found ready (Err (Infer fault)) is (inr a) = over_ready files request m answers ready (Err (Infer fault)) refl is a
  over_found ready (Err (Foot fault)) is (inr a) = over_ready files request m answers ready (Err (Foot fault)) refl is a
  over_found ready (Err (Plan fault)) is (inr a) = over_ready files request m answers ready (Err (Plan fault)) refl is a
  over_found ready (Err (Certificate fault)) is (inr a) = over_ready files request m answers ready (Err (Certificate fault)) refl is a
  over_found ready (Err (Verify fault)) is (inr a) = over_ready files request m answers ready (Err (Verify fault)) refl is a
  over_found ready (Err (NoFile n)) is (inr a) = over_ready files request m answers ready (Err (NoFile n)) refl is a
  over_found ready (Err Memory) is (inr a) = inl refl
