-- The answers of `repair`, from those of its parts.
use Rattle.std.proofs.Common.{◌≡◌, ℕ, true, true≢false, List, ◌∷◌, ◌++◌, Option, Some, None, Result, Ok, Err, inl, inr, sym, ap, subst, ◌∙◌, string_bytes}
use Rattle.std.specs.Prelude.{IfErr, IfOk}
use Rattle.mk_foot.specs.Names.{Has}
use Rattle.mk_read.specs.Files.{IfFits, Told}
use Rattle.mk_core_text.specs.declared.fault.Fault.{Fault}
use Rattle.mk_core_text.specs.declared.fault.Fault.TheVariants.{Read, Infer, Foot, Plan, Certificate, Verify, FileReadFailed, NoFile, Memory}
use Rattle.mk_core.specs.declared.request.Request.{Request}
use Rattle.mk_core.specs.Answer.{Answers}
use Rattle.mk_core.specs.CheckAnswer.{AnswersCheck}
use Rattle.mk_core.specs.Steps.{is_out_of_memory}
use Rattle.mk_core_repair.specs.declared.outcome.Repair.{Repair}
use Rattle.mk_core_repair.specs.declared.surveying.First.{First}
use Rattle.mk_find.specs.declared.finding.Finding.{Finding}
use Rattle.mk_core_text.specs.declared.verdict.Verdict.{Verdict}
use Rattle.mk_core_text.specs.declared.verdict.Verdict.TheVariants.{No}
use Rattle.mk_repair.specs.Word.{Word}
use Rattle.mk_repair.specs.declared.obstacle.Obstacle.{Obstacle}
use Rattle.mk_core_repair.specs.Amending.{book_names, looked_for, makefile_name, names_known}
use Rattle.mk_core_repair.specs.Known.{IsReadFault}
use Rattle.mk_core_repair.specs.Outcome.{Outcome, outcome_of, too_long}
use Rattle.mk_core_repair.specs.RepairAnswer.{AfterFirst, AnswersRepair, IsFirstOf}
use Rattle.mk_core_repair.specs.Rounds.{Rounds, max_rounds}
use Rattle.mk_core_repair.specs.Trial.{Trial, with_part}

-- a failed read of a known file isn't out of memory
pub read_fault_memory : (names : List (List ℕ)) (fault : Fault) → IsReadFault names fault → is_out_of_memory fault ≡ true → fault ≡ Memory
read_fault_memory names fault (inl e) full = e
read_fault_memory names fault (inr (name, has, e)) full = absurd (true≢false (sym full ∙ ap is_out_of_memory e))

-- the same of more names
pub read_fault_more : (names more : List (List ℕ)) → ((name : List ℕ) → Has names name → Has more name) → (fault : Fault) → IsReadFault names fault → IsReadFault more fault
read_fault_more names more within fault (inl e) = inl e
read_fault_more names more within fault (inr (name, has, e)) = inr (name, within name has, e)

module _ (files : Told) (request : Request) where
  -- a refusal of `check`
  pub refused : (fault : Fault) → Answers files request AnswersCheck (Err fault) → AnswersRepair files request (Err fault)
  refused (FileReadFailed name) a = inl a
  refused Memory a = a
  refused (Read fault) a = a
  refused (NoFile name) a = a
  refused (Infer fault) a = a
  refused (Foot fault) a = a
  refused (Plan fault) a = a
  refused (Certificate fault) a = a
  refused (Verify fault) a = a

  module _ (first : First) (is : IsFirstOf files request first) where
    unread : (fault : Fault) → IsReadFault (names_known files request first.survey.files) fault → AnswersRepair files request (Err fault)
    unread fault (inl e) = subst (λ (f : Fault). AnswersRepair files request (Err f)) (sym e) tt
    unread fault (inr (name, has, e)) = subst (λ (f : Fault). AnswersRepair files request (Err f)) (sym e) (inr (first, is, has))

    -- what follows the first judgement
    pub followed : (fits : Told → Type 0) → fits files → (answer : Result Repair Fault)
        → IfOk answer (λ repair. IfFits fits (λ told. AfterFirst (names_known told request first.survey.files) told request first.survey.verdict first.survey.words first.cycle first.obstacle (outcome_of repair)))
        → IfErr answer (λ fault. IfFits fits (λ told. IsReadFault (names_known told request first.survey.files) fault)) → AnswersRepair files request answer
    followed fits f (Ok repair) after fault = (first, is, after files f)
    followed fits f (Err fault) after read = unread fault (read files f)

-- the names of the known files
pub known_names : (files : Told) (request : Request) (read known table : List (List ℕ)) (own : List ℕ) → known ≡ table → table ≡ own ∷ (looked_for request.makefile ++ (read ++ book_names request.book)) → own ≡ makefile_name files request
    → known ≡ names_known files request read
known_names files request read known table own k t o = k ∙ (t ∙ ap (λ (n : List ℕ). n ∷ (looked_for request.makefile ++ (read ++ book_names request.book))) o)
