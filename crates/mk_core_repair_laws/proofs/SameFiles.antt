-- Two maps with the same texts have the same answers.
use Rattle.std.proofs.Common.{◌≡◌, ℕ, List, Option, Some, None, Result, Ok, Err, refl, ap, subst, ◌∙◌}
use mathlib.Core.Path.{fun_ext}
use Rattle.std.specs.Option.{is_none, ok_or}
use Rattle.mk_foot.specs.Book.{Book}
use Rattle.mk_foot.specs.Reading.{book_from}
use Rattle.mk_infer.specs.Goals.{goal_names}
use Rattle.mk_infer.specs.declared.fault.InferFault.{InferFault}
use Rattle.mk_read.specs.declared.fault.ReadFault.{ReadFault}
use Rattle.mk_read.specs.declared.fault.ReadFault.TheVariants as read
use Rattle.mk_read.specs.Files.{Told, text_at}
use Rattle.mk_read.specs.Following as following
use Rattle.mk_read.specs.Following.{reader_of}
use Rattle.mk_read.specs.Reading.{Makefile}
use Rattle.mk_read.specs.Steps as reading
use Rattle.mk_core_text.specs.declared.fault.Fault.{Fault}
use Rattle.mk_core_text.specs.declared.fault.Fault.TheVariants.{Read, Infer, Foot, Plan, Certificate, Verify, FileReadFailed, NoFile, Memory}
use Rattle.mk_core.specs.declared.request.Request.{Request}
use Rattle.mk_core.specs.Answer.{Answers, Draws}
use Rattle.mk_core.specs.Ready.{Ready, book_for, makefile_for, ready_for, setting_of}
use Rattle.mk_core.specs.Steps.{◌>>=◌, as_fault}
use Rattle.mk_core.specs.Views.{ready_over, ready_with}
use Rattle.mk_core_laws.specs.AnswerLaws.{IsSettled}

module _ (one other : Told) (same : (name : List ℕ) → text_at one name ≡ text_at other name) (request : Request) where
  makefile_same : makefile_for request (reader_of one None) ≡ makefile_for request (reader_of other None)
  makefile_same = ap (λ (text : List ℕ → Option (List ℕ)). makefile_for request (record { text = text; failing = None })) (fun_ext same)

  book_same : (book : Option (List ℕ)) (goals : List (List ℕ)) → book_for one None book goals ≡ book_for other None book goals
  book_same None goals = refl
  book_same (Some name) goals = ap (λ (text : Option (List ℕ)). ok_or text (NoFile name) >>= λ bytes. as_fault Foot (book_from goals bytes)) (same name)

  over_same : (m : Makefile) → ready_over one None request m ≡ ready_over other None request m
  over_same m = by (goal_names m request.goals)
    where
      by : (r : Result (List (List ℕ)) InferFault) → (as_fault Infer r >>= ready_with one None request m) ≡ (as_fault Infer r >>= ready_with other None request m)
      by (Err fault) = refl
      by (Ok goals) =
          ap (λ (book : Result Book Fault). book >>= λ b. Ok (record { makefile = m; goals = goals; setting = setting_of m b; any_leaf = is_none request.book })) (book_same request.book goals)

  ready_same : ready_for one None request ≡ ready_for other None request
  ready_same = ap (λ (r : Result Makefile ReadFault). as_fault Read r >>= ready_over one None request) makefile_same ∙ by (makefile_for request (reader_of other None))
    where
      by : (r : Result Makefile ReadFault) → (as_fault Read r >>= ready_over one None request) ≡ (as_fault Read r >>= ready_over other None request)
      by (Err fault) = refl
      by (Ok m) = over_same m

  module _ {A : Type 0} (answers : Ready → Result A Fault → Type 0) where
    drawn_same : (answer : Result A Fault) → Draws answers (ready_for one None request) answer → Draws answers (ready_for other None request) answer
    drawn_same answer d = subst (λ (r : Result Ready Fault). Draws answers r answer) ready_same d

    fails_same : (fault : ReadFault) → reading.Fails fault (makefile_for request (reader_of one None)) → reading.Fails fault (makefile_for request (reader_of other None))
    fails_same fault f = subst (λ (r : Result Makefile ReadFault). reading.Fails fault r) makefile_same f

    read_same : (fault : ReadFault) → IsSettled {A = A} (Err (Read fault)) → following.Answers one (makefile_for request) (Err fault) → following.Answers other (makefile_for request) (Err fault)
    read_same (read.ReadFailed place name) s a = absurd s
    read_same (read.Line file fault) s a = fails_same (read.Line file fault) a
    read_same (read.Macro place fault) s a = fails_same (read.Macro place fault) a
    read_same (read.Kind place fault) s a = fails_same (read.Kind place fault) a
    read_same (read.StrayCommand place) s a = fails_same (read.StrayCommand place) a
    read_same (read.BadName place word) s a = fails_same (read.BadName place word) a
    read_same (read.BadMakefileName name) s a = fails_same (read.BadMakefileName name) a
    read_same (read.ArchiveMember place word) s a = fails_same (read.ArchiveMember place word) a
    read_same (read.UnknownSpecial place) s a = fails_same (read.UnknownSpecial place) a
    read_same (read.SpecialShape place) s a = fails_same (read.SpecialShape place) a
    read_same (read.TwoRecipes place name) s a = fails_same (read.TwoRecipes place name) a
    read_same (read.IncludeMissing place name) s a = fails_same (read.IncludeMissing place name) a
    read_same (read.IncludeDepth place) s a = fails_same (read.IncludeDepth place) a
    read_same (read.IncludeEmpty place) s a = fails_same (read.IncludeEmpty place) a
    read_same (read.TooManyFiles place) s a = fails_same (read.TooManyFiles place) a
    read_same (read.NoMakefile name) s a = fails_same (read.NoMakefile name) a
    read_same read.Memory s a = fails_same read.Memory a

    -- an answer over one map is one over the other
    pub answers_same : (answer : Result A Fault) → IsSettled answer → Answers one request answers answer → Answers other request answers answer
    answers_same (Ok x) s a = drawn_same (Ok x) a
    answers_same (Err Memory) s a = absurd s
    answers_same (Err (FileReadFailed name)) s a = absurd s
    answers_same (Err (Read fault)) s (full, a) = (full, read_same fault s a)
    answers_same (Err (NoFile name)) s a = drawn_same (Err (NoFile name)) a
    answers_same (Err (Infer fault)) s a = drawn_same (Err (Infer fault)) a
    answers_same (Err (Foot fault)) s a = drawn_same (Err (Foot fault)) a
    answers_same (Err (Plan fault)) s a = drawn_same (Err (Plan fault)) a
    answers_same (Err (Certificate fault)) s a = drawn_same (Err (Certificate fault)) a
    answers_same (Err (Verify fault)) s a = drawn_same (Err (Verify fault)) a
