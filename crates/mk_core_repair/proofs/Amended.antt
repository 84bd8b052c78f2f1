-- A round that read only known files has its answer over all files.
use Rattle.std.proofs.Common.{◌≡◌, ◌<◌, ℕ, zero, suc, Bool, true, false, not, cond, List, [], ◌∷◌, ◌++◌, get_or, length, Option, Some, None, Result, Ok, Err, inl, inr, refl, sym, ap, subst, ◌∙◌, arith}
use Rattle.std.proofs.lemmas.Bool.{cond-false}
use Rattle.std.specs.Option.{is_none, ok_or}
use Rattle.mk_foot.specs.Book.{Book}
use Rattle.mk_foot.specs.Reading.{book_from}
use Rattle.mk_infer.specs.Goals.{goal_names}
use Rattle.mk_infer.specs.declared.fault.InferFault.{InferFault}
use Rattle.mk_lines.specs.Names.{has_name}
use Rattle.mk_read.specs.Files.{Told, text_at}
use Rattle.mk_read.specs.Following.{reader_of}
use Rattle.mk_read.specs.Reading.{Makefile}
use Rattle.mk_read.specs.declared.fault.ReadFault.{ReadFault}
use Rattle.mk_read_laws.specs.NamedFiles.{AgreeOn, OnlyNamedFilesCount}
use Rattle.mk_core_text.specs.declared.fault.Fault.{Fault}
use Rattle.mk_core_text.specs.declared.fault.Fault.TheVariants.{Read, Infer, Foot, NoFile}
use Rattle.mk_core.specs.declared.request.Request.{Request}
use Rattle.mk_core.specs.Answer.{Answers, Draws}
use Rattle.mk_core.specs.Judging.{AnswersJudged}
use Rattle.mk_core.specs.Ready.{Ready, book_for, makefile_for, ready_for, setting_of}
use Rattle.mk_core.specs.Steps.{◌>>=◌, as_fault}
use Rattle.mk_core.specs.Views.{ready_over, ready_with}
use Rattle.mk_core_repair.specs.declared.surveying.Survey.{Survey}
use Rattle.mk_core_repair.specs.Rounds.{first_unknown}
use Rattle.mk_core_repair.specs.Survey.{GivesSurvey}

-- the prepared request of a makefile with these goals and footprints
abbrev made_with : Makefile → List (List ℕ) → Book → Bool → Ready
made_with m goals book any_leaf = record { makefile = m; goals = goals; setting = setting_of m book; any_leaf = any_leaf }

-- ---- names that are known

found_none : {X : Type 0} (b : Bool) (x : X) (rest : Option X) → cond (not b) (Some x) rest ≡ None → (b ≡ true) × (rest ≡ None)
found_none true x rest e = (refl, e)
found_none false x rest e = absurd cc

-- where none is unknown, each is known
pub each_known : (names files : List (List ℕ)) → first_unknown names files ≡ None → (k : ℕ) (d : List ℕ) → k < length files → has_name names (get_or files k d) ≡ true
each_known names [] e k d low = absurd (omega arith)
each_known names (file ∷ files) e zero d low = (found_none (has_name names file) file (first_unknown names files) e).0
each_known names (file ∷ files) e (suc k) d low = each_known names files (found_none (has_name names file) file (first_unknown names files) e).1 k d (omega arith)

-- none of two lists together is unknown
pub none_of_both : (names xs ys : List (List ℕ)) → first_unknown names (xs ++ ys) ≡ None → (first_unknown names xs ≡ None) × (first_unknown names ys ≡ None)
none_of_both names [] ys e = (refl, e)
none_of_both names (x ∷ xs) ys e =
    let here = found_none (has_name names x) x (first_unknown names (xs ++ ys)) e in
    let both = none_of_both names xs ys here.1 in
    let gone : not (has_name names x) ≡ false = ap not here.0 in
    (cond-false (not (has_name names x)) (Some x) (first_unknown names xs) gone ∙ both.0, both.1)

-- ---- what is read over two maps that agree on the known names

module _ (law : OnlyNamedFilesCount) (names : List (List ℕ)) (one other : Told) (same : (name : List ℕ) → has_name names name ≡ true → text_at one name ≡ text_at other name)
    (request : Request) (known_book : (name : List ℕ) → request.book ≡ Some name → has_name names name ≡ true) where
  agreed : (files : List (List ℕ)) → first_unknown names files ≡ None → AgreeOn (reader_of one None) (reader_of other None) files
  agreed files e = λ k d low. same (get_or files k d) (each_known names files e k d low)

  makefile_same : (m : Makefile) → first_unknown names (m.texts ++ m.passed_over) ≡ None → makefile_for request (reader_of one None) ≡ Ok m → makefile_for request (reader_of other None) ≡ Ok m
  makefile_same m e is =
      let both = none_of_both names m.texts m.passed_over e in
      law (reader_of one None) (reader_of other None) request.makefile request.defaults request.operands m is (agreed m.texts both.0) (agreed m.passed_over both.1) tt

  book_same : (book : Option (List ℕ)) (goals : List (List ℕ)) → ((name : List ℕ) → book ≡ Some name → has_name names name ≡ true) → book_for one None book goals ≡ book_for other None book goals
  book_same None goals known = refl
  book_same (Some name) goals known =
      ap (λ (text : Option (List ℕ)). ok_or text (NoFile name) >>= λ bytes. as_fault Foot (book_from goals bytes)) (same name (known name refl))

  over_same : (m : Makefile) → ready_over one None request m ≡ ready_over other None request m
  over_same m = by (goal_names m request.goals)
    where
      by : (r : Result (List (List ℕ)) InferFault) → (as_fault Infer r >>= ready_with one None request m) ≡ (as_fault Infer r >>= ready_with other None request m)
      by (Err fault) = refl
      by (Ok goals) = ap (λ (book : Result Book Fault). book >>= λ b. Ok (made_with m goals b (is_none request.book))) (book_same request.book goals known_book)

  -- a prepared request has the makefile that was read
  makefile_is : (m : Makefile) (ready : Ready) → ready_over one None request m ≡ Ok ready → m ≡ ready.makefile
  makefile_is m ready e = by (goal_names m request.goals) e
    where
      of_book : (goals : List (List ℕ)) (book : Result Book Fault) → (book >>= λ b. Ok (made_with m goals b (is_none request.book))) ≡ Ok ready → m ≡ ready.makefile
      of_book goals (Ok b) k =
          let is : made_with m goals b (is_none request.book) ≡ ready = cc in
          ap (λ (r : Ready). r.makefile) is
      of_book goals (Err fault) k = absurd cc

      by : (r : Result (List (List ℕ)) InferFault) → (as_fault Infer r >>= ready_with one None request m) ≡ Ok ready → m ≡ ready.makefile
      by (Ok goals) k = of_book goals (book_for one None request.book goals) k
      by (Err fault) k = absurd cc

  -- what is prepared over one map is prepared over the other
  ready_same : (ready : Ready) → first_unknown names (ready.makefile.texts ++ ready.makefile.passed_over) ≡ None → ready_for one None request ≡ Ok ready → ready_for other None request ≡ Ok ready
  ready_same ready none e = by (makefile_for request (reader_of one None)) refl e
    where
      by : (r : Result Makefile ReadFault) → makefile_for request (reader_of one None) ≡ r → (as_fault Read r >>= ready_over one None request) ≡ Ok ready → ready_for other None request ≡ Ok ready
      by (Err fault) is k = absurd cc
      by (Ok m) is k =
          let here = makefile_is m ready k in
          let none_here = subst (λ (made : Makefile). first_unknown names (made.texts ++ made.passed_over) ≡ None) (sym here) none in
          ap (λ (r : Result Makefile ReadFault). as_fault Read r >>= ready_over other None request) (makefile_same m none_here is) ∙ (sym (over_same m) ∙ k)

  files_of : (survey : Survey) (ready : Ready) → AnswersJudged GivesSurvey ready (Ok survey) → survey.files ≡ ready.makefile.texts ++ ready.makefile.passed_over
  files_of survey ready (Err fault, s, (settled, e)) = absurd cc
  files_of survey ready (Ok g, s, inr (fault, first, e)) = absurd cc
  files_of survey ready (Ok g, s, inl (is_graph, is_subject, (made, is, e))) =
      let alike : made ≡ survey = cc in
      ap (λ (k : Survey). k.files) (sym alike) ∙ is.has_files

  -- a survey over one map is one over the other
  pub survey_same : (survey : Survey) → first_unknown names survey.files ≡ None → Answers one request (AnswersJudged GivesSurvey) (Ok survey) → Answers other request (AnswersJudged GivesSurvey) (Ok survey)
  survey_same survey none a = by (ready_for one None request) refl a
    where
      by : (r : Result Ready Fault) → ready_for one None request ≡ r → Draws (AnswersJudged GivesSurvey) r (Ok survey) → Answers other request (AnswersJudged GivesSurvey) (Ok survey)
      by (Err fault) is d = absurd cc
      by (Ok ready) is d =
          let none_read = subst (λ (files : List (List ℕ)). first_unknown names files ≡ None) (files_of survey ready d) none in
          subst (λ (r : Result Ready Fault). Draws (AnswersJudged GivesSurvey) r (Ok survey)) (sym (ready_same ready none_read is)) d
