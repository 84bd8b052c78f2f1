-- One round more.
use Rattle.std.proofs.Common.{◌≡◌, ℕ, zero, suc, Bool, true, false, List, ◌∷◌, ◌++◌, length, Option, Some, None, Result, Ok, Err, inl, inr, refl, sym, ap, subst, ◌∙◌}
use Rattle.mk_find.specs.declared.finding.Finding.{Finding}
use Rattle.mk_read.specs.Files.{Told}
use Rattle.mk_core_text.specs.declared.fault.Fault.{Fault}
use Rattle.mk_core_text.specs.declared.fault.Fault.TheVariants.{Read, Infer, Foot, Plan, Certificate, Verify, FileReadFailed, NoFile, Memory}
use Rattle.mk_core.specs.declared.request.Request.{Request}
use Rattle.mk_core.specs.Answer.{Answers}
use Rattle.mk_core.specs.Ready.{Ready}
use Rattle.mk_core.specs.Steps.{is_out_of_memory}
use Rattle.mk_core_text.specs.declared.verdict.Verdict.{Verdict}
use Rattle.mk_core_text.specs.declared.verdict.Verdict.TheVariants.{Yes, No}
use Rattle.mk_repair.specs.Lines.{lines_text}
use Rattle.mk_repair.specs.Word.{Word}
use Rattle.mk_core_repair.specs.declared.surveying.Survey.{Survey}
use Rattle.std.specs.Prelude.{nat_lt}
use Rattle.mk_core_repair.specs.Amending.{added_lines, added_text, amended_among, is_too_long, makefile_name, makefile_text, max_makefile}
use Rattle.mk_core_repair.specs.declared.outcome.Stop.TheVariants.{Judged, TooLong}
use Rattle.mk_core_repair.specs.Outcome.{Outcome, Reason, mended, unmended, stopped, tried_all}
use Rattle.mk_core_repair.specs.Rounds.{AfterKnown, AfterRound, AfterVerdict, IsRound, Onward, Rounds, first_unknown, more_words}
use Rattle.mk_core_repair.specs.Views.{HasMore, IsYesVerdict}
use Rattle.mk_core_repair.specs.declared.known_files.KnownFiles.{KnownFiles}
use Rattle.mk_core_repair.specs.declared.own_makefile.OwnMakefile.{OwnMakefile}
use Rattle.mk_core_repair.specs.Known.{IsBase, known_by}
use Rattle.mk_core_repair.specs.Survey.{GivesSurvey}
use Rattle.mk_core.specs.Judging.{AnswersJudged}

module _ (names : List (List ℕ)) (files : Told) (request : Request) (first : List Finding) (words : List Word) (before : Reason) where
  -- the makefile would be too long
  pub ends_long : (left : ℕ) (why : Reason) → why ≡ stopped TooLong before → is_too_long files request (added_text (makefile_text files request) words) ≡ true → Rounds (suc left) names files request first words before (unmended first why)
  unfolding Rounds
  ends_long left why e long = inl (long, ap (λ (w : Reason). unmended first w) e)

  -- no round is left
  pub ends_last : (left : ℕ) (why : Reason) → why ≡ stopped Judged before → left ≡ 0 → Rounds left names files request first words before (unmended first why)
  unfolding Rounds
  ends_last left why e none = subst (λ (n : ℕ). Rounds n names files request first words before (unmended first why)) (sym none) (ap (λ (w : Reason). unmended first w) e)

  -- a round is judged
  pub goes_on : (all left : ℕ) (outcome : Outcome) → all ≡ suc left → is_too_long files request (added_text (makefile_text files request) words) ≡ false → (survey : Result Survey Fault)
      → IsRound names files request (added_text (makefile_text files request) words) survey → AfterRound (makefile_text files request) (Rounds left names files request first) names first words survey outcome
      → Rounds all names files request first words before outcome
  unfolding Rounds
  goes_on all left outcome more short survey is after =
      subst (λ (n : ℕ). Rounds n names files request first words before outcome) (sym more) (inr (short, (survey, is, after)))

-- ---- what a round comes to

module _ (names : List (List ℕ)) (files : Told) (request : Request) (first : List Finding) (words : List Word) (before : Reason)
    (all left : ℕ) (more : all ≡ suc left) (text : List ℕ) (is_text : text ≡ lines_text words) (short : is_too_long files request (added_lines (makefile_text files request) text) ≡ false) where
  abbrev rounds_left : List Word → Reason → Outcome → Type 0
  rounds_left = Rounds left names files request first

  judged : (outcome : Outcome) (survey : Result Survey Fault) → IsRound names files request (added_lines (makefile_text files request) text) survey → AfterRound (makefile_text files request) rounds_left names first words survey outcome
      → Rounds all names files request first words before outcome
  judged outcome survey is after =
      goes_on names files request first words before all left outcome more (subst (λ (t : List ℕ). is_too_long files request (added_lines (makefile_text files request) t) ≡ false) is_text short) survey
      (subst (λ (t : List ℕ). IsRound names files request (added_lines (makefile_text files request) t) survey) is_text is) after

  known : (survey : Survey) (o : Option (List ℕ)) (outcome : Outcome) → first_unknown names survey.files ≡ o → AfterKnown (makefile_text files request) rounds_left first words survey o outcome
      → AfterRound (makefile_text files request) rounds_left names first words (Ok survey) outcome
  known survey o outcome is after = subst (λ (u : Option (List ℕ)). AfterKnown (makefile_text files request) rounds_left first words survey u outcome) (sym is) after

  yes_ends : (verdict : Verdict) (new : Option (List Word)) → IsYesVerdict verdict → AfterVerdict (makefile_text files request) rounds_left first words verdict new (mended (added_lines (makefile_text files request) text))
  yes_ends (Yes certificate recipes reads) new agreed = ap (λ (t : List ℕ). mended (added_lines (makefile_text files request) t)) is_text
  yes_ends (No found) new agreed = absurd agreed

  -- the amended makefile is right
  pub ends_mended : (survey : Survey) → IsRound names files request (added_lines (makefile_text files request) text) (Ok survey) → first_unknown names survey.files ≡ None → IsYesVerdict survey.verdict
      → Rounds all names files request first words before (mended (added_lines (makefile_text files request) text))
  ends_mended survey is none agreed = judged (mended (added_lines (makefile_text files request) text)) (Ok survey) is (known survey None (mended (added_lines (makefile_text files request) text)) none (yes_ends survey.verdict survey.words agreed))

  -- the outcome of lines that were tried last
  abbrev pub gives_up : Result (List Finding) Fault → Outcome
  gives_up after = unmended first (tried_all text after)

  same_lines : (after : Result (List Finding) Fault) → gives_up after ≡ unmended first (tried_all (lines_text words) after)
  same_lines after = ap (λ (t : List ℕ). unmended first (tried_all t after)) is_text

  -- a file is read that isn't known
  pub ends_unknown : (survey : Survey) (name : List ℕ) → IsRound names files request (added_lines (makefile_text files request) text) (Ok survey) → first_unknown names survey.files ≡ Some name
      → Rounds all names files request first words before (gives_up (Err (FileReadFailed name)))
  ends_unknown survey name is some = judged (gives_up (Err (FileReadFailed name))) (Ok survey) is (known survey (Some name) (gives_up (Err (FileReadFailed name))) some (same_lines (Err (FileReadFailed name))))

  -- the amended makefile is refused
  pub ends_refused : (fault : Fault) → is_out_of_memory fault ≡ false → IsRound names files request (added_lines (makefile_text files request) text) (Err fault)
      → Rounds all names files request first words before (gives_up (Err fault))
  ends_refused fault settled is = judged (gives_up (Err fault)) (Err fault) is (settled, same_lines (Err fault))

  module _ (survey : Survey) (is : IsRound names files request (added_lines (makefile_text files request) text) (Ok survey)) (none : first_unknown names survey.files ≡ None)
      (found : List Finding) (is_no : survey.verdict ≡ No found) where
    onward : (outcome : Outcome) (o : Option (List Word)) → more_words words survey.words ≡ o → Onward rounds_left first words found o outcome
        → Rounds all names files request first words before outcome
    onward outcome o is_more h =
        judged outcome (Ok survey) is (known survey None outcome none
        (subst (λ (v : Verdict). AfterVerdict (makefile_text files request) rounds_left first words v survey.words outcome) (sym is_no)
        (subst (λ (m : Option (List Word)). Onward rounds_left first words found m outcome) (sym is_more) h)))

    -- there are no further words
    pub ends_lacking : more_words words survey.words ≡ None → Rounds all names files request first words before (gives_up (Ok found))
    ends_lacking no_more = onward (gives_up (Ok found)) None no_more (same_lines (Ok found))

    -- the rounds go on with further words
    pub goes_further : (next : List Word) → more_words words survey.words ≡ Some next → (outcome : Outcome) → Rounds left names files request first next (tried_all text (Ok found)) outcome
        → Rounds all names files request first words before outcome
    goes_further next is_next outcome h =
        onward outcome (Some next) is_next (subst (λ (t : List ℕ). Rounds left names files request first next (tried_all t (Ok found)) outcome) is_text h)

-- a request whose inputs are freed
abbrev pub freed : Request → Request
freed request = record request { leaves_memory = false }

-- whether inputs are freed doesn't matter
pub freed_answers : {A : Type 0} (files : Told) (request : Request) (answers : Ready → Result A Fault → Type 0) (answer : Result A Fault) → Answers files (freed request) answers answer → Answers files request answers answer
freed_answers files request answers (Ok x) a = a
freed_answers files request answers (Err Memory) a = a
freed_answers files request answers (Err (Read fault)) a = a
freed_answers files request answers (Err (FileReadFailed name)) a = a
freed_answers files request answers (Err (NoFile name)) a = a
freed_answers files request answers (Err (Infer fault)) a = a
freed_answers files request answers (Err (Foot fault)) a = a
freed_answers files request answers (Err (Plan fault)) a = a
freed_answers files request answers (Err (Certificate fault)) a = a
freed_answers files request answers (Err (Verify fault)) a = a

-- what is judged over the files of a round is a round
pub round_over : (told : Told) (request : Request) (own : OwnMakefile) (known : KnownFiles) → IsBase told request own known → (added text : List ℕ) → text ≡ own.text.items ++ added
    → (files : Told) → files ≡ (own.name, text) ∷ known_by known → (answer : Result Survey Fault) → Answers files (freed request) (AnswersJudged GivesSurvey) answer
    → IsRound known.names told request added answer
round_over told request own known base added text is_text files is_files answer a =
    let whole : text ≡ makefile_text told request ++ added = is_text ∙ ap (λ t. t ++ added) base.is_text in
    let named : (own.name, text) ∷ known_by known ≡ (makefile_name told request, text) ∷ known_by known = ap (λ n. (n, text) ∷ known_by known) base.is_name in
    let with_text : (makefile_name told request, text) ∷ known_by known ≡ amended_among (known_by known) told request added = ap (λ t. (makefile_name told request, t) ∷ known_by known) whole in
    (known_by known, base.is_cut, subst (λ (f : Told). Answers f request (AnswersJudged GivesSurvey) answer) (is_files ∙ (named ∙ with_text)) (freed_answers files request (AnswersJudged GivesSurvey) answer a))

-- ---- a turn of the loop

module _ (told : Told) (request : Request) (own : OwnMakefile) (known_files : KnownFiles) (base : IsBase told request own known_files) (first : List Finding) (words : List Word) (before : Reason)
    (all left : ℕ) (more : all ≡ suc left) (text added seen : List ℕ) (is_text : text ≡ lines_text words) (is_added : added ≡ added_lines own.text.items text) (is_seen : seen ≡ added) where
  -- what is appended to the makefile of this map
  plain : added ≡ added_lines (makefile_text told request) text
  plain = is_added ∙ ap (λ (m : List ℕ). added_lines m text) base.is_text

  long_is : (b : Bool) → b ≡ nat_lt max_makefile (length (own.text.items ++ seen)) → is_too_long told request (added_lines (makefile_text told request) text) ≡ b
  long_is b e =
      sym (e ∙ (ap (λ (t : List ℕ). nat_lt max_makefile (length (t ++ seen))) base.is_text
      ∙ ap (λ (t : List ℕ). nat_lt max_makefile (length (makefile_text told request ++ t))) (is_seen ∙ plain)))

  -- the makefile would be too long
  pub step_long : (why : Reason) → why ≡ stopped TooLong before → true ≡ nat_lt max_makefile (length (own.text.items ++ seen)) → Rounds all known_files.names told request first words before (unmended first why)
  step_long why stops e =
      subst (λ (n : ℕ). Rounds n known_files.names told request first words before (unmended first why)) (sym more)
      (ends_long known_files.names told request first words before left why stops
      (subst (λ (t : List ℕ). is_too_long told request (added_lines (makefile_text told request) t) ≡ true) is_text (long_is true e)))

  module _ (judged_text : List ℕ) (is_judged : judged_text ≡ added) (short : false ≡ nat_lt max_makefile (length (own.text.items ++ seen))) where
    round_is : (survey : Result Survey Fault) → IsRound known_files.names told request judged_text survey → IsRound known_files.names told request (added_lines (makefile_text told request) text) survey
    round_is survey is = subst (λ (t : List ℕ). IsRound known_files.names told request t survey) (is_judged ∙ plain) is

    -- the amended makefile is right
    pub step_right : (survey : Survey) → first_unknown known_files.names survey.files ≡ None → IsYesVerdict survey.verdict → IsRound known_files.names told request judged_text (Ok survey)
        → Rounds all known_files.names told request first words before (mended added)
    step_right survey none agreed is =
        subst (λ (t : List ℕ). Rounds all known_files.names told request first words before (mended t)) (sym plain)
        (ends_mended known_files.names told request first words before all left more text is_text (long_is false short) survey (round_is (Ok survey) is) none agreed)

    -- a file is read that isn't known
    pub step_unknown : (survey : Survey) (name : List ℕ) → first_unknown known_files.names survey.files ≡ Some name → IsRound known_files.names told request judged_text (Ok survey)
        → Rounds all known_files.names told request first words before (unmended first (tried_all text (Err (FileReadFailed name))))
    step_unknown survey name some is =
        ends_unknown known_files.names told request first words before all left more text is_text (long_is false short) survey name (round_is (Ok survey) is) some

    -- the amended makefile is refused
    pub step_refused : (fault : Fault) → is_out_of_memory fault ≡ false → IsRound known_files.names told request judged_text (Err fault)
        → Rounds all known_files.names told request first words before (unmended first (tried_all text (Err fault)))
    step_refused fault settled is =
        ends_refused known_files.names told request first words before all left more text is_text (long_is false short) fault settled (round_is (Err fault) is)

    module _ (survey : Survey) (found : List Finding) (is_new : Bool) (next : List Word) (none : first_unknown known_files.names survey.files ≡ None) (is_no : survey.verdict ≡ No found)
        (has : HasMore is_new next (more_words words survey.words)) (is : IsRound known_files.names told request judged_text (Ok survey)) where
      -- there are no further words
      pub step_lacking : is_new ≡ false → Rounds all known_files.names told request first words before (unmended first (tried_all text (Ok found)))
      step_lacking e =
          ends_lacking known_files.names told request first words before all left more text is_text (long_is false short) survey (round_is (Ok survey) is) none found is_no
          (subst (λ (b : Bool). HasMore b next (more_words words survey.words)) e has)

      -- the rounds go on with further words
      pub step_further : is_new ≡ true → (outcome : Outcome) → Rounds left known_files.names told request first next (tried_all text (Ok found)) outcome
          → Rounds all known_files.names told request first words before outcome
      step_further e outcome h =
          goes_further known_files.names told request first words before all left more text is_text (long_is false short) survey (round_is (Ok survey) is) none found is_no next
          (subst (λ (b : Bool). HasMore b next (more_words words survey.words)) e has) outcome h
