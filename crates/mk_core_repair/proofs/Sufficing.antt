-- Where lines are the answer, they suffice; where a cycle is, nothing does.
use Rattle.std.proofs.Common.{◌≡◌, ℕ, zero, suc, true, false, ◌||◌, List, [], ◌∷◌, ◌++◌, Option, Some, None, Result, Ok, Err, inl, inr, refl, sym, ap, subst, ◌∙◌, string_bytes}
use Rattle.std.proofs.lemmas.Slice.Eq.{bytes_eq-Decides}
use Rattle.std.specs.Str.{bytes_eq}
use mathlib.Core.Bool.{or-true}
use Rattle.mk_find.specs.declared.finding.Finding.{Finding}
use Rattle.mk_build_needs.specs.Laws.{FirstCycleCannotBeMended}
use Rattle.mk_lines.specs.Names.{has_name}
use Rattle.mk_read.specs.Files.{Told}
use Rattle.mk_read_laws.specs.NamedFiles.{OnlyNamedFilesCount}
use Rattle.mk_core_text.specs.declared.fault.Fault.{Fault}
use Rattle.mk_core_text.specs.declared.fault.Fault.TheVariants.{FileReadFailed}
use Rattle.mk_core_text.specs.declared.verdict.Verdict.{Verdict}
use Rattle.mk_core_text.specs.declared.verdict.Verdict.TheVariants.{Yes, No}
use Rattle.mk_core.specs.declared.request.Request.{Request}
use Rattle.mk_core.specs.Answer.{Answers}
use Rattle.mk_core.specs.CheckAnswer.{AnswersCheck}
use Rattle.mk_core.specs.Judging.{AnswersJudged}
use Rattle.mk_core.specs.Laws.{YesIsRight}
use Rattle.mk_repair.specs.Lines.{lines_text}
use Rattle.mk_repair.specs.Word.{Word}
use Rattle.mk_repair.specs.declared.obstacle.Obstacle.{Obstacle}
use Rattle.mk_core_repair.specs.declared.outcome.Stop.{Stop}
use Rattle.mk_core_repair.specs.declared.outcome.Stop.TheVariants.{Judged, TooLong}
use Rattle.mk_core_repair.specs.declared.outcome.Repair.{Repair}
use Rattle.mk_core_repair.specs.declared.outcome.Repair.TheVariants as repairs
use Rattle.mk_core_repair.specs.declared.outcome.Part.TheVariants as parts
use Rattle.mk_core_repair.specs.declared.outcome.Why.TheVariants as whys
use Rattle.mk_core_repair.specs.declared.surveying.First.{First}
use Rattle.mk_core_repair.specs.declared.surveying.Survey.{Survey}
use Rattle.mk_core_repair.specs.Amending.{added_lines, added_text, amended, book_names, looked_for, makefile_name, makefile_text, names_known}
use Rattle.mk_core_repair.specs.Outcome.{Outcome, Part, Reason, right, mended, unmended, untried, taken, no_lines, refused_lines, long_lines, too_long, cycle, stopped, tried, tried_all, outcome_of, part_view}
use Rattle.mk_core_repair.specs.RepairAnswer.{AfterFirst, AnswersRepair, CannotBeMended, IsAccepted, IsCycle, IsFirstOf, IsTaken, Mends, Suffices, TakesPart}
use Rattle.mk_core_repair.specs.Rounds.{AfterKnown, AfterRound, AfterVerdict, IsRound, Onward, Rounds, first_unknown, max_rounds, more_words}
use Rattle.mk_core_repair.specs.Survey.{GivesSurvey}
use Rattle.mk_core_repair.specs.Trial.{AfterTrial, Trial, known_part, with_part}
use Rattle.mk_core_repair.specs.Views.{IsYesVerdict}
use Rattle.mk_core_repair.proofs.Amended.{survey_same}
use Rattle.mk_core_repair.proofs.Cuts.{behind_same, cut_at}
use Rattle.mk_core_repair.proofs.Cycles.{FindsCycle, cycle_cannot_be_mended}
use Rattle.mk_core_repair.proofs.Surveys.{survey_accepted, survey_checks, first_surveys}

-- ---- the footprint file is known

behind_known : (names more : List (List ℕ)) (name : List ℕ) → has_name more name ≡ true → has_name (names ++ more) name ≡ true
behind_known [] more name e = e
behind_known (other ∷ names) more name e = ap (λ b. bytes_eq name other || b) (behind_known names more name e) ∙ or-true (bytes_eq name other)

book_in : (book : Option (List ℕ)) (name : List ℕ) → book ≡ Some name → has_name (book_names book) name ≡ true
book_in None name e = absurd cc
book_in (Some other) name e =
    let same : name ≡ other = cc in
    ap (λ b. b || false) ((bytes_eq-Decides name other).1 same)

pub book_known : (files : Told) (request : Request) (read : List (List ℕ)) (name : List ℕ) → request.book ≡ Some name → has_name (names_known files request read) name ≡ true
book_known files request read name e =
    let last = book_in request.book name e in
    behind_known (makefile_name files request ∷ []) (looked_for request.makefile ++ (read ++ book_names request.book)) name
    (behind_known (looked_for request.makefile) (read ++ book_names request.book) name (behind_known read (book_names request.book) name last))

-- ---- lines suffice

module _ (right_law : YesIsRight) (law : OnlyNamedFilesCount) (files : Told) (request : Request) (names : List (List ℕ))
    (known_book : (name : List ℕ) → request.book ≡ Some name → has_name names name ≡ true) (first : List Finding) (text : List ℕ) where
  -- a round that read known files alone has its survey over all files
  round_read : (added : List ℕ) (survey : Survey) → IsRound names files request added (Ok survey) → first_unknown names survey.files ≡ None → Answers (amended files request added) request (AnswersJudged GivesSurvey) (Ok survey)
  round_read added survey (cut, is_cut, a) none =
      let own : List ℕ × List ℕ = (makefile_name files request, makefile_text files request ++ added) in
      survey_same law names (own ∷ cut) (own ∷ files) (λ name known. behind_same own cut files name (cut_at names files cut name is_cut known)) request known_book survey none a

  -- a yes of such a round
  round_right : (added : List ℕ) (survey : Survey) → IsRound names files request added (Ok survey) → first_unknown names survey.files ≡ None → IsYesVerdict survey.verdict → IsAccepted (amended files request added) request
  round_right added survey is none agreed = survey_accepted (amended files request added) request right_law survey (round_read added survey is none) agreed

  module _ (rounds : List Word → Reason → Outcome → Type 0) (later : (more : List Word) (before : Reason) → rounds more before (mended text) → Mends files request text)
      (words : List Word) where
    onward_suffices : (found : List Finding) (more : Option (List Word)) → Onward rounds first words found more (mended text) → Mends files request text
    onward_suffices found None e = absurd cc
    onward_suffices found (Some more) r = later more (tried_all (lines_text words) (Ok found)) r

    module _ (survey : Survey) (is : IsRound names files request (added_text (makefile_text files request) words) (Ok survey)) where
      verdict_suffices : first_unknown names survey.files ≡ None → (verdict : Verdict) → survey.verdict ≡ verdict → AfterVerdict (makefile_text files request) rounds first words verdict survey.words (mended text)
          → Mends files request text
      verdict_suffices none (Yes certificate recipes reads) is_yes e =
          let same : added_text (makefile_text files request) words ≡ text = cc in
          subst (λ (t : List ℕ). Mends files request t) same (round_right (added_text (makefile_text files request) words) survey is none (subst IsYesVerdict (sym is_yes) tt))
      verdict_suffices none (No found) is_no r = onward_suffices found (more_words words survey.words) r

      known_suffices : (o : Option (List ℕ)) → first_unknown names survey.files ≡ o → AfterKnown (makefile_text files request) rounds first words survey o (mended text) → Mends files request text
      known_suffices None none r = verdict_suffices none survey.verdict refl r
      known_suffices (Some name) some e = absurd cc

    round_suffices : (survey : Result Survey Fault) → IsRound names files request (added_text (makefile_text files request) words) survey → AfterRound (makefile_text files request) rounds names first words survey (mended text)
        → Mends files request text
    round_suffices (Ok survey) is r = known_suffices survey is (first_unknown names survey.files) refl r
    round_suffices (Err fault) is (settled, e) = absurd cc

  pub rounds_suffice : (left : ℕ) (words : List Word) (before : Reason) → Rounds left names files request first words before (mended text) → Mends files request text
  unfolding Rounds
  rounds_suffice zero words before e = absurd cc
  rounds_suffice (suc left) words before (inl (long, e)) = absurd cc
  rounds_suffice (suc left) words before (inr (short, (survey, is, after))) =
      round_suffices (Rounds left names files request first) (λ more why r. rounds_suffice left more why r) words survey is after

  -- lines that are tried once
  module _ (why : List ℕ) where
    module _ (lines : List ℕ) (survey : Survey) (is : IsRound names files request (added_lines (makefile_text files request) lines) (Ok survey)) where
      tried_mends : (o : Option (List ℕ)) → first_unknown names survey.files ≡ o → (verdict : Verdict) → survey.verdict ≡ verdict
          → mended text ≡ known_part (with_part first why) lines (added_lines (makefile_text files request) lines) verdict o → Mends files request text
      tried_mends (Some name) some verdict is_verdict e = absurd cc
      tried_mends None none (No found) is_no e = absurd cc
      tried_mends None none (Yes certificate recipes reads) is_yes e =
          let same : text ≡ added_lines (makefile_text files request) lines = cc in
          subst (λ (t : List ℕ). Mends files request t) (sym same) (round_right (added_lines (makefile_text files request) lines) survey is none (subst IsYesVerdict (sym is_yes) tt))

      tried_takes : (found left : List Finding) (reason shown : List ℕ) (o : Option (List ℕ)) → first_unknown names survey.files ≡ o → (verdict : Verdict)
          → unmended found (untried reason (taken shown text left)) ≡ known_part (with_part first why) lines (added_lines (makefile_text files request) lines) verdict o → IsTaken files request text
      tried_takes found left reason shown (Some name) some verdict e = absurd cc
      tried_takes found left reason shown None none (Yes certificate recipes reads) e = absurd cc
      tried_takes found left reason shown None none (No others) e =
          let same : text ≡ added_lines (makefile_text files request) lines = cc in
          let read = round_read (added_lines (makefile_text files request) lines) survey is none in
          subst (λ (t : List ℕ). IsTaken files request t) (sym same) (survey.verdict, survey_checks (amended files request (added_lines (makefile_text files request) lines)) request (Ok survey) read)

    pub trial_mends : (lines : List ℕ) → Trial names files request (with_part first why) lines (mended text) → Mends files request text
    trial_mends [] e = absurd cc
    trial_mends (byte ∷ rest) (inl (long, e)) = absurd cc
    trial_mends (byte ∷ rest) (inr (short, (Err fault, is, (settled, e)))) = absurd cc
    trial_mends (byte ∷ rest) (inr (short, (Ok survey, is, e))) = tried_mends (byte ∷ rest) survey is (first_unknown names survey.files) refl survey.verdict refl e

    pub trial_takes : (found left : List Finding) (reason shown : List ℕ) (lines : List ℕ) → Trial names files request (with_part first why) lines (unmended found (untried reason (taken shown text left))) → IsTaken files request text
    trial_takes found left reason shown [] e = absurd cc
    trial_takes found left reason shown (byte ∷ rest) (inl (long, e)) = absurd cc
    trial_takes found left reason shown (byte ∷ rest) (inr (short, (Err fault, is, (settled, e)))) = absurd cc
    trial_takes found left reason shown (byte ∷ rest) (inr (short, (Ok survey, is, e))) =
        tried_takes (byte ∷ rest) survey is found left reason shown (first_unknown names survey.files) refl survey.verdict e

-- ---- a cycle is that of the first judgement, and so are findings without a word

-- the reason is no cycle
abbrev IsNoCycle : Reason → Type 0
IsNoCycle (untried why part) = Unit {0}
IsNoCycle too_long = Unit {0}
IsNoCycle (tried lines after stop) = Unit {0}
IsNoCycle (cycle path) = ⊥

-- the reason isn't a finding without a word
abbrev HasWords : Reason → Type 0
HasWords (untried why part) = ⊥
HasWords too_long = Unit {0}
HasWords (tried lines after stop) = Unit {0}
HasWords (cycle path) = Unit {0}

-- the reason stays one when no further lines are tried
stopped_no_cycle : (stop : Stop) (before : Reason) → IsNoCycle before → IsNoCycle (stopped stop before)
stopped_no_cycle stop (untried why part) none = none
stopped_no_cycle stop too_long none = none
stopped_no_cycle stop (tried lines after other) none = none
stopped_no_cycle stop (cycle path) none = none

stopped_has_words : (stop : Stop) (before : Reason) → HasWords before → HasWords (stopped stop before)
stopped_has_words stop (untried why part) has = has
stopped_has_words stop too_long has = has
stopped_has_words stop (tried lines after other) has = has
stopped_has_words stop (cycle path) has = has

reason_in : Outcome → Reason
reason_in right = too_long
reason_in (mended text) = too_long
reason_in (unmended found why) = why

-- the rounds don't end for a reason that is never one of them
module _ (IsOther : Reason → Type 0) (never : Reason) (not_other : ¬ (IsOther never)) (stays : (stop : Stop) (before : Reason) → IsOther before → IsOther (stopped stop before))
    (is_tried : (lines : List ℕ) (after : Result (List Finding) Fault) → IsOther (tried_all lines after)) (names : List (List ℕ)) (files : Told) (request : Request) (found : List Finding) where
  other_reason : (first : List Finding) (before : Reason) → IsOther before → ¬ (unmended found never ≡ unmended first before)
  unfolding reason_in
  other_reason first before other e = not_other (subst IsOther (sym (ap reason_in e)) other)

  module _ (first : List Finding) (rounds : List Word → Reason → Outcome → Type 0)
      (later : (more : List Word) (before : Reason) → IsOther before → ¬ (rounds more before (unmended found never))) (words : List Word) where
    onward_not : (others : List Finding) (more : Option (List Word)) → ¬ (Onward rounds first words others more (unmended found never))
    onward_not others None e = other_reason first (tried_all (lines_text words) (Ok others)) (is_tried (lines_text words) (Ok others)) e
    onward_not others (Some more) r = later more (tried_all (lines_text words) (Ok others)) (is_tried (lines_text words) (Ok others)) r

    verdict_not : (verdict : Verdict) (new : Option (List Word)) → ¬ (AfterVerdict (makefile_text files request) rounds first words verdict new (unmended found never))
    verdict_not (Yes certificate recipes reads) new e = absurd cc
    verdict_not (No others) new r = onward_not others (more_words words new) r

    known_not : (survey : Survey) (o : Option (List ℕ)) → ¬ (AfterKnown (makefile_text files request) rounds first words survey o (unmended found never))
    known_not survey None r = verdict_not survey.verdict survey.words r
    known_not survey (Some name) e = other_reason first (tried_all (lines_text words) (Err (FileReadFailed name))) (is_tried (lines_text words) (Err (FileReadFailed name))) e

    round_not : (survey : Result Survey Fault) → ¬ (AfterRound (makefile_text files request) rounds names first words survey (unmended found never))
    round_not (Ok survey) r = known_not survey (first_unknown names survey.files) r
    round_not (Err fault) (settled, e) = other_reason first (tried_all (lines_text words) (Err fault)) (is_tried (lines_text words) (Err fault)) e

  rounds_not : (left : ℕ) (first : List Finding) (words : List Word) (before : Reason) → IsOther before → ¬ (Rounds left names files request first words before (unmended found never))
  unfolding Rounds
  rounds_not zero first words before other e = other_reason first (stopped Judged before) (stays Judged before other) e
  rounds_not (suc left) first words before other (inl (long, e)) = other_reason first (stopped TooLong before) (stays TooLong before other) e
  rounds_not (suc left) first words before other (inr (short, (survey, is, after))) =
      round_not first (Rounds left names files request first) (λ more why k r. rounds_not left first more why k r) words survey after

module _ (names : List (List ℕ)) (files : Told) (request : Request) (found : List Finding) where
  -- the rounds end in no cycle
  rounds_no_cycle : (path : List (List ℕ)) (left : ℕ) (first : List Finding) (words : List Word) (before : Reason) → IsNoCycle before → ¬ (Rounds left names files request first words before (unmended found (cycle path)))
  rounds_no_cycle path = rounds_not IsNoCycle (cycle path) (λ k. k) stopped_no_cycle (λ lines after. tt) names files request found

  -- they end with words
  rounds_have_words : (reason : List ℕ) (part : Part) (left : ℕ) (first : List Finding) (words : List Word) (before : Reason) → HasWords before → ¬ (Rounds left names files request first words before (unmended found (untried reason part)))
  rounds_have_words reason part = rounds_not HasWords (untried reason part) (λ k. k) stopped_has_words (λ lines after. tt) names files request found

module _ (names : List (List ℕ)) (files : Told) (request : Request) (found : List Finding) (path : List (List ℕ)) where
  no_cycle : (first : List Finding) (before : Reason) → IsNoCycle before → ¬ (unmended found (cycle path) ≡ unmended first before)
  no_cycle = other_reason IsNoCycle (cycle path) (λ k. k) stopped_no_cycle (λ lines after. tt) names files request found

  tried_no_cycle : (first : List Finding) (why lines text : List ℕ) (verdict : Verdict) (o : Option (List ℕ)) → ¬ (unmended found (cycle path) ≡ known_part (with_part first why) lines text verdict o)
  tried_no_cycle first why lines text verdict (Some name) e = no_cycle first (untried why (refused_lines lines (FileReadFailed name))) tt e
  tried_no_cycle first why lines text (No others) None e = no_cycle first (untried why (taken lines text others)) tt e
  tried_no_cycle first why lines text (Yes certificate recipes reads) None e = absurd cc

  trial_no_cycle : (first : List Finding) (why lines : List ℕ) → ¬ (Trial names files request (with_part first why) lines (unmended found (cycle path)))
  trial_no_cycle first why [] e = no_cycle first (untried why no_lines) tt e
  trial_no_cycle first why (byte ∷ rest) (inl (long, e)) = no_cycle first (untried why long_lines) tt e
  trial_no_cycle first why (byte ∷ rest) (inr (short, (Err fault, is, (settled, e)))) = no_cycle first (untried why (refused_lines (byte ∷ rest) fault)) tt e
  trial_no_cycle first why (byte ∷ rest) (inr (short, (Ok survey, is, e))) =
      tried_no_cycle first why (byte ∷ rest) (added_lines (makefile_text files request) (byte ∷ rest)) survey.verdict (first_unknown names survey.files) e

  first_cycle : (verdict : Verdict) (words : Option (List Word)) (o : Option (List (List ℕ))) (stuck : Obstacle) → AfterFirst names files request verdict words o stuck (unmended found (cycle path)) → FindsCycle verdict words o
  first_cycle (Yes certificate recipes reads) words o stuck e = absurd cc
  first_cycle (No others) None o stuck e = absurd (trial_no_cycle others (string_bytes stuck.why) (string_bytes stuck.lines) e)
  first_cycle (No others) (Some words) (Some p) stuck e = tt
  first_cycle (No others) (Some words) None stuck r = absurd (rounds_no_cycle names files request found path max_rounds others words too_long tt r)

-- ---- only a yes is right as it is

module _ (names : List (List ℕ)) (files : Told) (request : Request) where
  module _ (first : List Finding) (rounds : List Word → Reason → Outcome → Type 0) (later : (more : List Word) (before : Reason) → ¬ (rounds more before right)) (words : List Word) where
    onward_not_right : (others : List Finding) (more : Option (List Word)) → ¬ (Onward rounds first words others more right)
    onward_not_right others None e = absurd cc
    onward_not_right others (Some more) r = later more (tried_all (lines_text words) (Ok others)) r

    verdict_not_right : (verdict : Verdict) (new : Option (List Word)) → ¬ (AfterVerdict (makefile_text files request) rounds first words verdict new right)
    verdict_not_right (Yes certificate recipes reads) new e = absurd cc
    verdict_not_right (No others) new r = onward_not_right others (more_words words new) r

    known_not_right : (survey : Survey) (o : Option (List ℕ)) → ¬ (AfterKnown (makefile_text files request) rounds first words survey o right)
    known_not_right survey None r = verdict_not_right survey.verdict survey.words r
    known_not_right survey (Some name) e = absurd cc

    round_not_right : (survey : Result Survey Fault) → ¬ (AfterRound (makefile_text files request) rounds names first words survey right)
    round_not_right (Ok survey) r = known_not_right survey (first_unknown names survey.files) r
    round_not_right (Err fault) (settled, e) = absurd cc

  rounds_not_right : (left : ℕ) (first : List Finding) (words : List Word) (before : Reason) → ¬ (Rounds left names files request first words before right)
  unfolding Rounds
  rounds_not_right zero first words before e = absurd cc
  rounds_not_right (suc left) first words before (inl (long, e)) = absurd cc
  rounds_not_right (suc left) first words before (inr (short, (survey, is, after))) =
      round_not_right first (Rounds left names files request first) (λ more why r. rounds_not_right left first more why r) words survey after

  tried_not_right : (first : List Finding) (why lines text : List ℕ) (verdict : Verdict) (o : Option (List ℕ)) → ¬ (right ≡ known_part (with_part first why) lines text verdict o)
  tried_not_right first why lines text verdict (Some name) e = absurd cc
  tried_not_right first why lines text (No others) None e = absurd cc
  tried_not_right first why lines text (Yes certificate recipes reads) None e = absurd cc

  trial_not_right : (first : List Finding) (why lines : List ℕ) → ¬ (Trial names files request (with_part first why) lines right)
  trial_not_right first why [] e = absurd cc
  trial_not_right first why (byte ∷ rest) (inl (long, e)) = absurd cc
  trial_not_right first why (byte ∷ rest) (inr (short, (Err fault, is, (settled, e)))) = absurd cc
  trial_not_right first why (byte ∷ rest) (inr (short, (Ok survey, is, e))) =
      tried_not_right first why (byte ∷ rest) (added_lines (makefile_text files request) (byte ∷ rest)) survey.verdict (first_unknown names survey.files) e

  first_right : (verdict : Verdict) (words : Option (List Word)) (o : Option (List (List ℕ))) (stuck : Obstacle) → AfterFirst names files request verdict words o stuck right → IsYesVerdict verdict
  first_right (Yes certificate recipes reads) words o stuck e = tt
  first_right (No others) None o stuck e = absurd (trial_not_right others (string_bytes stuck.why) (string_bytes stuck.lines) e)
  first_right (No others) (Some words) (Some path) stuck e = absurd cc
  first_right (No others) (Some words) None stuck r = absurd (rounds_not_right max_rounds others words too_long r)

-- ---- the whole answer

module _ (right_law : YesIsRight) (law : OnlyNamedFilesCount) (files : Told) (request : Request) where
  module _ (first : First) (is : IsFirstOf files request first) where
    first_mends : (text : List ℕ) (verdict : Verdict) (words : Option (List Word)) (o : Option (List (List ℕ))) (stuck : Obstacle)
        → AfterFirst (names_known files request first.survey.files) files request verdict words o stuck (mended text) → Mends files request text
    first_mends text (Yes certificate recipes reads) words o stuck e = absurd cc
    first_mends text (No found) None o stuck e =
        trial_mends right_law law files request (names_known files request first.survey.files) (λ name k. book_known files request first.survey.files name k) found text (string_bytes stuck.why) (string_bytes stuck.lines) e
    first_mends text (No found) (Some words) (Some path) stuck e = absurd cc
    first_mends text (No found) (Some words) None stuck r =
        rounds_suffice right_law law files request (names_known files request first.survey.files) (λ name e. book_known files request first.survey.files name e) found text max_rounds words too_long r

    -- the lines of a part are taken
    first_takes : (found left : List Finding) (reason shown text : List ℕ) (verdict : Verdict) (words : Option (List Word)) (o : Option (List (List ℕ))) (stuck : Obstacle)
        → AfterFirst (names_known files request first.survey.files) files request verdict words o stuck (unmended found (untried reason (taken shown text left))) → IsTaken files request text
    first_takes found left reason shown text (Yes certificate recipes reads) words o stuck e = absurd cc
    first_takes found left reason shown text (No others) None o stuck e =
        trial_takes right_law law files request (names_known files request first.survey.files) (λ name k. book_known files request first.survey.files name k) others text (string_bytes stuck.why) found left reason shown (string_bytes stuck.lines) e
    first_takes found left reason shown text (No others) (Some words) (Some path) stuck e = absurd cc
    first_takes found left reason shown text (No others) (Some words) None stuck r =
        absurd (rounds_have_words (names_known files request first.survey.files) files request found reason (taken shown text left) max_rounds others words too_long tt r)

  pub repair_suffices : (answer : Result Repair Fault) → AnswersRepair files request answer → Suffices files request answer
  repair_suffices (Ok (repairs.Mended text)) (first, is, after) = first_mends first is text.items first.survey.verdict first.survey.words first.cycle first.obstacle after
  repair_suffices (Ok (repairs.Unmended found why)) a = tt
  repair_suffices (Ok repairs.Right) (first, is, after) =
      survey_accepted files request right_law first.survey (first_surveys files request (Ok first) is)
      (first_right (names_known files request first.survey.files) files request first.survey.verdict first.survey.words first.cycle first.obstacle after)
  repair_suffices (Err fault) a = tt

-- what is printed of a part is taken
mended_taken : (files : Told) (request : Request) (text : List ℕ) → Mends files request text → IsTaken files request text
mended_taken files request [] accepted = tt
mended_taken files request (byte ∷ rest) accepted = (accepted.verdict, accepted.is_checked)

module _ (right_law : YesIsRight) (law : OnlyNamedFilesCount) (files : Told) (request : Request) where
  pub repair_takes : (answer : Result Repair Fault) → AnswersRepair files request answer → TakesPart files request answer
  repair_takes (Ok repairs.Right) a = tt
  repair_takes (Ok (repairs.Mended text)) a = mended_taken files request text.items (repair_suffices right_law law files request (Ok (repairs.Mended text)) a)
  repair_takes (Ok (repairs.Unmended found (whys.Untried why (parts.Taken lines text left)))) (first, is, after) =
      first_takes right_law law files request first is found left (string_bytes why) (string_bytes lines) text.items first.survey.verdict first.survey.words first.cycle first.obstacle after
  repair_takes (Ok (repairs.Unmended found (whys.Untried why parts.NoLines))) a = tt
  repair_takes (Ok (repairs.Unmended found (whys.Untried why (parts.Refused lines fault)))) a = tt
  repair_takes (Ok (repairs.Unmended found (whys.Untried why parts.TooLong))) a = tt
  repair_takes (Ok (repairs.Unmended found whys.TooLong)) a = tt
  repair_takes (Ok (repairs.Unmended found (whys.Cycle names))) a = tt
  repair_takes (Ok (repairs.Unmended found (whys.Tried lines after stop))) a = tt
  repair_takes (Err fault) a = tt

pub repair_finds_cycle : FirstCycleCannotBeMended → (files : Told) (request : Request) (answer : Result Repair Fault) → AnswersRepair files request answer → IsCycle answer → CannotBeMended files request
repair_finds_cycle law files request (Ok (repairs.Unmended found (whys.Cycle path))) (first, is, after) k =
    cycle_cannot_be_mended law files request first is
    (first_cycle (names_known files request first.survey.files) files request found path first.survey.verdict first.survey.words first.cycle first.obstacle after)
repair_finds_cycle law files request (Ok (repairs.Unmended found (whys.Untried why part))) a k = absurd k
repair_finds_cycle law files request (Ok (repairs.Unmended found whys.TooLong)) a k = absurd k
repair_finds_cycle law files request (Ok (repairs.Unmended found (whys.Tried lines after stop))) a k = absurd k
repair_finds_cycle law files request (Ok repairs.Right) a k = absurd k
repair_finds_cycle law files request (Ok (repairs.Mended text)) a k = absurd k
repair_finds_cycle law files request (Err fault) a k = absurd k
