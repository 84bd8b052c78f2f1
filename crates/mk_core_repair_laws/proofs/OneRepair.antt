-- The answer of `repair` is one.
use Rattle.std.proofs.Common.{◌≡◌, ◌++◌, ℕ, zero, suc, Bool, true, false, true≢false, List, [], ◌∷◌, map, Option, Some, None, Result, Ok, Err, inl, inr, refl, sym, ap, subst, ◌∙◌, string_bytes}
use Rattle.mk_subject.specs.Subject.{Subject, footprints}
use Rattle.mk_find.specs.declared.finding.Finding.{Finding}
use Rattle.std.specs.List.{list_any}
use Rattle.std.specs.Prelude.{fold, if◌then◌else◌}
use Rattle.mk_find.specs.FindingLaws.{ListIsOne}
use Rattle.mk_find.specs.Candidates.{Candidate, by_node, race_candidates}
use Rattle.mk_find.specs.Findings.{AreHidden, hidden_reads}
use Rattle.mk_find.specs.Listed.{named}
use Rattle.mk_graph.specs.Graph.{Graph}
use Rattle.mk_graph.specs.Laws.{WalkHasOneEnd}
use Rattle.mk_build.specs.Setting.{name}
use Rattle.mk_graph.specs.Walk.{Through, Closes}
use Rattle.mk_build_needs.specs.NeedsGraph.{IsFirstCycle, needs_graph}
use Rattle.mk_infer.specs.Laws.{SelectionIsOne}
use Rattle.mk_read.specs.Files.{Told}
use Rattle.mk_core_text.specs.declared.fault.Fault.{Fault}
use Rattle.mk_core_text.specs.declared.fault.Fault.TheVariants.{Read, Infer, Foot, Plan, Certificate, Verify, FileReadFailed, NoFile, Memory}
use Rattle.mk_core_text.specs.declared.verdict.Verdict.{Verdict}
use Rattle.mk_core_text.specs.declared.verdict.Verdict.TheVariants.{Yes, No}
use Rattle.mk_core.specs.declared.request.Request.{Request}
use Rattle.mk_core.specs.Answer.{Answers}
use Rattle.mk_core.specs.CheckAnswer.{AnswersCheck}
use Rattle.mk_core.specs.Judging.{AnswersJudged}
use Rattle.mk_core.specs.Ready.{ready_for}
use Rattle.mk_core.proofs.Seen.{fault_same}
use Rattle.mk_core_laws.specs.AnswerLaws.{IsSettled, VerdictIsOne}
use Rattle.mk_repair.specs.Lines.{lines_text}
use Rattle.mk_repair.specs.Word.{Word, with_word}
use Rattle.mk_claims.specs.Claims.{Claim, claim_of}
use Rattle.mk_claims.specs.Offers.{Offer, Settles, stays, goes_on, graph_with, offer_of, open_words, without_step}
use Rattle.mk_claims.specs.Shown.{all_claims, is_static}
use Rattle.mk_claims.specs.Untouched.{untouched}
use Rattle.mk_repair.specs.declared.obstacle.Obstacle.{Obstacle}
use Rattle.mk_core_repair.specs.declared.outcome.Repair.{Repair}
use Rattle.mk_core_repair.specs.declared.surveying.First.{First}
use Rattle.mk_core_repair.specs.declared.surveying.Survey.{Survey}
use Rattle.mk_core_repair.specs.Amending.{added_lines, added_text, amended_among, makefile_name, makefile_text, names_known}
use Rattle.mk_core_repair.specs.Outcome.{Outcome, Reason, unmended, too_long, cycle, tried_all, outcome_of}
use Rattle.mk_core_repair.specs.RepairAnswer.{AfterFirst, AnswersRepair, IsFirstOf}
use Rattle.mk_core_repair.specs.Rounds.{AfterKnown, AfterRound, AfterVerdict, IsRound, Onward, Rounds, first_unknown, max_rounds, more_words}
use Rattle.mk_core_repair.specs.Survey.{AreOtherLines, GivesSurvey, IsCycleFor, IsFirst, IsObstacleFor}
use Rattle.mk_core_repair.specs.Trial.{AfterTrial, Trial, with_part}
use Rattle.mk_core_repair.proofs.Cuts.{behind_same}
use Rattle.mk_core_repair.proofs.Surveys.{first_surveys, survey_checks}
use Rattle.mk_core_repair_laws.specs.RepairLaws.{IsReadThrough, RepairIsOne}
use Rattle.mk_core_repair_laws.proofs.OneSurvey.{answer_one, settled_fault, shared, survey_one}
use Rattle.mk_core_repair_laws.proofs.SameFiles.{answers_same}

-- ---- the first cycle

module _ (walks : WalkHasOneEnd) (g : Graph) where
  cycle_one : (one other : Option (List (List ℕ))) → IsFirstCycle g one → IsFirstCycle g other → one ≡ other
  cycle_one None None a b = refl
  cycle_one None (Some names) (finished, w) (path, v, e) =
      let k : Through finished ≡ Closes path = walks g (Through finished) (Closes path) w v in absurd cc
  cycle_one (Some names) None (path, w, e) (finished, v) =
      let k : Closes path ≡ Through finished = walks g (Closes path) (Through finished) w v in absurd cc
  cycle_one (Some names) (Some others) (path, w, e) (again, v, k) =
      let ends : Closes path ≡ Closes again = walks g (Closes path) (Closes again) w v in
      let same : path ≡ again = cc in
      ap (λ (l : List (List ℕ)). Some l) (e ∙ (ap (λ (p : List ℕ). map (name g) p) same ∙ sym k))

-- ---- the lines of hidden findings

same_hidden : ListIsOne → (x : Subject) (hidden again : List Finding) → AreHidden x hidden → AreHidden x again → hidden ≡ again
same_hidden listed x hidden again are those =
    let kept = listed x (race_candidates x ++ by_node x (hidden_reads x)) are.kept those.kept are.right those.right in
    are.added ∙ (ap (λ (l : List Candidate). map (named x) l) kept ∙ sym those.added)

-- hidden findings count only where they are hidden
later_one : (x : Subject) (found hidden again : List Finding) (hides : Bool) → (hides ≡ true → hidden ≡ again)
    → ◌≡◌ {A = List Claim} (if hides then untouched (map (claim_of x) found) (map (claim_of x) hidden) else []) (if hides then untouched (map (claim_of x) found) (map (claim_of x) again) else [])
later_one x found hidden again true same = ap (λ (l : List Finding). untouched (map (claim_of x) found) (map (claim_of x) l)) (same refl)
later_one x found hidden again false same = refl

-- lines on cycles are taken back in one way
settled_one : (walks : WalkHasOneEnd) (g : Graph) (offers one other : List Offer) → Settles g offers one → Settles g offers other → one ≡ other
settled_one walks g offers one other (stays none) (stays other_none) = refl
settled_one walks g offers one other (stays none) (goes_on {names = names} some rest) =
    let k : None ≡ Some names = cycle_one walks (graph_with g (open_words offers)) None (Some names) none some in absurd cc
settled_one walks g offers one other (goes_on {names = names} some rest) (stays none) =
    let k : Some names ≡ None = cycle_one walks (graph_with g (open_words offers)) (Some names) None some none in absurd cc
settled_one walks g offers one other (goes_on {names = names} some rest) (goes_on {names = others} again more) =
    let k : Some names ≡ Some others = cycle_one walks (graph_with g (open_words offers)) (Some names) (Some others) some again in
    let same : others ≡ names = cc in
    settled_one walks g (map (without_step names) offers) one other rest (subst (λ (l : List (List ℕ)). Settles g (map (without_step l) offers) other) same more)

lines_one : ListIsOne → WalkHasOneEnd → (x : Subject) (found : List Finding) (one other : List ℕ) → AreOtherLines x found one → AreOtherLines x found other → one ≡ other
lines_one listed walks x found one other (hidden, are, (offers, on, a)) (again, those, (others, also, b)) =
    let later = later_one x found hidden again (list_any is_static found) (λ hides. same_hidden listed x hidden again (are hides) (those hides)) in
    let same = settled_one walks x.graph (map offer_of (all_claims x found hidden)) offers others on (subst (λ (l : List Claim). Settles x.graph (map offer_of (map (claim_of x) found ++ l)) others) (sym later) also) in
    a ∙ (ap (λ (l : List Offer). lines_text (fold with_word [] (open_words l))) same ∙ sym b)

module _ (verdicts : VerdictIsOne) (listed : ListIsOne) (selection : SelectionIsOne) (walks : WalkHasOneEnd) (files : Told) (request : Request) where
  -- ---- one round

  round_one : (names : List (List ℕ)) (text : List ℕ) (one other : Result Survey Fault) → IsSettled one → IsSettled other → IsRound names files request text one → IsRound names files request text other → one ≡ other
  round_one names text one other s t (cut, is, a) (again, it, b) =
      let own : List ℕ × List ℕ = (makefile_name files request, makefile_text files request ++ text) in
      let here = amended_among cut files request text in
      let there = amended_among again files request text in
      answer_one verdicts selection here request one other s t a
      (answers_same there here (λ name. behind_same own again cut name (it name ∙ sym (is name))) request (AnswersJudged GivesSurvey) other t b)

  module _ (names : List (List ℕ)) (first : List Finding) (one other : Outcome) (s : IsReadThrough one) (t : IsReadThrough other) where
    module _ (rounds : List Word → Reason → Outcome → Type 0) (later : (more : List Word) (before : Reason) → rounds more before one → rounds more before other → one ≡ other) (words : List Word) where
      onward_one : (found : List Finding) (more : Option (List Word)) → Onward rounds first words found more one → Onward rounds first words found more other → one ≡ other
      onward_one found None a b = a ∙ sym b
      onward_one found (Some more) a b = later more (tried_all (lines_text words) (Ok found)) a b

      verdict_one : (verdict : Verdict) (new : Option (List Word)) → AfterVerdict (makefile_text files request) rounds first words verdict new one → AfterVerdict (makefile_text files request) rounds first words verdict new other → one ≡ other
      verdict_one (Yes certificate recipes reads) new a b = a ∙ sym b
      verdict_one (No found) new a b = onward_one found (more_words words new) a b

      known_one : (survey : Survey) (o : Option (List ℕ)) → AfterKnown (makefile_text files request) rounds first words survey o one → AfterKnown (makefile_text files request) rounds first words survey o other → one ≡ other
      known_one survey None a b = verdict_one survey.verdict survey.words a b
      known_one survey (Some name) a b = a ∙ sym b

      after_one : (survey : Result Survey Fault) → AfterRound (makefile_text files request) rounds names first words survey one → AfterRound (makefile_text files request) rounds names first words survey other → one ≡ other
      after_one (Ok survey) a b = known_one survey (first_unknown names survey.files) a b
      after_one (Err fault) (full, a) (also, b) = a ∙ sym b

    -- no read failed in a round whose outcome has no failed read
    read_through : (rounds : List Word → Reason → Outcome → Type 0) (words : List Word) (survey : Result Survey Fault) (outcome : Outcome) → IsReadThrough outcome → AfterRound (makefile_text files request) rounds names first words survey outcome → IsSettled survey
    read_through rounds words (Ok survey) outcome k a = tt
    read_through rounds words (Err fault) outcome k (full, a) = settled_fault (List Finding) Survey fault (subst IsReadThrough a k)

    rounds_one : (left : ℕ) (words : List Word) (before : Reason) → Rounds left names files request first words before one → Rounds left names files request first words before other → one ≡ other
    unfolding Rounds
    rounds_one zero words before a b = a ∙ sym b
    rounds_one (suc left) words before (inl (long, a)) (inl (also, b)) = a ∙ sym b
    rounds_one (suc left) words before (inl (long, a)) (inr (short, judged)) = absurd (true≢false (sym long ∙ short))
    rounds_one (suc left) words before (inr (short, judged)) (inl (long, b)) = absurd (true≢false (sym long ∙ short))
    rounds_one (suc left) words before (inr (short, (survey, is, a))) (inr (also, (again, it, b))) =
        let rounds = Rounds left names files request first in
        let same = round_one names (added_text (makefile_text files request) words) survey again (read_through rounds words survey one s a) (read_through rounds words again other t b) is it in
        after_one rounds (λ more why a b. rounds_one left more why a b) words survey a (subst (λ (r : Result Survey Fault). AfterRound (makefile_text files request) rounds names first words r other) (sym same) b)

    -- ---- lines that are tried once

    module _ (found : List Finding) (why lines text : List ℕ) where
      tried_one : (survey : Result Survey Fault) → AfterTrial (with_part found why) names lines text survey one → AfterTrial (with_part found why) names lines text survey other → one ≡ other
      tried_one (Ok survey) a b = a ∙ sym b
      tried_one (Err fault) (full, a) (also, b) = a ∙ sym b

      -- no read failed in the trial whose outcome has no failed read
      trial_through : (survey : Result Survey Fault) (outcome : Outcome) → IsReadThrough outcome → AfterTrial (with_part found why) names lines text survey outcome → IsSettled survey
      trial_through (Ok survey) outcome k a = tt
      trial_through (Err fault) outcome k (full, a) = settled_fault (List Finding) Survey fault (subst IsReadThrough a k)

    trial_one : (found : List Finding) (why lines : List ℕ) → Trial names files request (with_part found why) lines one → Trial names files request (with_part found why) lines other → one ≡ other
    trial_one found why [] a b = a ∙ sym b
    trial_one found why (byte ∷ rest) (inl (long, a)) (inl (also, b)) = a ∙ sym b
    trial_one found why (byte ∷ rest) (inl (long, a)) (inr (short, judged)) = absurd (true≢false (sym long ∙ short))
    trial_one found why (byte ∷ rest) (inr (short, judged)) (inl (long, b)) = absurd (true≢false (sym long ∙ short))
    trial_one found why (byte ∷ rest) (inr (short, (survey, is, a))) (inr (also, (again, it, b))) =
        let lines : List ℕ = byte ∷ rest in
        let text = added_lines (makefile_text files request) lines in
        let same = round_one names text survey again (trial_through found why lines text survey one s a) (trial_through found why lines text again other t b) is it in
        tried_one found why lines text survey a (subst (λ (r : Result Survey Fault). AfterTrial (with_part found why) names lines text r other) (sym same) b)

  -- ---- after the first judgement

  module _ (names : List (List ℕ)) (x : Subject) (one other : Outcome) (s : IsReadThrough one) (t : IsReadThrough other) where
    first_one : (verdict : Verdict) (words : Option (List Word)) (path again : Option (List (List ℕ))) (stuck also : Obstacle) → IsCycleFor x verdict words path → IsCycleFor x verdict words again
        → IsObstacleFor x verdict words stuck → IsObstacleFor x verdict words also
        → AfterFirst names files request verdict words path stuck one → AfterFirst names files request verdict words again also other → one ≡ other
    first_one (Yes certificate recipes reads) words path again stuck also is it of on a b = a ∙ sym b
    first_one (No found) None path again stuck also is it of on a b =
        let why = of.is_why ∙ sym on.is_why in
        let lines = lines_one listed walks x found (string_bytes stuck.lines) (string_bytes also.lines) of.is_lines on.is_lines in
        trial_one names found one other s t found (string_bytes stuck.why) (string_bytes stuck.lines) a
        (subst (λ (w : List ℕ). Trial names files request (with_part found w) (string_bytes stuck.lines) other) (sym why)
        (subst (λ (l : List ℕ). Trial names files request (with_part found (string_bytes also.why)) l other) (sym lines) b))
    first_one (No found) (Some words) None None stuck also is it of on a b = rounds_one names found one other s t max_rounds words too_long a b
    first_one (No found) (Some words) (Some path) (Some again) stuck also is it of on a b =
        let same : Some path ≡ Some again = cycle_one walks (needs_graph x.graph (footprints x.setting)) (Some path) (Some again) is it in
        let paths : path ≡ again = cc in
        a ∙ (ap (λ (p : List (List ℕ)). unmended found (cycle p)) paths ∙ sym b)
    first_one (No found) (Some words) None (Some again) stuck also is it of on a b =
        let same : None ≡ Some again = cycle_one walks (needs_graph x.graph (footprints x.setting)) None (Some again) is it in absurd cc
    first_one (No found) (Some words) (Some path) None stuck also is it of on a b =
        let same : Some path ≡ None = cycle_one walks (needs_graph x.graph (footprints x.setting)) (Some path) None is it in absurd cc

  outcome_one : (first again : First) → IsFirstOf files request first → IsFirstOf files request again → (one other : Outcome) → IsReadThrough one → IsReadThrough other
      → AfterFirst (names_known files request first.survey.files) files request first.survey.verdict first.survey.words first.cycle first.obstacle one
      → AfterFirst (names_known files request again.survey.files) files request again.survey.verdict again.survey.words again.cycle again.obstacle other → one ≡ other
  outcome_one first again is it one other s t a b =
      let both = shared selection IsFirst IsFirst (ready_for files None request) first again is it in
      let same = survey_one verdicts selection files request first.survey again.survey (first_surveys files request (Ok first) is) (first_surveys files request (Ok again) it) in
      first_one (names_known files request first.survey.files) both.0 one other s t first.survey.verdict first.survey.words first.cycle again.cycle first.obstacle again.obstacle both.1.1
      (subst (λ (v : Survey). IsCycleFor both.0 v.verdict v.words again.cycle) (sym same) both.2.1) both.1.2
      (subst (λ (v : Survey). IsObstacleFor both.0 v.verdict v.words again.obstacle) (sym same) both.2.2) a
      (subst (λ (v : Survey). AfterFirst (names_known files request v.files) files request v.verdict v.words again.cycle again.obstacle other) (sym same) b)

  -- ---- refusals

  checked : (first : First) → IsFirstOf files request first → Answers files request AnswersCheck (Ok first.survey.verdict)
  checked first is = survey_checks files request (Ok first.survey) (first_surveys files request (Ok first) is)

  refused : (fault : Fault) → IsSettled {A = Repair} (Err fault) → AnswersRepair files request (Err fault) → Answers files request AnswersCheck (Err fault)
  refused Memory s a = a
  refused (FileReadFailed name) s a = absurd s
  refused (Read fault) s a = a
  refused (NoFile name) s a = a
  refused (Infer fault) s a = a
  refused (Foot fault) s a = a
  refused (Plan fault) s a = a
  refused (Certificate fault) s a = a
  refused (Verify fault) s a = a

  not_both : (verdict : Verdict) (fault : Fault) → IsSettled {A = Repair} (Err fault) → Answers files request AnswersCheck (Ok verdict) → AnswersRepair files request (Err fault) → ⊥
  not_both verdict fault s a b =
      let e : ◌≡◌ {A = Result Verdict Fault} (Ok verdict) (Err fault) = verdicts files request (Ok verdict) (Err fault) tt (settled_fault Repair Verdict fault s) a (refused fault s b) in absurd cc

pub repair_is_one : VerdictIsOne → ListIsOne → SelectionIsOne → WalkHasOneEnd → RepairIsOne
repair_is_one verdicts listed selection walks files request (Ok one) (Ok other) s t (first, is, a) (again, it, b) =
    ap (λ (o : Outcome). Ok o) (outcome_one verdicts listed selection walks files request first again is it (outcome_of one) (outcome_of other) s t a b)
repair_is_one verdicts listed selection walks files request (Ok one) (Err fault) s t (first, is, a) b =
    absurd (not_both verdicts listed selection walks files request first.survey.verdict fault t (checked verdicts listed selection walks files request first is) b)
repair_is_one verdicts listed selection walks files request (Err fault) (Ok other) s t a (first, is, b) =
    absurd (not_both verdicts listed selection walks files request first.survey.verdict fault s (checked verdicts listed selection walks files request first is) a)
repair_is_one verdicts listed selection walks files request (Err fault) (Err also) s t a b =
    fault_same fault also
    (verdicts files request (Err fault) (Err also) (settled_fault Repair Verdict fault s) (settled_fault Repair Verdict also t) (refused verdicts listed selection walks files request fault s a) (refused verdicts listed selection walks files request also t b))
