-- The trial of lines, from the judgement of the makefile with them.
use Rattle.std.proofs.Common.{◌≡◌, ℕ, Bool, true, false, List, [], ◌∷◌, ◌++◌, length, Option, Some, None, Result, Ok, Err, inl, inr, refl, sym, ap, subst, true≢false, ◌∙◌}
use Rattle.std.proofs.Math.Dec.{eqb-suc-zero}
use Rattle.std.specs.Prelude.{◌==◌, nat_lt}
use Rattle.mk_find.specs.declared.finding.Finding.{Finding}
use Rattle.mk_read.specs.Files.{Told}
use Rattle.mk_core_text.specs.declared.fault.Fault.{Fault}
use Rattle.mk_core_text.specs.declared.fault.Fault.TheVariants.{FileReadFailed}
use Rattle.mk_core_text.specs.declared.verdict.Verdict.{Verdict}
use Rattle.mk_core_text.specs.declared.verdict.Verdict.TheVariants.{Yes, No}
use Rattle.mk_core.specs.declared.request.Request.{Request}
use Rattle.mk_core.specs.Steps.{is_out_of_memory}
use Rattle.mk_core_repair.specs.declared.known_files.KnownFiles.{KnownFiles}
use Rattle.mk_core_repair.specs.declared.own_makefile.OwnMakefile.{OwnMakefile}
use Rattle.mk_core_repair.specs.declared.surveying.Survey.{Survey}
use Rattle.mk_core_repair.specs.Amending.{added_lines, is_too_long, makefile_text, max_makefile}
use Rattle.mk_core_repair.specs.Known.{IsBase}
use Rattle.mk_core_repair.specs.Outcome.{Outcome, Part, mended, no_lines, taken, refused_lines, long_lines}
use Rattle.mk_core_repair.specs.Rounds.{IsRound, first_unknown}
use Rattle.mk_core_repair.specs.Trial.{Trial, Tries, known_part, verdict_part}
use Rattle.mk_core_repair.specs.Views.{IsYesVerdict}

-- ---- the trial

module _ (told : Told) (request : Request) (own : OwnMakefile) (known_files : KnownFiles) (base : IsBase told request own known_files) (ends : Part → Outcome)
    (lines added seen : List ℕ) (is_added : added ≡ added_lines own.text.items lines) (is_seen : seen ≡ added) where
  -- what is appended to the makefile of this map
  plain : added ≡ added_lines (makefile_text told request) lines
  plain = is_added ∙ ap (λ (m : List ℕ). added_lines m lines) base.is_text

  long_is : (b : Bool) → b ≡ nat_lt max_makefile (length (own.text.items ++ seen)) → is_too_long told request (added_lines (makefile_text told request) lines) ≡ b
  long_is b e =
      sym (e ∙ (ap (λ (t : List ℕ). nat_lt max_makefile (length (t ++ seen))) base.is_text
      ∙ ap (λ (t : List ℕ). nat_lt max_makefile (length (makefile_text told request ++ t))) (is_seen ∙ plain)))

  module _ (judged_text : List ℕ) (is_judged : judged_text ≡ added) (short : false ≡ nat_lt max_makefile (length (own.text.items ++ seen))) where
    round_is : (survey : Result Survey Fault) → IsRound known_files.names told request judged_text survey → IsRound known_files.names told request (added_lines (makefile_text told request) lines) survey
    round_is survey is = subst (λ (t : List ℕ). IsRound known_files.names told request t survey) (is_judged ∙ plain) is

    -- the makefile with the lines is judged
    pub trial_judged : (survey : Survey) (outcome : Outcome) → outcome ≡ known_part ends lines added survey.verdict (first_unknown known_files.names survey.files) → IsRound known_files.names told request judged_text (Ok survey)
        → Tries known_files.names told request ends lines (added_lines (makefile_text told request) lines) outcome
    trial_judged survey outcome e is =
        inr (long_is false short, (Ok survey, round_is (Ok survey) is, e ∙ ap (λ (t : List ℕ). known_part ends lines t survey.verdict (first_unknown known_files.names survey.files)) plain))

    -- it is refused
    pub trial_refused : (fault : Fault) → is_out_of_memory fault ≡ false → IsRound known_files.names told request judged_text (Err fault)
        → Tries known_files.names told request ends lines (added_lines (makefile_text told request) lines) (ends (refused_lines lines fault))
    trial_refused fault settled is = inr (long_is false short, (Err fault, round_is (Err fault) is, (settled, refl)))

-- ---- there are lines

module _ (names : List (List ℕ)) (files : Told) (request : Request) (ends : Part → Outcome) where
  pub full_trial : (lines : List ℕ) (outcome : Outcome) → (length lines == 0) ≡ false → Tries names files request ends lines (added_lines (makefile_text files request) lines) outcome → Trial names files request ends lines outcome
  full_trial [] outcome e tries = absurd (true≢false e)
  full_trial (byte ∷ rest) outcome e tries = tries
