-- A cycle of the first judgement can't be mended.
use Rattle.std.proofs.Common.{◌≡◌, List, ℕ, Option, Some, None, Result, Ok, Err, inl, inr, refl, subst}
use Rattle.mk_subject.specs.Subject.{Subject, footprints}
use Rattle.mk_build_needs.specs.Laws.{FirstCycleCannotBeMended}
use Rattle.mk_build_needs.specs.NeedsGraph.{needs_graph, IsFirstCycle}
use Rattle.mk_read.specs.Files.{Told}
use Rattle.mk_core_text.specs.declared.fault.Fault.{Fault}
use Rattle.mk_core_text.specs.declared.verdict.Verdict.{Verdict}
use Rattle.mk_core_text.specs.declared.verdict.Verdict.TheVariants.{Yes, No}
use Rattle.mk_core.specs.declared.request.Request.{Request}
use Rattle.mk_core.specs.Answer.{Draws}
use Rattle.mk_core.specs.Judging.{AnswersJudged, subject_over}
use Rattle.mk_core.specs.Ready.{Ready, ready_for}
use Rattle.mk_repair.specs.Word.{Word}
use Rattle.mk_core_repair.specs.declared.surveying.First.{First}
use Rattle.mk_core_repair.specs.RepairAnswer.{CannotBeMended, IsFirstOf}
use Rattle.mk_core_repair.specs.Survey.{GivesFirst, IsCycleFor, IsFirst}

-- the first judgement found a cycle
abbrev pub FindsCycle : Verdict → Option (List Word) → Option (List (List ℕ)) → Type 0
FindsCycle (No found) (Some words) (Some names) = Unit {0}
FindsCycle verdict words cycle = ⊥

module _ (law : FirstCycleCannotBeMended) (files : Told) (request : Request) where
  module _ (ready : Ready) (is_ready : ready_for files None request ≡ Ok ready) where
    cycle_is : (x : Subject) (verdict : Verdict) (words : Option (List Word)) (cycle : Option (List (List ℕ))) → FindsCycle verdict words cycle → IsCycleFor x verdict words cycle
        → (names : List (List ℕ)) × IsFirstCycle (needs_graph x.graph (footprints x.setting)) (Some names)
    cycle_is x (No found) (Some words) (Some names) f is = (names, is)
    cycle_is x (No found) (Some words) None f is = absurd f
    cycle_is x (No found) None (Some names) f is = absurd f
    cycle_is x (No found) None None f is = absurd f
    cycle_is x (Yes certificate recipes reads) words cycle f is = absurd f

    of_judged : (first : First) → FindsCycle first.survey.verdict first.survey.words first.cycle → AnswersJudged GivesFirst ready (Ok first) → CannotBeMended files request
    of_judged first f (Err fault, s, (settled, e)) = absurd cc
    of_judged first f (Ok g, s, inr (fault, at, e)) = absurd cc
    of_judged first f (Ok g, s, inl (is_graph, is_subject, (other, is, e))) =
        let same : other ≡ first = cc in
        let is_first = subst (λ (k : First). IsFirst (subject_over ready g) k) same is in
        let found = cycle_is (subject_over ready g) first.survey.verdict first.survey.words first.cycle f is_first.1 in
        record {
          ready = ready;
          graph = g;
          is_ready = is_ready;
          is_selected = s;
          is_graph = is_graph;
          no_mending = λ h h_graph extends sound. law g h (footprints ready.setting) found.0 is_graph found.1 h_graph extends sound;
        }

  pub cycle_cannot_be_mended : (first : First) → IsFirstOf files request first → FindsCycle first.survey.verdict first.survey.words first.cycle → CannotBeMended files request
  cycle_cannot_be_mended first a f = drawn (ready_for files None request) refl a
    where
      drawn : (r : Result Ready Fault) → ready_for files None request ≡ r → Draws (AnswersJudged GivesFirst) r (Ok first) → CannotBeMended files request
      drawn (Ok ready) is d = of_judged ready is first f d
      drawn (Err fault) is e = absurd cc
