-- The answer to a request for the run of a plan is one.
use Rattle.std.proofs.Common.{◌≡◌, ℕ, List, Option, None, Some, Result, Ok, Err, refl, sym, ap, subst, ◌∙◌}
use Rattle.std.specs.Option.{ok_or}
use Rattle.mk_graph.specs.Graph as value
use Rattle.mk_build.specs.World.{World}
use Rattle.mk_foot.specs.Setting.{Setting}
use Rattle.mk_infer.specs.Laws as inferring
use Rattle.mk_infer.specs.declared.fault.InferFault.{InferFault}
use Rattle.mk_read.specs.Files.{Told, text_at}
use Rattle.mk_world.specs.OneRun.{FirstWorldIsOne, RunIsOne}
use Rattle.mk_world_plan.specs.PlanReading.{plan_of}
use Rattle.mk_world.specs.Running.{Stage, RunsTo, stage_of}
use Rattle.mk_world.specs.State.{world_of}
use Rattle.mk_world.specs.declared.fault.StepFault.{StepFault}
use Rattle.mk_world.specs.declared.plan.PlanFault.{PlanFault}
use Rattle.mk_world.specs.declared.plan.PlanLine.{PlanLine}
use Rattle.mk_core_text.specs.declared.fault.Fault.{Fault}
use Rattle.mk_core_text.specs.declared.fault.Fault.TheVariants.{NoFile}
use Rattle.mk_core.specs.Answer.{Draws, failing_of}
use Rattle.mk_core.specs.FileText.{text_of}
use Rattle.mk_core_laws.specs.AnswerLaws.{SimulationIsOne}
use Rattle.mk_core.specs.Ready.{Ready, exists, ready_for}
use Rattle.mk_core.specs.Selected.{AnswersSelected, DrawsGraph}
use Rattle.mk_core.specs.Simulation.{Simulation, ShowsRun, left_text}
use Rattle.mk_core.specs.SimulationAnswer.{AnswersSimulation, RunsLines, RunsText}
use Rattle.mk_core_laws.proofs.OneAnswer.{drawn}
use Rattle.mk_core_laws.proofs.OneVerdict.{is_settled, not_failing}

-- what a command answers to the selected graph is one, where it is over each graph
module _ {A : Type 0} (one_selection : inferring.SelectionIsOne) (answers : Ready → value.Graph → Result A Fault → Type 0) (one other : Result A Fault) (same : (ready : Ready) (g : value.Graph) → answers ready g one → answers ready g other → one ≡ other) where
  over_graph : (ready : Ready) (selected : Result value.Graph InferFault) → DrawsGraph (answers ready) selected one → DrawsGraph (answers ready) selected other → one ≡ other
  over_graph ready (Ok g) a b = same ready g a b
  over_graph ready (Err fault) (w, e) (v, k) = e ∙ sym k

  selected_one : (ready : Ready) → AnswersSelected answers ready one → AnswersSelected answers ready other → one ≡ other
  selected_one ready (selected, s, a) (again, t, b) =
      let is = one_selection ready.makefile (exists ready) ready.goals again selected (is_settled (answers ready) again other b) (is_settled (answers ready) selected one a) t s in
      over_graph ready selected a (subst (λ (r : Result value.Graph InferFault). DrawsGraph (answers ready) r other) is b)

  ready_one : (r : Result Ready Fault) → Draws (AnswersSelected answers) r one → Draws (AnswersSelected answers) r other → one ≡ other
  ready_one (Err fault) d h = d ∙ sym h
  ready_one (Ok ready) d h = selected_one ready d h

-- what is shown of a run is one
shown_same : (text also : List ℕ) (refused again : Option (ℕ × StepFault)) (left other : List ℕ) → text ≡ also → refused ≡ again → left ≡ other → (let one : Simulation = record { printed = text; refused = refused; left = left } in one ≡ record { printed = also; refused = again; left = other })
shown_same text also refused again left other e k l = rw (e, k, l) refl

ends_same : (stage : Stage) (refused again : Option (ℕ × StepFault)) (left other : World) → refused ≡ again → left ≡ other → left_text stage refused left ≡ left_text stage again other
ends_same stage refused again left other k l = rw (k, l) refl

module _ (one_world : FirstWorldIsOne) (one_run : RunIsOne) (g : value.Graph) (s : Setting) where
  run_shown : (lines : List PlanLine) (a b : Simulation) → ShowsRun g s lines a → ShowsRun g s lines b → a ≡ b
  run_shown lines a b h j =
      let first = one_world g s j.first h.first j.is_first h.is_first in
      let again = subst (λ (w : World). RunsTo (stage_of h.first) w lines j.printed j.refused j.left) first.1
      (subst (λ (stage : Stage). RunsTo stage (world_of j.first) lines j.printed j.refused j.left) first.0 j.runs) in
      let same = one_run (stage_of h.first) (world_of h.first) lines h.printed j.printed h.refused j.refused h.left j.left h.runs again in
      let ends = ends_same (stage_of h.first) h.refused j.refused h.left j.left same.1 same.2 in
      let stages = ap (λ (stage : Stage). left_text stage j.refused j.left) (sym first.0) in
      shown_same a.printed b.printed a.refused b.refused a.left b.left (h.is_printed ∙ (same.0 ∙ sym j.is_printed)) (h.is_refused ∙ (same.1 ∙ sym j.is_refused)) (h.is_left ∙ (ends ∙ (stages ∙ sym j.is_left)))

  lines_one : (read : Result (List PlanLine) PlanFault) (one other : Result Simulation Fault) → RunsLines g s read one → RunsLines g s read other → one ≡ other
  lines_one (Ok lines) one other (a, h, e) (b, j, k) = e ∙ (ap (λ (shown : Simulation). Ok shown) (run_shown lines a b h j) ∙ sym k)
  lines_one (Err fault) one other e k = e ∙ sym k

  text_one : (name : List ℕ) (text : Option (List ℕ)) (one other : Result Simulation Fault) → RunsText g s (ok_or text (NoFile name)) one → RunsText g s (ok_or text (NoFile name)) other → one ≡ other
  text_one name None one other e k = e ∙ sym k
  text_one name (Some bytes) one other h j = lines_one (plan_of bytes) one other h j

  file_one : (files : Told) (name : List ℕ) (one other : Result Simulation Fault) → failing_of one ≡ None → failing_of other ≡ None → RunsText g s (text_of files (failing_of one) name) one → RunsText g s (text_of files (failing_of other) name) other → one ≡ other
  file_one files name one other e k h j =
      text_one name (text_at files name) one other (subst (λ (failing : Option (List ℕ)). RunsText g s (text_of files failing name) one) e h)
      (subst (λ (failing : Option (List ℕ)). RunsText g s (text_of files failing name) other) k j)

pub simulation_is_one : FirstWorldIsOne → RunIsOne → inferring.SelectionIsOne → SimulationIsOne
simulation_is_one one_world one_run one_selection files request plan one other s t a b =
    let answers = λ (ready : Ready) (g : value.Graph) (answer : Result Simulation Fault). RunsText g ready.setting (text_of files (failing_of answer) plan) answer in
    ready_one one_selection answers one other (λ ready g. file_one one_world one_run g ready.setting files plan one other (not_failing one s) (not_failing other t)) (ready_for files None request)
    (drawn files request (AnswersSimulation files plan) one s a) (drawn files request (AnswersSimulation files plan) other t b)
