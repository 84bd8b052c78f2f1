-- A plan that shows what is found runs to its end.
use Rattle.std.proofs.Common.{◌≡◌, ◌≤◌, ℕ, Bool, true, false, not, cond, List, [], ◌∷◌, ◌++◌, append-nil, codes, length, map, Option, None, Some, Result, Ok, Err, inl, inr, refl, sym, ap, subst, ◌∙◌}
use Rattle.std.specs.Prelude.{◌||◌, find, is_some, take}
use Rattle.mk_graph.specs.Graph.{Graph, IsGraph, max_nodes}
use Rattle.mk_build.specs.Steps as model
use Rattle.mk_build.specs.Setting.{FileName}
use Rattle.mk_build.specs.World.{Disk, Idle, IsFirstDisk, IsOfWorld, World}
use Rattle.mk_infer.specs.Inference.{choice, chosen_commands}
use Rattle.mk_infer.specs.Laws as inferring
use Rattle.mk_infer.specs.Selection.{BuiltUnless, Selects, graph_of, is_lacking, lacking}
use Rattle.mk_infer.specs.There.{Exists}
use Rattle.mk_infer.specs.declared.fault.InferFault.{InferFault}
use Rattle.mk_find.specs.declared.finding.Finding.{Finding}
use Rattle.mk_find.specs.Findings.{AreFindings}
use Rattle.mk_lines.specs.Names.{has_name}
use Rattle.mk_lines.specs.Paths.{is_plain_path}
use Rattle.mk_world_plan.specs.PlanLaws.{CanBeWritten, EachRunIsAsWritten, HasARun, LegalStepsAreReadable, WrittenHistoryRuns, WrittenTextIsRead, plan_of_steps}
use Rattle.mk_world_plan.specs.PlanText.{plan_text}
use Rattle.mk_world_plan.specs.Spelling.{PlainPathsAreWellSpelled}
use Rattle.mk_read.specs.Files.{Told}
use Rattle.mk_read.specs.Reading.{Makefile}
use Rattle.mk_find_evidence.specs.Numbers.{HaveSmallNumbers}
use Rattle.mk_find_evidence.proofs.RunsAsPlan.{legal_of, readable}
use Rattle.mk_find_evidence.specs.Shown.{Shows}
use Rattle.mk_world.specs.declared.plan.PlanFault.{PlanFault}
use Rattle.mk_world.specs.declared.plan.PlanLine.{PlanLine}
use Rattle.mk_world.specs.declared.fault.StepFault.{StepFault}
use Rattle.mk_world.specs.NamedStep.{Step}
use Rattle.mk_world_plan.specs.PlanReading.{lines_of, max_lines, plan_of}
use Rattle.mk_world.specs.RunLaws.{AreLegal}
use Rattle.mk_world.specs.Running.{RunsTo, Stage, stage_of}
use Rattle.mk_world.specs.State.{Scene, State, disk_of, setting, setting_of, world_in, world_of}
use Rattle.mk_world.specs.Steps.{IsFirstOf, step_of}
use Rattle.mk_core_text.specs.declared.fault.Fault.{Fault}
use Rattle.mk_core.specs.declared.request.Request.{Request}
use Rattle.mk_core.specs.Answer.{Draws, failing_of}
use Rattle.mk_core_evidence.specs.EvidenceAnswer.{AnswersEvidence, IsNumbered}
use Rattle.mk_core_laws.specs.EvidenceLaws.{EvidenceRuns, EvidenceRunsAsWritten, NamesOfWorldArePlain, RunsToItsEnd}
use Rattle.mk_core.specs.FileText.{text_of}
use Rattle.mk_core.specs.Judging.{recorded, subject_over}
use Rattle.mk_core.specs.Ready.{Ready, exists, ready_for}
use Rattle.mk_core.specs.Selected.{DrawsGraph}
use Rattle.mk_core.specs.Simulation.{Simulation, ShowsRun, end_text, left_text, run_text}
use Rattle.mk_core.specs.SimulationAnswer.{AnswersSimulation, RunsLines, RunsText}
use Rattle.mk_core_laws.proofs.FirstDisk.{first_disk, is_first}
use Rattle.mk_core_laws.proofs.OneAnswer.{drawn}
use Rattle.mk_core_laws.proofs.OneVerdict.{is_settled, not_failing}

-- ---- what is selected where no name without a rule is given is selected where each is

module _ (m : Makefile) (e : Exists) where
  abbrev strict : Exists
  strict = record e { any_leaf = false }

  lacks_by : (name : List ℕ) → is_lacking m strict name ≡ false → is_lacking m e name ≡ false
  unfolding choice
  lacks_by name h = at e.any_leaf _ h
    where
      at : (leaf other : Bool) → not other ≡ false → not (leaf || other) ≡ false
      at true other k = refl
      at false other k = k

  none_lacks : (names : List (List ℕ)) → find (is_lacking m strict) names ≡ None → find (is_lacking m e) names ≡ None
  none_lacks [] h = refl
  none_lacks (name ∷ names) h = at (is_lacking m strict name) (is_lacking m e name) (lacks_by name) h (none_lacks names)
    where
      at : (lacks here : Bool) → (lacks ≡ false → here ≡ false) → cond lacks (Some name) (find (is_lacking m strict) names) ≡ None → (find (is_lacking m strict) names ≡ None → find (is_lacking m e) names ≡ None) → cond here (Some name) (find (is_lacking m e) names) ≡ None
      at true here is k deeper = absurd cc
      at false true is k deeper = let e = is refl in absurd cc
      at false false is k deeper = deeper k

  selected_too : (goals : List (List ℕ)) (g : Graph) → Selects m strict goals (Ok g) → Selects m e goals (Ok g)
  unfolding choice chosen_commands
  selected_too goals g (all, walk, built) = (all, walk, at (lacking m strict all) (lacking m e all) (none_lacks (take max_nodes all)) built)
    where
      at : (o p : Option (List ℕ)) → (o ≡ None → p ≡ None) → BuiltUnless m o (graph_of m strict goals all) (Ok g) → BuiltUnless m p (graph_of m e goals all) (Ok g)
      at None None none b = b
      at None (Some name) none b = let e = none refl in absurd cc
      at (Some name) p none b = absurd cc

-- ---- the answer to a request for a plan

-- what stands behind a plan that is answered
record Answered (ready : Ready) (number : ℕ) (plan : List ℕ) : Type 0 where
  g : Graph
  is_graph : IsGraph g
  selected : Selects ready.makefile (recorded ready) ready.goals (Ok g)
  found : List Finding
  are_findings : AreFindings (subject_over ready g) found
  finding : Finding
  numbered : IsNumbered found number finding
  steps : List Step
  shows : Shows (subject_over ready g) finding steps
  small : HaveSmallNumbers steps
  is : plan ≡ plan_text g steps

of_evidence : (ready : Ready) (number : ℕ) (plan : List ℕ) → AnswersEvidence number ready (Ok (Some plan)) → Answered ready number plan
of_evidence ready number plan (Err fault, s, (w, e)) = absurd cc
of_evidence ready number plan (Ok g, s, inr (fault, first, e)) = absurd cc
of_evidence ready number plan (Ok g, s, inl (is_graph, is_subject, (None, told, e))) = absurd cc
of_evidence ready number plan (Ok g, s, inl (is_graph, is_subject, (Some text, (found, are, finding, numbered, (steps, shows, small, is)), e))) =
    let same : plan ≡ text = cc in
    record {
      g = g;
      is_graph = is_graph;
      selected = s;
      found = found;
      are_findings = are;
      finding = finding;
      numbered = numbered;
      steps = steps;
      shows = shows;
      small = small;
      is = same ∙ is;
    }

-- ---- the run

module _ (plain : NamesOfWorldArePlain) (files : Told) (request : Request) (ready : Ready) (is_ready : ready_for files None request ≡ Ok ready) (number : ℕ) (plan : List ℕ) (a : Answered ready number plan) (few : length (lines_of plan) ≤ max_lines) where
  legal_from : (d : Disk) → IsFirstDisk a.g (setting_of ready.setting) d → model.IsLegal a.g (setting_of ready.setting) (Idle d) (map (step_of a.g) a.steps)
  legal_from d first = legal_of (subject_over ready a.g) d a.finding (map (step_of a.g) a.steps) (a.shows d first)

  few_lines : length (lines_of (plan_text a.g a.steps)) ≤ max_lines
  few_lines = subst (λ p. length (lines_of p) ≤ max_lines) a.is few

  -- the plan is read
  is_read : PlainPathsAreWellSpelled → LegalStepsAreReadable → WrittenTextIsRead → plan_of plan ≡ Ok (plan_of_steps a.g a.steps)
  is_read spelled readable_steps read =
      let s = setting_of ready.setting in
      let legal = legal_from (first_disk a.g s) (is_first a.g s) in
      let each = readable_steps a.g s (first_disk a.g s) a.steps a.is_graph (λ f of. spelled f (plain files request ready a.g is_ready a.selected f of)) legal in
      ap plan_of a.is ∙ read a.g a.steps (λ step h. each step h (readable step (a.small step h))) few_lines

  -- it can be written from the first world
  module _ (first : State) (is : IsFirstOf a.g ready.setting first) where
    at_rest : world_of first ≡ Idle (disk_of first.disk)
    at_rest = ap (world_in first.scene first.disk) is.idle

    over : (P : Scene → Type 0) → P (record { graph = a.g; recorded = ready.setting }) → P first.scene
    over P p = subst P (sym is.scene) p

    own_first : IsFirstOf first.scene.graph first.scene.recorded first
    own_first = over (λ (k : Scene). IsFirstOf k.graph k.recorded first) is

    own_graph : IsGraph first.scene.graph
    own_graph = over (λ (k : Scene). IsGraph k.graph) a.is_graph

    legal : AreLegal first a.steps
    legal =
        let base = subst (λ (w : World). model.IsLegal a.g (setting_of ready.setting) w (map (step_of a.g) a.steps)) (sym at_rest) (legal_from (disk_of first.disk) is.first) in
        over (λ (k : Scene). model.IsLegal k.graph (setting k) (world_of first) (map (step_of k.graph) a.steps)) base

    paths : (f : FileName) → has_name first.disk.names f ≡ true → is_plain_path f ≡ true
    paths f h =
        let of : IsOfWorld a.g (setting_of ready.setting) f = subst (λ (k : Scene). IsOfWorld k.graph (setting k) f) is.scene ((is.names.all f).0 h) in
        plain files request ready a.g is_ready a.selected f of

    can : CanBeWritten first a.steps
    can = record {
      legal = legal;
      paths = paths;
      numbers = λ step h. readable step (a.small step h);
      few = over (λ (k : Scene). length (lines_of (plan_text k.graph a.steps)) ≤ max_lines) few_lines;
    }

    same_text : plan_of (plan_text first.scene.graph a.steps) ≡ plan_of plan
    same_text = over (λ (k : Scene). plan_of (plan_text k.graph a.steps) ≡ plan_of plan) (ap plan_of (sym a.is))

  -- the text of a run in which no line was refused
  ends_well : (shown : Simulation) (printed : List ℕ) (stage : Stage) (left : World) → shown.printed ≡ printed → shown.refused ≡ None → shown.left ≡ left_text stage None left → run_text shown ≡ printed ++ codes "plan ok\n"
  ends_well shown printed stage left e d f = ap (λ (l : List ℕ). (shown.printed ++ end_text shown.refused) ++ l) f ∙ (append-nil (shown.printed ++ end_text shown.refused) ∙ (ap (λ (r : Option (ℕ × StepFault)). shown.printed ++ end_text r) d ∙ ap (λ (l : List ℕ). l ++ codes "plan ok\n") e))

  module _ (runs : WrittenHistoryRuns) where
    -- what is shown of a run of its lines
    shown_well : (lines : List PlanLine) (shown : Simulation) → plan_of plan ≡ Ok lines → ShowsRun a.g ready.setting lines shown → RunsToItsEnd shown
    shown_well lines shown is_read h =
        let went = runs h.first a.steps (own_first h.first h.is_first) (own_graph h.first h.is_first) (can h.first h.is_first) in
        let same : lines ≡ went.0 = let e = sym is_read ∙ (sym (same_text h.first h.is_first) ∙ went.1) in cc in
        let run = subst (λ (ls : List PlanLine). RunsTo (stage_of h.first) (world_of h.first) ls h.printed h.refused h.left) same h.runs in
        let ended = (went.3 h.printed h.refused h.left run).to_its_end in
        let refused = h.is_refused ∙ ended in
        record {
          printed = h.printed;
          text = ends_well shown h.printed (stage_of h.first) h.left h.is_printed refused
              (h.is_left ∙ ap (λ (r : Option (ℕ × StepFault)). left_text (stage_of h.first) r h.left) ended);
          not_refused = refused;
        }

    -- the runs of these lines from a first world
    as_written : (lines : List PlanLine) → plan_of plan ≡ Ok lines → (first : State) → IsFirstOf a.g ready.setting first → HasARun (stage_of first) (world_of first) lines × EachRunIsAsWritten (stage_of first) (world_of first) a.steps lines
    as_written lines is_read first is =
        let went = runs first a.steps (own_first first is) (own_graph first is) (can first is) in
        let same : went.0 ≡ lines = let e = sym went.1 ∙ (same_text first is ∙ is_read) in cc in
        subst (λ (ls : List PlanLine). HasARun (stage_of first) (world_of first) ls × EachRunIsAsWritten (stage_of first) (world_of first) a.steps ls) same (went.2, went.3)

    of_lines : (r : Result (List PlanLine) PlanFault) (answer : Result Simulation Fault) → plan_of plan ≡ r → (lines : List PlanLine) → plan_of plan ≡ Ok lines → RunsLines a.g ready.setting r answer → (shown : Simulation) × (answer ≡ Ok shown) × RunsToItsEnd shown
    of_lines (Ok lines) answer is other also (shown, h, e) = (shown, e, shown_well lines shown is h)
    of_lines (Err fault) answer is other also e = let k = sym is ∙ also in absurd cc

    of_graph : inferring.SelectionIsOne → (lines : List PlanLine) → plan_of plan ≡ Ok lines → (later : Told) (name : List ℕ) (answer : Result Simulation Fault) → text_of later None name ≡ Ok plan → failing_of answer ≡ None
        → AnswersSimulation later name ready answer → (shown : Simulation) × (answer ≡ Ok shown) × RunsToItsEnd shown
    of_graph one_selection lines read later name answer text none (selected, s, drawn_by) =
        let answers : Graph → Result Simulation Fault → Type 0 = λ g answer. RunsText g ready.setting (text_of later (failing_of answer) name) answer in
        let same : selected ≡ Ok a.g = one_selection ready.makefile (exists ready) ready.goals selected (Ok a.g) (is_settled answers selected answer drawn_by) tt s (selected_too ready.makefile (exists ready) ready.goals a.g a.selected) in
        let over_graph : RunsText a.g ready.setting (text_of later (failing_of answer) name) answer = subst (λ (r : Result Graph InferFault). DrawsGraph answers r answer) same drawn_by in
        let over_file : RunsText a.g ready.setting (text_of later None name) answer = subst (λ (failing : Option (List ℕ)). RunsText a.g ready.setting (text_of later failing name) answer) none over_graph in
        let over_text : RunsLines a.g ready.setting (plan_of plan) answer = subst (λ (r : Result (List ℕ) Fault). RunsText a.g ready.setting r answer) text over_file in
        of_lines (plan_of plan) answer refl lines read over_text

pub evidence_runs : NamesOfWorldArePlain → inferring.SelectionIsOne → PlainPathsAreWellSpelled → LegalStepsAreReadable → WrittenTextIsRead → WrittenHistoryRuns → EvidenceRuns
evidence_runs plain one_selection spelled readable_steps read runs files later request number plan name answer evidence few same text settled simulation =
    by (ready_for files None request) refl evidence
  where
    by : (r : Result Ready Fault) → ready_for files None request ≡ r → Draws (AnswersEvidence number) r (Ok (Some plan)) → (shown : Simulation) × (answer ≡ Ok shown) × RunsToItsEnd shown
    by (Err fault) is e = absurd cc
    by (Ok ready) is e =
        let a = of_evidence ready number plan e in
        let drawn_later : AnswersSimulation later name ready answer = subst (λ (r : Result Ready Fault). Draws (AnswersSimulation later name) r answer) (same ∙ is) (drawn later request (AnswersSimulation later name) answer settled simulation) in
        of_graph plain files request ready is number plan a few runs one_selection (plan_of_steps a.g a.steps) (is_read plain files request ready is number plan a few spelled readable_steps read) later name answer text (not_failing answer settled) drawn_later

pub evidence_runs_as_written : NamesOfWorldArePlain → PlainPathsAreWellSpelled → LegalStepsAreReadable → WrittenTextIsRead → WrittenHistoryRuns → EvidenceRunsAsWritten
evidence_runs_as_written plain spelled readable_steps read runs files request ready number plan is evidence few =
    let drawn_by : AnswersEvidence number ready (Ok (Some plan)) = subst (λ (r : Result Ready Fault). Draws (AnswersEvidence number) r (Ok (Some plan))) is evidence in
    let a = of_evidence ready number plan drawn_by in
    let lines_read = is_read plain files request ready is number plan a few spelled readable_steps read in
    record {
      graph = a.g;
      selected = a.selected;
      found = a.found;
      are_findings = a.are_findings;
      finding = a.finding;
      numbered = a.numbered;
      steps = a.steps;
      shows = a.shows;
      written = a.is;
      lines = plan_of_steps a.g a.steps;
      is_read = lines_read;
      runs = as_written plain files request ready is number plan a few runs (plan_of_steps a.g a.steps) lines_read;
    }
