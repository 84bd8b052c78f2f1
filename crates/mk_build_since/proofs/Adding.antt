-- A disk on which no last runs overlap is coherent where prerequisites are added.
use Rattle.std.proofs.Common.{◌≡◌, ℕ, ◌≤◌, List, [], true, Option, None, Some, map, ◌⊎◌, inl, inr, ⊎_elim, sym, ◌∙◌, ap, subst, arith}
use Rattle.std.proofs.lemmas.Bool.{cases_Bool, cases_eq, cond-true, true≢false}
use Rattle.mk_graph.specs.Membership.{Has}
use Rattle.mk_graph.specs.Graph.{Graph, node, IsGraph}
use Rattle.mk_build.specs.Setting.{FileName, Setting, name, writes, IsAlwaysMade}
use Rattle.mk_build.specs.World.{Disk, Idle, IsStartDisk, content, HasStamp}
use Rattle.mk_build.specs.Steps.{Step, MustRun}
use Rattle.mk_build.specs.Right.{AreSound, HaveNoRace, HaveWays}
use Rattle.mk_build.specs.Coherent.{LastRun, IsMissing, IsBoundToRun, ContainsOrChanged}
use Rattle.mk_build.proofs.Sound.{writer_has_recipe}
use Rattle.mk_build_behaviours.specs.Behaviours.{Behaviours, path, result}
use Rattle.mk_build_behaviours.specs.BehaviourLaws.{AreWritesSound, StayPresent}
use Rattle.mk_build_behaviours.specs.CleanBy.{IsRightBy}
use Rattle.mk_build_behaviours.specs.CoherentBy.{with_reads, IsAsLeftBy, IsCoherentBy}
use Rattle.mk_build_behaviours.specs.Serial.{IsSerialBy}
use Rattle.mk_build_behaviours.specs.StepsBy.{IsLegalBy, after_all_by}
use Rattle.mk_build_behaviours.specs.Undisturbed.{HaveOneJob, ReadNoOwn}
use Rattle.mk_build_behaviours.proofs.Coherence.{other_reads}
use Rattle.mk_build_behaviours.proofs.OneJob.{one_job_from}
use Rattle.mk_build_behaviours.proofs.Serial.{one_job_stays_serial, start_is_serial}
use Rattle.mk_build_behaviours.proofs.Traces.{present_traces_are_right}
use Rattle.mk_build_since.specs.Adding.{AddsPrerequisites}

module _ (g h : Graph) (s : Setting) (b : Behaviours) (adds : AddsPrerequisites g h) (d : Disk) (is : IsSerialBy g s b d) where
  -- recipes of one target write the same
  same_writes : (k t : ℕ) → (node g k).recipe ≡ true → (node h t).recipe ≡ true → name h t ≡ name g k → writes h s t ≡ writes g s k
  same_writes k t was now same =
      cond-true (node h t).recipe (s.writes (name h t)) [] now
      ∙ (ap (λ (f : FileName). s.writes f) same
      ∙ sym (cond-true (node g k).recipe (s.writes (name g k)) [] was))

  -- what is missing there is missing here
  missing_too : (f : FileName) → IsMissing g s d f → IsMissing h s d f
  missing_too f missing =
      let was = writer_has_recipe g s missing.1.0 f missing.1.1 in
      let now = adds.there missing.1.0 was in
      (missing.0, (now.0, subst (λ (l : List FileName). Has l f) (sym (same_writes missing.1.0 now.0 was now.1 (sym now.2))) missing.1.1))

  -- so is what changed
  changed_too : (f : FileName) (saw : Option ℕ) (clock : ℕ) → ContainsOrChanged g s d f saw clock → ContainsOrChanged h s d f saw clock
  changed_too f saw clock before =
      ⊎_elim (λ same. inl same) (λ rest. inr (⊎_elim (λ late. inl late) (λ missing. inr (missing_too f missing)) rest)) before

  module _ (k t : ℕ) (was : (node g k).recipe ≡ true) (now : (node h t).recipe ≡ true) (same : name h t ≡ name g k) where
    -- what was always made is
    always_too : IsAlwaysMade g k → IsAlwaysMade h t
    always_too always =
        ⊎_elim (λ phony. inl (adds.phony k t (sym same) phony))
        (λ over. let edge = adds.edges k t over.0 (sym same) over.1 in inr (edge.0, edge.1, adds.phony over.0 edge.0 edge.2 over.2)) always

    -- what must run there must run here
    must_too : MustRun g d k → MustRun h d t
    must_too must =
        ⊎_elim (λ always. inl (always_too always))
        (λ rest. inr (⊎_elim (λ gone. inl (subst (λ (f : FileName). d.files f ≡ None) (sym same) gone))
        (λ newer. let edge = adds.edges k t newer.0 (sym same) newer.3 in
        inr (edge.0, newer.1, newer.2, edge.1, subst (λ (f : FileName). HasStamp d f newer.1) (sym same) newer.4, subst (λ (f : FileName). HasStamp d f newer.2) edge.2 newer.5, newer.6))
        rest)) must

    bound_too : IsBoundToRun g s d k → IsBoundToRun h s d t
    bound_too bound =
        ⊎_elim (λ must. inl (must_too must))
        (λ over. let edge = adds.edges k t over.0 (sym same) over.1 in inr (edge.0, edge.1, subst (λ (f : FileName). IsMissing h s d f) edge.2 (missing_too (name g over.0) over.2))) bound

    -- what is as a run left it there is so here
    left_too : (run : LastRun) → IsAsLeftBy g s b run d k → IsAsLeftBy h s b run d t
    left_too run left = record {
      holds = subst (λ (f : FileName). map (content d) (writes h s t) ≡ map (λ c. Some c) (result (b f) run.saw)) (sym same) (ap (map (content d)) (same_writes k t was now same) ∙ left.holds);
      during = λ f stamp wrote has. left.during f stamp (subst (λ (l : List FileName). Has l f) (same_writes k t was now same) wrote) has;
      saw = λ f on. changed_too f (run.saw f) run.ended (left.saw f (subst (λ (x : FileName). Has (path (b x) run.saw) f) same on));
    }

  -- the number of a recipe in the first graph
  abbrev Place : ℕ → Type 0
  Place t = ((k : ℕ) × ((node g k).recipe ≡ true) × (name h t ≡ name g k)) ⊎ (¬ ((node h t).recipe ≡ true))

  place : (t : ℕ) → Place t
  place t = ⊎_elim (λ recipe. inl (adds.back t recipe)) (λ none. inr (λ recipe. true≢false (sym recipe ∙ none))) (cases_Bool (node h t).recipe)

  -- its last run
  abbrev last_in : (t : ℕ) → Place t → LastRun
  last_in t (inl was) = is.coherent.last was.0
  last_in t (inr none) = record { began = 0; ended = 0; saw = λ f. None }

  came_in : (t : ℕ) (c : Place t) → ((last_in t c).began ≤ (last_in t c).ended) × ((last_in t c).ended ≤ d.clock)
  came_in t (inl was) = is.coherent.came was.0
  came_in t (inr none) = (omega arith, omega arith)

  left_in : (t : ℕ) (c : Place t) → (node h t).recipe ≡ true → IsBoundToRun h s d t ⊎ IsAsLeftBy h s b (last_in t c) d t
  left_in t (inl was) recipe =
      ⊎_elim (λ bound. inl (bound_too was.0 t was.1 recipe was.2 bound)) (λ left. inr (left_too was.0 t was.1 recipe was.2 (is.coherent.last was.0) left)) (is.coherent.left was.0 was.1 (λ runs. runs))
  left_in t (inr none) recipe = absurd (none recipe)

  -- of two of which the first writes a prerequisite of the second, the first one's last run ended no later, or began after the second
  apart_in : (o t : ℕ) (a : Place o) (c : Place t) → ((last_in o a).ended ≤ (last_in t c).ended) ⊎ ((last_in t c).ended ≤ (last_in o a).began)
  apart_in o t (inl first) (inl second) =
      ⊎_elim (λ one. inl (subst (λ (k : ℕ). (is.coherent.last first.0).ended ≤ (is.coherent.last k).ended) one (omega arith)))
      (λ differ. ⊎_elim (λ early. inl (let order = (is.coherent.came second.0).0 in omega arith)) (λ late. inr late) (is.apart first.0 second.0 differ))
      (cases_eq first.0 second.0)
  apart_in o t (inl first) (inr none) = inr (omega arith)
  apart_in o t (inr none) c = inl (omega arith)

  -- the disk is coherent for the graph with more prerequisites
  pub added_is_coherent : IsCoherentBy h s b d
  added_is_coherent = record {
    last = λ t. last_in t (place t);
    stamped = is.coherent.stamped;
    came = λ t. came_in t (place t);
    left = λ t recipe stopped. left_in t (place t) recipe;
    apart = λ o t carries. apart_in o t (place o) (place t);
  }

-- so prerequisites may be added after makes with one job
pub may_be_added : (g h : Graph) (s : Setting) (b : Behaviours) → IsGraph g → AreWritesSound g s → ReadNoOwn g s b → (start now : Disk) (past : List Step) → IsStartDisk s start → HaveOneJob past → IsLegalBy g s b (Idle start) past → after_all_by g s (Idle start) past ≡ Idle now → AddsPrerequisites g h → IsGraph h → (footprints : FileName → List FileName) → AreSound h (with_reads s footprints) → HaveNoRace h (with_reads s footprints) → HaveWays h (with_reads s footprints) → (steps : List Step) → IsLegalBy h (with_reads s footprints) b (Idle now) steps → StayPresent h (with_reads s footprints) b (Idle now) steps → IsRightBy h (with_reads s footprints) b (after_all_by h (with_reads s footprints) (Idle now) steps)
may_be_added g h s b graph writes_sound no_own start now past is_start one legal leaves adds more footprints sound no_race ways steps goes present =
    let serial : IsSerialBy g s b now = one_job_stays_serial g s b graph writes_sound start now past (start_is_serial g s b writes_sound start is_start) one legal (one_job_from g s b no_own start past one legal) leaves in
    let coherent : IsCoherentBy h (with_reads s footprints) b now = other_reads h s b footprints [] now (added_is_coherent g h s b adds now serial) in
    present_traces_are_right h (with_reads s footprints) b more sound no_race ways now coherent steps goes present
