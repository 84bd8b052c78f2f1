-- Each undisturbed step keeps a disk coherent. It follows a step of today's world over footprints without reads, in which the known outcome
-- of each recipe is the result of its last run.
use Rattle.std.proofs.Common.{◌≡◌, ℕ, ◌≤◌, List, [], ◌∷◌, Bool, true, false, Option, Some, map, ◌⊎◌, inl, inr, ⊎_elim, refl, sym, ◌∙◌, ap, subst, arith}
use Rattle.std.specs.Prelude.{◌+◌, IfSome, if◌then◌else◌}
use Rattle.std.specs.Option.{option_map}
use Rattle.std.proofs.lemmas.Bool.{cases_Bool, cases_eq, cond-true, cond-false}
use Rattle.mk_graph.specs.Membership.{Has}
use Rattle.mk_graph.specs.Graph.{Graph, node, IsGraph}
use Rattle.mk_build.specs.Setting.{FileName, Setting, name, reads, writes}
use Rattle.mk_build.specs.World.{File, Outcome, Disk, Making, World, Idle, Busy, disk_of, content, written, without, outcome}
use Rattle.mk_build.specs.Steps.{Step, Edit, Make, Begin, Look, Put, End, Break, Pass, Stop, EndMake, Allowed, after, MayEnd, IsLeftToRun, noted, finished, seen_by, put_by, HasPutAll, HasPutWhatIsKnown}
use Rattle.mk_build.specs.Runs.{WholeRun, Runs, run_of, runs_after}
use Rattle.mk_build.specs.Ways.{CanChange}
use Rattle.mk_build.specs.Right.{AreSound, HaveNoRace}
use Rattle.mk_build.specs.Coherent.{ContainsOrChanged}
use Rattle.mk_build.proofs.Changes.{cases_name, changed_there, changed_at_here, changed_at_there}
use Rattle.mk_build.proofs.Writing.{content_there, stamp_here, stamp_kept}
use Rattle.mk_build.proofs.Putting.{look_holds}
use Rattle.mk_build.proofs.Outcomes.{noted_new, noted_old, outcome_here}
use Rattle.mk_build.proofs.Removing.{gone_here, stays_there, none_still}
use Rattle.mk_build.proofs.Invariant.{Holds, IsInvariant, start_after}
use Rattle.mk_build.proofs.Histories.{step_keeps}
use Rattle.mk_build_behaviours.specs.Behaviours.{Behaviour, Behaviours, behaviour, path, result}
use Rattle.mk_build_behaviours.specs.StepsBy.{saw_in, AllowedBy, after_by, IsLegalBy, after_all_by, IsUndisturbed, AreUndisturbed}
use Rattle.mk_build_behaviours.specs.CoherentBy.{without_reads}
use Rattle.mk_build_behaviours.specs.Straight.{with_outcomes}
use Rattle.mk_build_behaviours.proofs.Known.{outcome_other}
use Rattle.mk_build_behaviours.proofs.OtherOutcomes.{holds_with}

-- a footprint without reads has none
pub reads_none : (g : Graph) (s : Setting) (t : ℕ) (f : FileName) → ¬ (Has (reads g (without_reads s) t) f)
reads_none g s t f h =
    ⊎_elim (λ e. subst (λ (l : List FileName). Has l f) (cond-true (node g t).recipe [] [] e) h) (λ e. subst (λ (l : List FileName). Has l f) (cond-false (node g t).recipe [] [] e) h) (cases_Bool (node g t).recipe)

-- so there is no race
pub none_races : (g : Graph) (s : Setting) → HaveNoRace g (without_reads s)
none_races g s t o f differ read wrote = absurd (reads_none g s t f read)

module _ (g : Graph) (s : Setting) (d : Disk) (f : FileName) where
  -- what was there or changed is there or changed after a writing
  pub changed_written : (c : ℕ) (h : FileName) (saw : Option ℕ) (clock : ℕ) → CanChange s f → clock ≤ d.clock → ContainsOrChanged g s d h saw clock → ContainsOrChanged g s (written d f c) h saw clock
  changed_written c h saw clock can came before =
      ⊎_elim (λ same. inr (inl (subst (λ (k : FileName). CanChange s k) same can, (d.clock + 1, stamp_here d f c h same, omega arith))))
      (λ differ. ⊎_elim (λ sees. inl (content_there d f c h differ ∙ sees))
      (λ changed. ⊎_elim
      (λ late. inr (inl (late.0, (late.1.0, stamp_kept d f c h late.1.0 differ late.1.1, late.1.2))))
      (λ missing. inr (inr (changed_there d.files f h (Some (record { content = c; stamp = d.clock + 1 })) differ ∙ missing.0, missing.1))) changed) before)
      (cases_name f h)

  -- and after a removal of what a recipe writes
  pub changed_without : (x : ℕ) → Has (writes g s x) f → (h : FileName) (saw : Option ℕ) (clock : ℕ) → ContainsOrChanged g s d h saw clock → ContainsOrChanged g s (without d f) h saw clock
  changed_without x wrote h saw clock before =
      ⊎_elim (λ same. inr (inr (gone_here d f h same, (x, subst (λ (k : FileName). Has (writes g s x) k) same wrote))))
      (λ differ. ⊎_elim (λ sees. inl (ap (λ (o : Option File). option_map (λ (file : File). file.content) o) (stays_there d f h differ) ∙ sees))
      (λ changed. ⊎_elim
      (λ late. inr (inl (late.0, (late.1.0, ap (λ (o : Option File). option_map (λ (file : File). file.stamp) o) (stays_there d f h differ) ∙ late.1.1, late.1.2))))
      (λ missing. inr (inr (none_still d f h missing.0, missing.1))) changed) before)
      (cases_name f h)

-- what last runs of recipes saw on their paths is there or has changed since, and what they wrote is known
pub record AreKnown (g : Graph) (s : Setting) (b : Behaviours) (p : Runs) (known : List Outcome) (d : Disk) : Type 0 where
  pub saw : (t : ℕ) (run : WholeRun) → (node g t).recipe ≡ true → p.last t ≡ Some run → (f : FileName) → Has (path (behaviour g b t) run.saw) f → ContainsOrChanged g s d f (run.saw f) run.ended
  pub wrote : (t : ℕ) (run : WholeRun) → (node g t).recipe ≡ true → p.last t ≡ Some run → outcome known t (map run.saw (reads g (without_reads s) t)) ≡ Some (result (behaviour g b t) run.saw)

-- a world is as some runs left it
pub record IsKept (g : Graph) (s : Setting) (b : Behaviours) (w : World) : Type 0 where
  pub epoch : ℕ
  pub runs : Runs
  pub start : ℕ
  pub known : List Outcome
  pub is : IsInvariant g (without_reads s) epoch runs start (with_outcomes w known)
  pub are : AreKnown g s b runs known (disk_of w)

module _ (g : Graph) (s : Setting) (b : Behaviours) (graph : IsGraph g) (sound : AreSound g (without_reads s)) where
  module _ (m : Making) (d : Disk) (kept : IsKept g s b (Busy m d)) (x : ℕ) (runs : Has m.running x) (has_put : HasPutAll g s m x) where
    -- its outcome
    abbrev pub own : Outcome
    own = record { recipe = x; seen = seen_by g (without_reads s) m x; written = put_by g (without_reads s) m x }

    -- noted before it ends
    abbrev pub before_end : Disk
    before_end = record d { known = own ∷ kept.known }

    pub holds_before : Holds g (without_reads s) kept.epoch kept.runs kept.start m before_end
    holds_before = holds_with g (without_reads s) kept.epoch kept.runs kept.start m d kept.known (own ∷ kept.known) (λ t stopped seen. outcome_other own kept.known t seen (λ same. stopped (subst (λ (k : ℕ). Has m.running k) same runs))) kept.is

    -- it agrees with what is known
    agrees : HasPutWhatIsKnown g (without_reads s) m before_end x
    agrees = subst (λ (o : Option (List ℕ)). IfSome o (λ known. known ≡ put_by g (without_reads s) m x)) (sym (outcome_here own kept.known)) refl

    -- so it may end
    pub may_end : MayEnd g (without_reads s) m before_end x
    may_end = record { runs = runs; seen = λ f read none. reads_none g s x f read; put = has_put; agrees = agrees }

    -- the runs after it
    abbrev pub runs_then : Runs
    runs_then = runs_after (Busy m before_end) (End x) kept.runs

    -- a last run is this one, or that of another recipe
    last_cases : (t : ℕ) (run : WholeRun) → runs_then.last t ≡ Some run → ((x ≡ t) × (run_of kept.runs m before_end x ≡ run)) ⊎ ((¬ (x ≡ t)) × (kept.runs.last t ≡ Some run))
    last_cases t run e =
        ⊎_elim (λ same. let both : Some (run_of kept.runs m before_end x) ≡ Some run = sym (changed_at_here kept.runs.last x t (Some (run_of kept.runs m before_end x)) same) ∙ e in inl (same, cc))
        (λ differ. inr (differ, sym (changed_at_there kept.runs.last x t (Some (run_of kept.runs m before_end x)) differ) ∙ e))
        (cases_eq x t)

    -- it ends by behaviours that are the same for the others
    module _ (after : Behaviours) (same : (t : ℕ) → (node g t).recipe ≡ true → ¬ (x ≡ t) → behaviour g b t ≡ behaviour g after t)
        (wrote : put_by g s m x ≡ result (behaviour g after x) (saw_in m x))
        (undisturbed : (f : FileName) → Has (path (behaviour g after x) (saw_in m x)) f → content d f ≡ saw_in m x f) where
      -- what another one saw and wrote
      saw_there : (t : ℕ) (run : WholeRun) → (node g t).recipe ≡ true → ¬ (x ≡ t) → kept.runs.last t ≡ Some run → (f : FileName) → Has (path (behaviour g after t) run.saw) f → ContainsOrChanged g s d f (run.saw f) run.ended
      saw_there t run recipe differ e f = subst (λ (k : Behaviour). Has (path k run.saw) f → ContainsOrChanged g s d f (run.saw f) run.ended) (same t recipe differ) (kept.are.saw t run recipe e f)

      wrote_there : (t : ℕ) (run : WholeRun) → (node g t).recipe ≡ true → ¬ (x ≡ t) → kept.runs.last t ≡ Some run → outcome kept.known t (map run.saw (reads g (without_reads s) t)) ≡ Some (result (behaviour g after t) run.saw)
      wrote_there t run recipe differ e = subst (λ (k : Behaviour). outcome kept.known t (map run.saw (reads g (without_reads s) t)) ≡ Some (result k run.saw)) (same t recipe differ) (kept.are.wrote t run recipe e)

      pub known_then : AreKnown g s after runs_then (noted before_end own).known d
      known_then = record {
        saw = λ t run recipe e f on. ⊎_elim
            (λ here. subst (λ (r : WholeRun). Has (path (behaviour g after t) r.saw) f → ContainsOrChanged g s d f (r.saw f) r.ended) here.1
            (subst (λ (k : ℕ). Has (path (behaviour g after k) (saw_in m x)) f → ContainsOrChanged g s d f (saw_in m x f) d.clock) here.0 (λ own_on. inl (undisturbed f own_on))) on)
            (λ there. saw_there t run recipe there.0 there.1 f on) (last_cases t run e);
        wrote = λ t run recipe e. ⊎_elim
            (λ here. subst (λ (r : WholeRun). outcome (noted before_end own).known t (map r.saw (reads g (without_reads s) t)) ≡ Some (result (behaviour g after t) r.saw)) here.1
            (subst (λ (k : ℕ). outcome (noted before_end own).known k (map (saw_in m x) (reads g (without_reads s) k)) ≡ Some (result (behaviour g after k) (saw_in m x))) here.0
            (noted_new before_end own agrees ∙ ap (λ (l : List ℕ). Some l) wrote)))
            (λ there. noted_old before_end own t (map run.saw (reads g (without_reads s) t)) (result (behaviour g after t) run.saw) (outcome_other own kept.known t (map run.saw (reads g (without_reads s) t)) there.0 ∙ wrote_there t run recipe there.0 there.1)) (last_cases t run e);
      }

      abbrev pub keeps_end : IsKept g s after (Busy (finished m x) d)
      keeps_end = record {
        epoch = kept.epoch;
        runs = runs_then;
        start = kept.start;
        known = (noted before_end own).known;
        is = step_keeps g (without_reads s) graph sound kept.epoch (none_races g s) kept.runs kept.start (Busy m before_end) (End x) holds_before may_end;
        are = known_then;
      }

  -- what the last runs saw stays over a writing and a removal
  pub are_written : (p : Runs) (known : List Outcome) (d : Disk) (f : FileName) (c : ℕ) → ((t : ℕ) (run : WholeRun) → p.last t ≡ Some run → run.ended ≤ d.clock) → CanChange s f → AreKnown g s b p known d → AreKnown g s b p known (written d f c)
  are_written p known d f c ended can are = record { saw = λ t run recipe e h on. changed_written g s d f c h (run.saw h) run.ended can (ended t run e) (are.saw t run recipe e h on); wrote = are.wrote }

  pub are_removed : (p : Runs) (known : List Outcome) (d : Disk) (x : ℕ) (removed : Bool) → IsLeftToRun g s d x removed → AreKnown g s b p known d → AreKnown g s b p known (if removed then without d (name g x) else d)
  are_removed p known d x true wrote are = record { saw = λ t run recipe e h on. changed_without g s d (name g x) x wrote h (run.saw h) run.ended (are.saw t run recipe e h on); wrote = are.wrote }
  are_removed p known d x false must are = are

  -- and over steps that end no recipe
  pub are_later : (p q : Runs) (known : List Outcome) (d : Disk) → ((t : ℕ) → q.last t ≡ p.last t) → AreKnown g s b p known d → AreKnown g s b q known d
  are_later p q known d same are = record { saw = λ t run recipe e. are.saw t run recipe (sym (same t) ∙ e); wrote = λ t run recipe e. are.wrote t run recipe (sym (same t) ∙ e) }

  -- today's invariant after a step of today's world
  pub next : (epoch : ℕ) (w : World) (p : Runs) (start : ℕ) (step : Step) → IsInvariant g (without_reads s) epoch p start w → Allowed g (without_reads s) w step → IsInvariant g (without_reads s) epoch (runs_after w step p) (start_after w step start) (after g (without_reads s) w step)
  next epoch w p start step is may = step_keeps g (without_reads s) graph sound epoch (none_races g s) p start w step is may

  -- each undisturbed step keeps a world
  abbrev pub keep : (w : World) (step : Step) → IsKept g s b w → AllowedBy g s b w step → IsUndisturbed g s b w step → IsKept g s b (after_by g s w step)
  keep (Idle d) (Edit f c) kept may still = record {
    epoch = kept.epoch;
    runs = runs_after (Idle d) (Edit f c) kept.runs;
    start = kept.start;
    known = kept.known;
    is = next kept.epoch (Idle (record d { known = kept.known })) kept.runs kept.start (Edit f c) kept.is may;
    are = are_later kept.runs (runs_after (Idle d) (Edit f c) kept.runs) kept.known (written d f c) (λ t. refl) (are_written kept.runs kept.known d f c kept.is.ended (inl may.0) kept.are);
  }
  keep (Idle d) (Make jobs goals) kept may still = record {
    epoch = kept.epoch;
    runs = runs_after (Idle d) (Make jobs goals) kept.runs;
    start = d.clock;
    known = kept.known;
    is = next kept.epoch (Idle (record d { known = kept.known })) kept.runs kept.start (Make jobs goals) kept.is may;
    are = are_later kept.runs (runs_after (Idle d) (Make jobs goals) kept.runs) kept.known d (λ t. refl) kept.are;
  }
  keep (Idle d) (Begin t) kept may still = absurd may
  keep (Idle d) (Look t f) kept may still = absurd may
  keep (Idle d) (Put t f c) kept may still = absurd may
  keep (Idle d) (End t) kept may still = absurd may
  keep (Idle d) (Break t removed) kept may still = absurd may
  keep (Idle d) (Pass t) kept may still = absurd may
  keep (Idle d) Stop kept may still = absurd may
  keep (Idle d) EndMake kept may still = absurd may
  keep (Busy m d) (Edit f c) kept may still = absurd may
  keep (Busy m d) (Make jobs goals) kept may still = absurd may
  keep (Busy m d) (Begin t) kept may still = record {
    epoch = kept.epoch;
    runs = runs_after (Busy m (record d { known = kept.known })) (Begin t) kept.runs;
    start = kept.start;
    known = kept.known;
    is = next kept.epoch (Busy m (record d { known = kept.known })) kept.runs kept.start (Begin t) kept.is may;
    are = are_later kept.runs (runs_after (Busy m (record d { known = kept.known })) (Begin t) kept.runs) kept.known d (λ t. refl) kept.are;
  }
  keep (Busy m d) (Look t f) kept may still = record {
    epoch = kept.epoch;
    runs = kept.runs;
    start = kept.start;
    known = kept.known;
    is = look_holds g (without_reads s) kept.epoch kept.runs kept.start m (record d { known = kept.known }) kept.is.fits kept.is.make t f;
    are = kept.are;
  }
  keep (Busy m d) (Put t f c) kept may still = record {
    epoch = kept.epoch;
    runs = runs_after (Busy m (record d { known = kept.known })) (Put t f c) kept.runs;
    start = kept.start;
    known = kept.known;
    is = next kept.epoch (Busy m (record d { known = kept.known })) kept.runs kept.start (Put t f c) kept.is may;
    are = are_later kept.runs (runs_after (Busy m (record d { known = kept.known })) (Put t f c) kept.runs) kept.known (written d f c) (λ t. refl) (are_written kept.runs kept.known d f c kept.is.fits.ended (inr (sound.not_given t f may.1)) kept.are);
  }
  keep (Busy m d) (End t) kept may still = keeps_end m d kept t may.runs may.put b (λ k recipe differ. refl) may.agrees still
  keep (Busy m d) (Break t removed) kept may still = record {
    epoch = kept.epoch;
    runs = runs_after (Busy m (record d { known = kept.known })) (Break t removed) kept.runs;
    start = kept.start;
    known = kept.known;
    is = broken removed may;
    are = are_later kept.runs (runs_after (Busy m (record d { known = kept.known })) (Break t removed) kept.runs) kept.known (if removed then without d (name g t) else d) (λ t. refl) (are_removed kept.runs kept.known d t removed may.1 kept.are);
  } where
    broken : (removed : Bool) → Has m.running t × IsLeftToRun g s d t removed → IsInvariant g (without_reads s) kept.epoch (runs_after (Busy m (record d { known = kept.known })) (Break t removed) kept.runs) kept.start (with_outcomes (after_by g s (Busy m d) (Break t removed)) kept.known)
    broken true may = next kept.epoch (Busy m (record d { known = kept.known })) kept.runs kept.start (Break t true) kept.is may
    broken false may = next kept.epoch (Busy m (record d { known = kept.known })) kept.runs kept.start (Break t false) kept.is may
  keep (Busy m d) (Pass n) kept may still = record {
    epoch = kept.epoch;
    runs = runs_after (Busy m (record d { known = kept.known })) (Pass n) kept.runs;
    start = kept.start;
    known = kept.known;
    is = next kept.epoch (Busy m (record d { known = kept.known })) kept.runs kept.start (Pass n) kept.is may;
    are = are_later kept.runs (runs_after (Busy m (record d { known = kept.known })) (Pass n) kept.runs) kept.known d (λ t. refl) kept.are;
  }
  keep (Busy m d) Stop kept may still = record {
    epoch = kept.epoch;
    runs = runs_after (Busy m (record d { known = kept.known })) Stop kept.runs;
    start = kept.start;
    known = kept.known;
    is = next kept.epoch (Busy m (record d { known = kept.known })) kept.runs kept.start Stop kept.is may;
    are = are_later kept.runs (runs_after (Busy m (record d { known = kept.known })) Stop kept.runs) kept.known d (λ t. refl) kept.are;
  }
  keep (Busy m d) EndMake kept may still = record {
    epoch = kept.epoch;
    runs = runs_after (Busy m (record d { known = kept.known })) EndMake kept.runs;
    start = kept.start;
    known = kept.known;
    is = next kept.epoch (Busy m (record d { known = kept.known })) kept.runs kept.start EndMake kept.is may;
    are = are_later kept.runs (runs_after (Busy m (record d { known = kept.known })) EndMake kept.runs) kept.known d (λ t. refl) kept.are;
  }

  -- so do undisturbed traces
  pub keep_all : (w : World) (steps : List Step) → IsKept g s b w → IsLegalBy g s b w steps → AreUndisturbed g s b w steps → IsKept g s b (after_all_by g s w steps)
  keep_all w [] kept legal still = kept
  keep_all w (first ∷ steps) kept legal still = keep_all (after_by g s w first) steps (keep w first kept legal.0 still.0) legal.1 still.1
