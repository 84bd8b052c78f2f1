-- A coherent disk is as some runs left it, and a disk that some runs left is coherent.
use Rattle.std.proofs.Common.{◌≡◌, ℕ, ◌+◌, ◌*◌, ◌<◌, ◌≤◌, List, [], true, Option, Some, None, map, length, ◌⊎◌, inl, inr, ⊎_elim, refl, sym, ◌∙◌, ap, subst, arith}
use Rattle.std.proofs.lemmas.Bool.{cases_Bool, true≢false}
use Rattle.mk_lemmas.proofs.Members.{cases_Has}
use Rattle.mk_graph.proofs.Nodes.{recipe_is_node}
use Rattle.mk_graph.specs.Membership.{Has}
use Rattle.mk_graph.specs.Graph.{Graph, node, IsGraph}
use Rattle.mk_build.specs.Ways.{Carries}
use Rattle.mk_build.specs.Setting.{FileName, Setting, reads}
use Rattle.mk_build.specs.World.{Outcome, Disk, World, Idle, Busy, IsStartDisk, outcome}
use Rattle.mk_build.specs.Steps.{Step}
use Rattle.mk_build.specs.Runs.{WholeRun, Runs}
use Rattle.mk_build.specs.Right.{AreSound}
use Rattle.mk_build.specs.Coherent.{LastRun, IsBoundToRun, ContainsOrChanged}
use Rattle.mk_build.proofs.Writing.{map_same}
use Rattle.mk_build.proofs.Invariant.{RanWhole, WasThrough, AreOld, Fits}
use Rattle.mk_build.proofs.CoherentHistories.{start_is_coherent}
use Rattle.mk_build_behaviours.specs.Behaviours.{Behaviours, behaviour, path, result}
use Rattle.mk_build_behaviours.specs.StepsBy.{IsLegalBy, after_all_by, AreUndisturbed}
use Rattle.mk_build_behaviours.specs.CoherentBy.{without_reads, IsAsLeftBy, IsCoherentWhileBy, IsCoherentBy, HasCoherentDiskBy}
use Rattle.mk_build_behaviours.proofs.Known.{State, state, sees, IsLeft, found, known, with_known}
use Rattle.mk_build_behaviours.proofs.Keeping.{reads_none, AreKnown, IsKept, keep_all}

-- whether a disk is coherent doesn't depend on what footprints say is read
abbrev pub other_reads : (g : Graph) (s : Setting) (b : Behaviours) (reads : FileName → List FileName) (running : List ℕ) (d : Disk) → IsCoherentWhileBy g s b running d → IsCoherentWhileBy g (record s { reads = reads }) b running d
other_reads g s b reads running d is = record {
  last = is.last;
  stamped = is.stamped;
  came = is.came;
  left = λ t recipe stopped. ⊎_elim (λ bound. inl bound) (λ left. inr (record { holds = left.holds; during = left.during; saw = left.saw })) (is.left t recipe stopped);
  apart = is.apart;
}

module _ (g : Graph) (s : Setting) (b : Behaviours) (d : Disk) (is : IsCoherentBy g (without_reads s) b d) where
  -- what is known, over footprints without reads
  abbrev pub now : Disk
  now = with_known g (without_reads s) b d is

  -- a node is as its last run left it, or is bound to run if it has a recipe
  abbrev pub In : ℕ → Type 0
  In t = State g (without_reads s) b d is t

  abbrev pub place : (t : ℕ) → In t
  place t = state g (without_reads s) b d is t

  -- its last run, with numbers of steps that are in the order of the clocks
  abbrev pub run_at : ℕ → WholeRun
  run_at t = record { ended = (is.last t).ended; begin_step = 2 * (is.last t).began + 1; end_step = 2 * (is.last t).ended; saw = (is.last t).saw }

  -- its last begin: what is bound to run begins now
  abbrev pub began_in : (t : ℕ) → In t → ℕ
  began_in t (inl left) = (is.last t).began
  began_in t (inr bound) = d.clock

  abbrev pub step_in : (t : ℕ) → In t → ℕ
  step_in t (inl left) = 2 * (is.last t).began + 1
  step_in t (inr bound) = 2 * d.clock + 1

  -- and its last whole run, which only counts where it left the recipe as it is
  abbrev pub last_in : (t : ℕ) → In t → Option WholeRun
  last_in t (inl left) = Some (run_at t)
  last_in t (inr bound) = None

  -- the runs before this disk
  abbrev pub runs_before : Runs
  runs_before = record { steps = 2 * d.clock + 1; began = λ t. began_in t (place t); begin_step = λ t. step_in t (place t); last = λ t. last_in t (place t) }

  -- they have come
  began_came : (t : ℕ) (c : In t) → began_in t c ≤ d.clock
  began_came t (inl left) = let first = (is.came t).0 in let then = (is.came t).1 in omega arith
  began_came t (inr bound) = omega arith

  ended_came : (t : ℕ) (c : In t) (run : WholeRun) → last_in t c ≡ Some run → (run.ended ≤ d.clock) × (run.end_step < 2 * d.clock + 1)
  ended_came t (inl left) run e =
      let same : run_at t ≡ run = cc in
      let ended : (is.last t).ended ≡ run.ended = ap (λ (r : WholeRun). r.ended) same in
      let step : 2 * (is.last t).ended ≡ run.end_step = ap (λ (r : WholeRun). r.end_step) same in
      let came = (is.came t).1 in
      (omega arith, omega arith)
  ended_came t (inr bound) run e = absurd (cc)

  -- what it wrote is known
  known_in : (t : ℕ) (c : In t) → place t ≡ c → IsLeft g (without_reads s) b d is c → (node g t).recipe ≡ true → outcome now.known t (map (is.last t).saw (reads g (without_reads s) t)) ≡ Some (result (behaviour g b t) (is.last t).saw)
  known_in t c e left recipe =
      subst (λ (l : List (Option ℕ)). outcome now.known t l ≡ Some (result (behaviour g b t) (is.last t).saw))
      (map_same (sees g (without_reads s) b d is t) (is.last t).saw (reads g (without_reads s) t) (λ f read. absurd (reads_none g s t f read)))
      (found g (without_reads s) b d is (length g.nodes) t (recipe_is_node g t recipe) (subst (λ (k : In t). IsLeft g (without_reads s) b d is k) (sym e) left))

  -- what isn't bound to run ran whole
  whole_in : (t : ℕ) (c : In t) (q : Runs) → place t ≡ c → q.last t ≡ last_in t c → q.began t ≡ began_in t c → q.begin_step t ≡ step_in t c → (node g t).recipe ≡ true → IsBoundToRun g (without_reads s) now t ⊎ ((run : WholeRun) × RanWhole g (without_reads s) q run now t)
  whole_in t (inl left) q e same_last same_begin same_step recipe =
      let came = (is.came t).0 in inr (
        run_at t,
        record {
          is_last = same_last;
          begin_step = sym same_step;
          in_order = omega arith;
          whole = record {
            written = result (behaviour g b t) (is.last t).saw;
            known = known_in t (inl left) e tt recipe;
            holds = left.1.holds;
            early = λ f stamp wrote has. (left.1.during f stamp wrote has).1;
          };
          after_begin = λ f stamp wrote has. let late = (left.1.during f stamp wrote has).0 in omega arith;
        },
      )
  whole_in t (inr bound) q e same_last same_begin same_step recipe = inl (bound recipe)

  -- now all is through
  through_now : (t : ℕ) (c : In t) → WasThrough g (without_reads s) (last_in t c) [] now t d.clock (2 * d.clock + 1)
  through_now t c = record { stopped = λ h. h; early = λ f stamp wrote has. is.stamped f stamp has; ended = λ run e. (ended_came t c run e).0; end_step = λ run e. (ended_came t c run e).1 }

  -- what isn't bound to run was through once its last run had ended
  through_then : (t clock : ℕ) → IsAsLeftBy g (without_reads s) b (is.last t) d t → (is.last t).ended ≤ clock → WasThrough g (without_reads s) (Some (run_at t)) [] now t clock (2 * clock + 1)
  through_then t clock left early = record {
    stopped = λ h. h;
    early = λ f stamp wrote has. let late = (left.during f stamp wrote has).1 in omega arith;
    ended = λ run e. let same : run_at t ≡ run = cc in let ended : (is.last t).ended ≡ run.ended = ap (λ (r : WholeRun). r.ended) same in omega arith;
    end_step = λ run e. let same : run_at t ≡ run = cc in let step : 2 * (is.last t).ended ≡ run.end_step = ap (λ (r : WholeRun). r.end_step) same in omega arith;
  }

  -- of two of which the first writes a direct prerequisite of the second, one was through when the other last began
  apart_in : (o t : ℕ) (a : In o) (c : In t) (q : Runs) → q.last o ≡ last_in o a → q.last t ≡ last_in t c → Carries g s t o → WasThrough g (without_reads s) (last_in o a) [] now o (began_in t c) (step_in t c) ⊎ WasThrough g (without_reads s) (last_in t c) [] now t (began_in o a) (step_in o a) ⊎ AreOld d.clock q [] o t
  apart_in o t (inl first) (inl second) q last_o last_t before =
      ⊎_elim (λ early. inr (inr (record {
        first_stopped = λ h. h;
        second_stopped = λ h. h;
        in_order = λ a c is_a is_c. let one : Some (run_at o) ≡ Some a = sym last_o ∙ is_a in let two : Some (run_at t) ≡ Some c = sym last_t ∙ is_c in let same_a : run_at o ≡ a = cc in let same_c : run_at t ≡ c = cc in let a_ended : (is.last o).ended ≡ a.ended = ap (λ (r : WholeRun). r.ended) same_a in let c_ended : (is.last t).ended ≡ c.ended = ap (λ (r : WholeRun). r.ended) same_c in let came = (is.came t).1 in (omega arith, omega arith);
      }))) (λ early. inr (inl (through_then t (is.last o).began second.1 early))) (is.apart o t before)
  apart_in o t (inl first) (inr bound) q last_o last_t before = inl (through_now o (inl first))
  apart_in o t (inr bound) c q last_o last_t before = inr (inl (through_now t c))

  -- the disk fits these runs
  pub fits_before : Fits g (without_reads s) d.clock runs_before [] now
  fits_before = record {
    stamped = is.stamped;
    began = λ t. began_came t (place t);
    ended = λ t run e. (ended_came t (place t) run e).0;
    end_step = λ t run e. (ended_came t (place t) run e).1;
    whole = λ t recipe stopped. whole_in t (place t) runs_before refl refl refl refl recipe;
    saw = λ t run e f read. absurd (reads_none g s t f read);
    epoch_came = omega arith;
    apart = λ o t before. apart_in o t (place o) (place t) runs_before refl refl before;
  }

  -- what last runs saw and wrote
  pub saw_in : (t : ℕ) (c : In t) (run : WholeRun) → last_in t c ≡ Some run → (f : FileName) → Has (path (behaviour g b t) run.saw) f → ContainsOrChanged g s d f (run.saw f) run.ended
  saw_in t (inl left) run e f = let same : run_at t ≡ run = cc in subst (λ (r : WholeRun). Has (path (behaviour g b t) r.saw) f → ContainsOrChanged g s d f (r.saw f) r.ended) same (left.1.saw f)
  saw_in t (inr bound) run e f = absurd (cc)

  pub wrote_in : (t : ℕ) (c : In t) (run : WholeRun) → place t ≡ c → last_in t c ≡ Some run → outcome now.known t (map run.saw (reads g (without_reads s) t)) ≡ Some (result (behaviour g b t) run.saw)
  wrote_in t (inl left) run at e = let same : run_at t ≡ run = cc in subst (λ (r : WholeRun). outcome now.known t (map r.saw (reads g (without_reads s) t)) ≡ Some (result (behaviour g b t) r.saw)) same (known_in t (inl left) at tt left.0)
  wrote_in t (inr bound) run at e = absurd (cc)

  -- so it is as these runs left it
  abbrev pub coherent_is_kept : IsKept g s b (Idle d)
  coherent_is_kept = record {
    epoch = d.clock;
    runs = runs_before;
    start = 0;
    known = known g (without_reads s) b d is;
    is = fits_before;
    are = record { saw = λ t run recipe e f. saw_in t (place t) run e f; wrote = λ t run recipe e. wrote_in t (place t) run refl e };
  }

module _ (g : Graph) (s : Setting) (b : Behaviours) (epoch : ℕ) (p : Runs) (running : List ℕ) (d : Disk) (known : List Outcome) (fits : Fits g (without_reads s) epoch p running (record d { known = known })) (are : AreKnown g s b p known d) where
  -- a node ran whole, or is bound to run if it has a recipe that doesn't run
  abbrev pub Status : ℕ → Type 0
  Status t = ((run : WholeRun) × RanWhole g (without_reads s) p run (record d { known = known }) t) ⊎ ((node g t).recipe ≡ true → ¬ (Has running t) → IsBoundToRun g s d t)

  -- each node has a status
  status_with : (t : ℕ) → (node g t).recipe ≡ true → Has running t ⊎ (¬ (Has running t)) → Status t
  status_with t recipe (inl runs) = inr (λ e stopped. absurd (stopped runs))
  status_with t recipe (inr stopped) = ⊎_elim (λ bound. inr (λ e other. bound)) (λ ran. inl ran) (fits.whole t recipe stopped)

  pub status : (t : ℕ) → Status t
  status t = ⊎_elim (λ recipe. status_with t recipe (cases_Has running t)) (λ none. inr (λ recipe stopped. absurd (true≢false (sym recipe ∙ none)))) (cases_Bool (node g t).recipe)

  -- its last run, where that matters
  abbrev pub last_of : (t : ℕ) → Status t → LastRun
  last_of t (inl ran) = record { began = p.began t; ended = ran.0.ended; saw = ran.0.saw }
  last_of t (inr bound) = record { began = 0; ended = 0; saw = λ f. None }

  -- it has come
  pub came_of : (t : ℕ) (c : Status t) → ((last_of t c).began ≤ (last_of t c).ended) × ((last_of t c).ended ≤ d.clock)
  came_of t (inl ran) = (ran.1.in_order, fits.ended t ran.0 ran.1.is_last)
  came_of t (inr bound) = (omega arith, omega arith)

  -- a recipe is bound to run or is as this run left it
  pub left_of : (t : ℕ) (c : Status t) → (node g t).recipe ≡ true → ¬ (Has running t) → IsBoundToRun g s d t ⊎ IsAsLeftBy g s b (last_of t c) d t
  left_of t (inl ran) recipe stopped =
      let both : Some ran.1.whole.written ≡ Some (result (behaviour g b t) ran.0.saw) = sym ran.1.whole.known ∙ are.wrote t ran.0 recipe ran.1.is_last in
      let same : ran.1.whole.written ≡ result (behaviour g b t) ran.0.saw = cc in
      inr (record {
        holds = ran.1.whole.holds ∙ ap (λ (l : List ℕ). map (λ c. Some c) l) same;
        during = λ f stamp wrote has. (ran.1.after_begin f stamp wrote has, ran.1.whole.early f stamp wrote has);
        saw = are.saw t ran.0 recipe ran.1.is_last;
      })
  left_of t (inr bound) recipe stopped = inl (bound recipe stopped)

  -- of two of which the first writes a direct prerequisite of the second, the last run of the first ended no later, or began after the second
  pub apart_of : (o t : ℕ) (a : Status o) (c : Status t) → Carries g s t o → ((last_of o a).ended ≤ (last_of t c).ended) ⊎ ((last_of t c).ended ≤ (last_of o a).began)
  apart_of o t (inl first) (inl second) before =
      ⊎_elim (λ early. inl (let first_ended = early.ended first.0 first.1.is_last in let order = second.1.in_order in omega arith)) (λ rest. ⊎_elim (λ early. inr (early.ended second.0 second.1.is_last)) (λ old. inl (old.in_order first.0 second.0 first.1.is_last second.1.is_last).0) rest) (fits.apart o t before)
  apart_of o t (inl first) (inr bound) before = inr (omega arith)
  apart_of o t (inr bound) c before = inl (omega arith)

  -- the disk is coherent
  pub kept_is_coherent : IsCoherentWhileBy g s b running d
  kept_is_coherent = record {
    last = λ t. last_of t (status t);
    stamped = fits.stamped;
    came = λ t. came_of t (status t);
    left = λ t recipe stopped. left_of t (status t) recipe stopped;
    apart = λ o t before. apart_of o t (status o) (status t) before;
  }

-- the disk of a world is coherent
pub coherent_in : (g : Graph) (s : Setting) (b : Behaviours) (w : World) → IsKept g s b w → HasCoherentDiskBy g s b w
coherent_in g s b (Idle d) kept = kept_is_coherent g s b kept.epoch kept.runs [] d kept.known kept.is kept.are
coherent_in g s b (Busy m d) kept = kept_is_coherent g s b kept.epoch kept.runs m.running d kept.known kept.is.fits kept.are

-- undisturbed traces keep a coherent disk coherent
pub coherence_is_kept : (g : Graph) (s : Setting) (b : Behaviours) → IsGraph g → AreSound g (without_reads s) → (d : Disk) (steps : List Step) → IsCoherentBy g s b d → IsLegalBy g s b (Idle d) steps → AreUndisturbed g s b (Idle d) steps → HasCoherentDiskBy g s b (after_all_by g s (Idle d) steps)
coherence_is_kept g s b graph sound d steps is legal still =
    coherent_in g s b (after_all_by g s (Idle d) steps) (keep_all g s b graph sound (Idle d) steps (coherent_is_kept g s b d (other_reads g s b (λ target. []) [] d is)) legal still)

-- where no outcome is known, none is found
pub unknown : (outcomes : List Outcome) (t : ℕ) (seen : List (Option ℕ)) (w : List ℕ) → outcomes ≡ [] → ¬ (outcome outcomes t seen ≡ Some w)
unknown outcomes t seen w none e = let gone : None ≡ Some w = subst (λ (l : List Outcome). outcome l t seen ≡ Some w) none e in cc

-- a start disk is coherent
pub start_is_coherent_by : (g : Graph) (s : Setting) (b : Behaviours) → AreSound g (without_reads s) → (d : Disk) → IsStartDisk s d → IsCoherentBy g s b d
start_is_coherent_by g s b sound d start =
    let today = start_is_coherent g (without_reads s) sound d (record { nothing_known = start.nothing_known; given = start.given; stamped = start.stamped }) in
    record {
      last = today.last;
      stamped = today.stamped;
      came = today.came;
      left = λ t recipe stopped. ⊎_elim (λ bound. inl bound) (λ left. absurd (unknown d.known t (map (today.last t).saw (reads g (without_reads s) t)) left.0.written start.nothing_known left.0.known)) (today.left t recipe stopped);
      apart = today.apart;
    }

-- so the disk that one leaves is coherent
pub left_is_coherent : (g : Graph) (s : Setting) (b : Behaviours) → IsGraph g → AreSound g (without_reads s) → (d end : Disk) (past : List Step) → IsCoherentBy g s b d → IsLegalBy g s b (Idle d) past → AreUndisturbed g s b (Idle d) past → after_all_by g s (Idle d) past ≡ Idle end → IsCoherentBy g s b end
left_is_coherent g s b graph sound d end past is legal still leaves = subst (λ (w : World). HasCoherentDiskBy g s b w) leaves (coherence_is_kept g s b graph sound d past is legal still)
