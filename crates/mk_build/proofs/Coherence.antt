-- A coherent disk fits runs before it, and a disk that fits the runs so far is coherent.
use Rattle.std.proofs.Common.{◌≡◌, ℕ, ◌+◌, ◌*◌, ◌<◌, ◌≤◌, List, [], true, Option, Some, None, ◌⊎◌, inl, inr, ⊎_elim, refl, sym, ◌∙◌, ap, subst, arith}
use Rattle.std.proofs.lemmas.Bool.{cases_Bool, true≢false}
use Rattle.mk_lemmas.proofs.Members.{cases_Has}
use Rattle.mk_graph.specs.Membership.{Has}
use Rattle.mk_graph.specs.Graph.{Graph, node}
use Rattle.mk_build.specs.Ways.{Carries}
use Rattle.mk_build.specs.Setting.{Setting}
use Rattle.mk_build.specs.World.{Disk}
use Rattle.mk_build.specs.Runs.{WholeRun, Runs}
use Rattle.mk_build.specs.Coherent.{LastRun, IsBoundToRun, IsAsLeft, IsCoherentWhile, IsCoherent}
use Rattle.mk_build.proofs.Invariant.{RanWhole, WasThrough, SawOrLater, AreOld, Fits}

module _ (g : Graph) (s : Setting) (d : Disk) (is : IsCoherent g s d) where
  -- a node is as its last run left it, or is bound to run if it has a recipe
  abbrev State : ℕ → Type 0
  State t = IsAsLeft g s (is.last t) d t ⊎ ((node g t).recipe ≡ true → IsBoundToRun g s d t)

  -- each node is in a state
  state : (t : ℕ) → State t
  state t =
      ⊎_elim (λ recipe. ⊎_elim (λ bound. inr (λ e. bound)) (λ left. inl left) (is.left t recipe (λ h. h))) (λ none. inr (λ recipe. absurd (true≢false (sym recipe ∙ none)))) (cases_Bool (node g t).recipe)

  -- its last run, with numbers of steps that are in the order of the clocks
  abbrev run_at : ℕ → WholeRun
  run_at t = record { ended = (is.last t).ended; begin_step = 2 * (is.last t).began + 1; end_step = 2 * (is.last t).ended; saw = (is.last t).saw }

  -- its last begin: what is bound to run begins now
  abbrev began_in : (t : ℕ) → State t → ℕ
  began_in t (inl left) = (is.last t).began
  began_in t (inr bound) = d.clock

  abbrev step_in : (t : ℕ) → State t → ℕ
  step_in t (inl left) = 2 * (is.last t).began + 1
  step_in t (inr bound) = 2 * d.clock + 1

  -- and its last whole run, which only counts where it left the recipe as it is
  abbrev last_in : (t : ℕ) → State t → Option WholeRun
  last_in t (inl left) = Some (run_at t)
  last_in t (inr bound) = None

  -- the runs before this disk
  pub runs_before : Runs
  runs_before = record { steps = 2 * d.clock + 1; began = λ t. began_in t (state t); begin_step = λ t. step_in t (state t); last = λ t. last_in t (state t) }

  -- they have come
  began_came : (t : ℕ) (c : State t) → began_in t c ≤ d.clock
  began_came t (inl left) = let first = (is.came t).0 in let then = (is.came t).1 in omega arith
  began_came t (inr bound) = omega arith

  ended_came : (t : ℕ) (c : State t) (run : WholeRun) → last_in t c ≡ Some run → (run.ended ≤ d.clock) × (run.end_step < 2 * d.clock + 1)
  ended_came t (inl left) run e =
      let same : run_at t ≡ run = cc in
      let ended : (is.last t).ended ≡ run.ended = ap (λ (r : WholeRun). r.ended) same in
      let step : 2 * (is.last t).ended ≡ run.end_step = ap (λ (r : WholeRun). r.end_step) same in
      let came = (is.came t).1 in
      (omega arith, omega arith)
  ended_came t (inr bound) run e = absurd (cc)

  -- what isn't bound to run ran whole
  whole_in : (t : ℕ) (c : State t) (q : Runs) → q.last t ≡ last_in t c → q.began t ≡ began_in t c → q.begin_step t ≡ step_in t c → (node g t).recipe ≡ true → IsBoundToRun g s d t ⊎ ((run : WholeRun) × RanWhole g s q run d t)
  whole_in t (inl left) q same_last same_begin same_step recipe =
      let came = (is.came t).0 in inr (
        run_at t,
        record {
          is_last = same_last;
          begin_step = sym same_step;
          in_order = omega arith;
          whole = record {
            written = left.0.written;
            known = left.0.known;
            holds = left.0.holds;
            early = λ f stamp wrote has. (left.0.during f stamp wrote has).1;
          };
          after_begin = λ f stamp wrote has. let late = (left.0.during f stamp wrote has).0 in omega arith;
        },
      )
  whole_in t (inr bound) q same_last same_begin same_step recipe = inl (bound recipe)

  -- what its run saw is there, or has changed
  saw_in : (t : ℕ) (c : State t) (run : WholeRun) → last_in t c ≡ Some run → SawOrLater g s run d t
  saw_in t (inl left) run e = let same : run_at t ≡ run = cc in subst (λ (r : WholeRun). SawOrLater g s r d t) same left.1
  saw_in t (inr bound) run e = absurd (cc)

  -- now all is through
  through_now : (t : ℕ) (c : State t) → WasThrough g s (last_in t c) [] d t d.clock (2 * d.clock + 1)
  through_now t c = record { stopped = λ h. h; early = λ f stamp wrote has. is.stamped f stamp has; ended = λ run e. (ended_came t c run e).0; end_step = λ run e. (ended_came t c run e).1 }

  -- what isn't bound to run was through once its last run had ended
  through_then : (t clock : ℕ) → IsAsLeft g s (is.last t) d t → (is.last t).ended ≤ clock → WasThrough g s (Some (run_at t)) [] d t clock (2 * clock + 1)
  through_then t clock left early = record {
    stopped = λ h. h;
    early = λ f stamp wrote has. let late = (left.0.during f stamp wrote has).1 in omega arith;
    ended = λ run e. let same : run_at t ≡ run = cc in let ended : (is.last t).ended ≡ run.ended = ap (λ (r : WholeRun). r.ended) same in omega arith;
    end_step = λ run e. let same : run_at t ≡ run = cc in let step : 2 * (is.last t).ended ≡ run.end_step = ap (λ (r : WholeRun). r.end_step) same in omega arith;
  }

  -- of two of which the first writes a direct prerequisite of the second, one was through when the other last began
  apart_in : (o t : ℕ) (a : State o) (b : State t) (q : Runs) → q.last o ≡ last_in o a → q.last t ≡ last_in t b → Carries g s t o → WasThrough g s (last_in o a) [] d o (began_in t b) (step_in t b) ⊎ WasThrough g s (last_in t b) [] d t (began_in o a) (step_in o a) ⊎ AreOld d.clock q [] o t
  apart_in o t (inl first) (inl second) q last_o last_t before =
      ⊎_elim (λ early. inr (inr (record {
        first_stopped = λ h. h;
        second_stopped = λ h. h;
        in_order = λ a b is_a is_b. let one : Some (run_at o) ≡ Some a = sym last_o ∙ is_a in let two : Some (run_at t) ≡ Some b = sym last_t ∙ is_b in let same_a : run_at o ≡ a = cc in let same_b : run_at t ≡ b = cc in let a_ended : (is.last o).ended ≡ a.ended = ap (λ (r : WholeRun). r.ended) same_a in let b_ended : (is.last t).ended ≡ b.ended = ap (λ (r : WholeRun). r.ended) same_b in let came = (is.came t).1 in (omega arith, omega arith);
      }))) (λ early. inr (inl (through_then t (is.last o).began second early))) (is.apart o t before)
  apart_in o t (inl first) (inr bound) q last_o last_t before = inl (through_now o (inl first))
  apart_in o t (inr bound) b q last_o last_t before = inr (inl (through_now t b))

  -- a coherent disk fits these runs
  pub coherent_fits : Fits g s d.clock runs_before [] d
  unfolding runs_before
  coherent_fits = record {
    stamped = is.stamped;
    began = λ t. began_came t (state t);
    ended = λ t run e. (ended_came t (state t) run e).0;
    end_step = λ t run e. (ended_came t (state t) run e).1;
    whole = λ t recipe stopped. whole_in t (state t) runs_before refl refl refl recipe;
    saw = λ t run e. saw_in t (state t) run e;
    epoch_came = omega arith;
    apart = λ o t before. apart_in o t (state o) (state t) runs_before refl refl before;
  }

module _ (g : Graph) (s : Setting) (epoch : ℕ) (p : Runs) (running : List ℕ) (d : Disk) (fits : Fits g s epoch p running d) where
  -- a node ran whole, or is bound to run if it has a recipe that doesn't run
  abbrev Status : ℕ → Type 0
  Status t = ((run : WholeRun) × RanWhole g s p run d t) ⊎ ((node g t).recipe ≡ true → ¬ (Has running t) → IsBoundToRun g s d t)

  -- each node has a status
  status_with : (t : ℕ) → (node g t).recipe ≡ true → Has running t ⊎ (¬ (Has running t)) → Status t
  status_with t recipe (inl runs) = inr (λ e stopped. absurd (stopped runs))
  status_with t recipe (inr stopped) = ⊎_elim (λ bound. inr (λ e other. bound)) (λ ran. inl ran) (fits.whole t recipe stopped)

  status : (t : ℕ) → Status t
  status t = ⊎_elim (λ recipe. status_with t recipe (cases_Has running t)) (λ none. inr (λ recipe stopped. absurd (true≢false (sym recipe ∙ none)))) (cases_Bool (node g t).recipe)

  -- its last run, where that matters
  abbrev last_of : (t : ℕ) → Status t → LastRun
  last_of t (inl ran) = record { began = p.began t; ended = ran.0.ended; saw = ran.0.saw }
  last_of t (inr bound) = record { began = 0; ended = 0; saw = λ f. None }

  -- it has come
  came_of : (t : ℕ) (c : Status t) → ((last_of t c).began ≤ (last_of t c).ended) × ((last_of t c).ended ≤ d.clock)
  came_of t (inl ran) = (ran.1.in_order, fits.ended t ran.0 ran.1.is_last)
  came_of t (inr bound) = (omega arith, omega arith)

  -- a recipe is bound to run or is as this run left it
  left_of : (t : ℕ) (c : Status t) → (node g t).recipe ≡ true → ¬ (Has running t) → IsBoundToRun g s d t ⊎ IsAsLeft g s (last_of t c) d t
  left_of t (inl ran) recipe stopped =
      inr (record { written = ran.1.whole.written; known = ran.1.whole.known; holds = ran.1.whole.holds; during = λ f stamp wrote has. (ran.1.after_begin f stamp wrote has, ran.1.whole.early f stamp wrote has) }, λ f read. fits.saw t ran.0 ran.1.is_last f read)
  left_of t (inr bound) recipe stopped = inl (bound recipe stopped)

  -- of two of which the first writes a direct prerequisite of the second, the last run of the first ended no later, or began after the second
  apart_of : (o t : ℕ) (a : Status o) (b : Status t) → Carries g s t o → ((last_of o a).ended ≤ (last_of t b).ended) ⊎ ((last_of t b).ended ≤ (last_of o a).began)
  apart_of o t (inl first) (inl second) before =
      ⊎_elim (λ early. inl (let first_ended = early.ended first.0 first.1.is_last in let order = second.1.in_order in omega arith)) (λ rest. ⊎_elim (λ early. inr (early.ended second.0 second.1.is_last)) (λ old. inl (old.in_order first.0 second.0 first.1.is_last second.1.is_last).0) rest) (fits.apart o t before)
  apart_of o t (inl first) (inr bound) before = inr (omega arith)
  apart_of o t (inr bound) b before = inl (omega arith)

  -- the disk is coherent
  pub fits_coherent : IsCoherentWhile g s running d
  fits_coherent = record {
    last = λ t. last_of t (status t);
    stamped = fits.stamped;
    came = λ t. came_of t (status t);
    left = λ t recipe stopped. left_of t (status t) recipe stopped;
    apart = λ o t before. apart_of o t (status o) (status t) before;
  }
