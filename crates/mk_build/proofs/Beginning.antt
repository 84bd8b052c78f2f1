-- The invariant over the begin of a recipe, its end, and the passing of a node.
use Rattle.std.proofs.Common.{◌≡◌, ℕ, ◌∷◌, true, Option, Some, None, ◌⊎◌, inl, inr, ⊎_elim, refl, sym, ◌∙◌, ap, subst, arith}
use Rattle.std.proofs.lemmas.Bool.{cases_eq}
use Rattle.mk_graph.specs.Membership.{Has}
use Rattle.mk_graph.specs.Graph.{Graph, node, IsGraph}
use Rattle.mk_build.specs.Setting.{FileName, Setting}
use Rattle.mk_build.specs.World.{Disk, Making, Busy}
use Rattle.mk_graph.specs.Schedules.{Before}
use Rattle.mk_build.specs.Ways.{Carries}
use Rattle.mk_build.specs.Right.{AreSound}
use Rattle.mk_build.proofs.Sound.{carried_is_before}
use Rattle.mk_build.specs.Steps.{Begin, Ready, begun}
use Rattle.mk_build.specs.Runs.{Runs, runs_after}
use Rattle.mk_build.proofs.Changes.{changed_at_here, changed_at_there}
use Rattle.mk_build.proofs.InOrder.{runs_not_done, begun_in_order}
use Rattle.mk_build.proofs.Invariant.{WasThrough, AreOld, Fits, InMake, AreUpToDate, Holds, ran_moved, up_moved}

module _ (g : Graph) (s : Setting) (graph : IsGraph g) (sound : AreSound g s) (epoch : ℕ) (p : Runs) (start : ℕ) (m : Making) (d : Disk) (fits : Fits g s epoch p m.running d) (is : InMake g s epoch p start m d) (x : ℕ) (ready : Ready g m x) (recipe : (node g x).recipe ≡ true) where
  -- the runs after the begin
  abbrev now : Runs
  now = runs_after (Busy m d) (Begin x) p

  -- the begin of another recipe stays
  began_there : (t : ℕ) → ¬ (x ≡ t) → now.began t ≡ p.began t
  began_there t differ = changed_at_there p.began x t d.clock differ

  -- its own is now
  began_here : (t : ℕ) → x ≡ t → now.began t ≡ d.clock
  began_here t same = changed_at_here p.began x t d.clock same

  -- so with the number of steps before it
  step_there : (t : ℕ) → ¬ (x ≡ t) → now.begin_step t ≡ p.begin_step t
  step_there t differ = changed_at_there p.begin_step x t p.steps differ

  step_here : (t : ℕ) → x ≡ t → now.begin_step t ≡ p.steps
  step_here t same = changed_at_here p.begin_step x t p.steps same

  -- what doesn't run now is another one, and didn't run before
  other : (t : ℕ) → ¬ (Has (x ∷ m.running) t) → ¬ (x ≡ t)
  other t stopped same = stopped (inl same)

  -- a recipe that was through is through, unless it began now
  through_there : (t clock step : ℕ) → ¬ (x ≡ t) → WasThrough g s (p.last t) m.running d t clock step → WasThrough g s (p.last t) (x ∷ m.running) d t clock step
  through_there t clock step differ was = record { stopped = λ h. ⊎_elim differ was.stopped h; early = was.early; ended = was.ended; end_step = was.end_step }

  -- at this clock all is through that doesn't run
  through_now : (t clock step : ℕ) → ¬ (x ≡ t) → ¬ (Has m.running t) → clock ≡ d.clock → step ≡ p.steps → WasThrough g s (p.last t) (x ∷ m.running) d t clock step
  through_now t clock step differ stopped at after = record { stopped = λ h. ⊎_elim differ stopped h; early = λ f stamp wrote has. let came = fits.stamped f stamp has in omega arith; ended = λ run is_last. let came = fits.ended t run is_last in omega arith; end_step = λ run is_last. let came = fits.end_step t run is_last in omega arith }

  -- the begin of another recipe is as before
  moved : (o t : ℕ) → ¬ (x ≡ t) → WasThrough g s (p.last o) (x ∷ m.running) d o (p.began t) (p.begin_step t) → WasThrough g s (p.last o) (x ∷ m.running) d o (now.began t) (now.begin_step t)
  moved o t differ was = subst (λ (k : ℕ). WasThrough g s (p.last o) (x ∷ m.running) d o (now.began t) k) (sym (step_there t differ)) (subst (λ (k : ℕ). WasThrough g s (p.last o) (x ∷ m.running) d o k (p.begin_step t)) (sym (began_there t differ)) was)

  -- of two of which the first writes a direct prerequisite of the second, one was through when the other last began
  apart_begun : (o t : ℕ) → Carries g s t o → WasThrough g s (p.last o) (x ∷ m.running) d o (now.began t) (now.begin_step t) ⊎ WasThrough g s (p.last t) (x ∷ m.running) d t (now.began o) (now.begin_step o) ⊎ AreOld epoch now (x ∷ m.running) o t
  apart_begun o t carries =
      let before : Before g o t = carried_is_before g s graph sound t o carries in
      ⊎_elim (λ same. let o_done : Has m.done o = subst (λ (k : ℕ). Before g o k) (sym same) before recipe
      m.goals m.done is.order.part is.order.turns ready.0 in inl
      (through_now o (now.began t) (now.begin_step t) (λ here. ready.0.not_done
      (subst (λ (k : ℕ). Has m.done k) (sym here) o_done))
      (λ runs. runs_not_done g m is.order o runs o_done) (began_here t same) (step_here t same)))
      (λ differ. ⊎_elim (λ same. inr (inl (through_now t (now.began o) (now.begin_step o) differ
      (λ runs. ready.0.not_done (subst (λ (k : ℕ). Has m.done k) (sym same)
      (before (is.order.recipes t runs) m.goals m.done is.order.part is.order.turns
      (is.order.running t runs)))) (began_here o same) (step_here o same))))
      (λ apart. ⊎_elim (λ one. inl (moved o t differ (through_there o (p.began t) (p.begin_step t) apart one)))
      (λ rest. inr (⊎_elim (λ two. inl (moved t o apart (through_there t (p.began o) (p.begin_step o) differ two)))
      (λ old. inr (record { first_stopped = λ h. ⊎_elim apart old.first_stopped h; second_stopped = λ h. ⊎_elim differ old.second_stopped h; in_order = old.in_order })) rest)) (fits.apart o t carries))
      (cases_eq x o)) (cases_eq x t)

  -- the disk fits the runs after the begin
  fits_begun : Fits g s epoch now (x ∷ m.running) d
  fits_begun = record {
    stamped = fits.stamped;
    began = λ t. ⊎_elim (λ same. let at = began_here t same in omega arith) (λ differ. let same = began_there t differ in let came = fits.began t in omega arith) (cases_eq x t);
    ended = fits.ended;
    end_step = λ t run is_last. let came = fits.end_step t run is_last in omega arith;
    whole = λ t t_recipe stopped. ⊎_elim (λ bound. inl bound) (λ ran. inr (ran.0, ran_moved g s p now ran.0 d t refl (began_there t (other t stopped)) (step_there t (other t stopped)) ran.1)) (fits.whole t t_recipe (λ runs. stopped (inr runs)));
    saw = fits.saw;
    epoch_came = fits.epoch_came;
    apart = apart_begun;
  }

  -- a recipe that has seen something after this runs from before
  seen_before : (t : ℕ) (f : FileName) (v : Option ℕ) → (begun m x).seen t f ≡ Some v → (¬ (x ≡ t)) × (m.seen t f ≡ Some v)
  seen_before t f v e =
      ⊎_elim (λ same. let none : None ≡ Some v = sym (ap (λ (at : FileName → Option (Option ℕ)). at f)
      (changed_at_here m.seen x t (λ h. None) same)) ∙ e in absurd (cc))
      (λ differ. (
        differ,
        sym (ap (λ (at : FileName → Option (Option ℕ)). at f)
            (changed_at_there m.seen x t (λ h. None) differ)) ∙ e,
      )) (cases_eq x t)

  -- nor has it put anything
  put_before : (t : ℕ) (f : FileName) (c : ℕ) → (begun m x).put t f ≡ Some c → (¬ (x ≡ t)) × (m.put t f ≡ Some c)
  put_before t f c e =
      ⊎_elim (λ same. let none : None ≡ Some c = sym (ap (λ (at : FileName → Option ℕ). at f) (changed_at_here m.put x t (λ h. None) same)) ∙ e in absurd (cc)) (λ differ. (differ, sym (ap (λ (at : FileName → Option ℕ). at f) (changed_at_there m.put x t (λ h. None) differ)) ∙ e)) (cases_eq x t)

  -- what runs and isn't the one that began ran before
  ran : (t : ℕ) → ¬ (x ≡ t) → Has (x ∷ m.running) t → Has m.running t
  ran t differ h = ⊎_elim (λ here. absurd (differ here)) (λ there. there) h

  -- a done recipe is another one
  done_differs : (t : ℕ) → Has m.done t → ¬ (x ≡ t)
  done_differs t done same = ready.0.not_done (subst (λ (k : ℕ). Has m.done k) (sym same) done)

  -- what is done stays up to date
  pub begin_settled : AreUpToDate g s p start m d → AreUpToDate g s now start (begun m x) d
  begin_settled up t t_done t_recipe = up_moved g s p now start d t refl (began_there t (done_differs t t_done)) (step_there t (done_differs t t_done)) (up t t_done t_recipe)

  -- the invariant after the begin of a recipe
  pub begin_holds : Holds g s epoch now start (begun m x) d
  begin_holds = record {
    fits = fits_begun;
    make = record {
      order = begun_in_order g m is.order x ready recipe;
      start_came = is.start_came;
      epoch_before = is.epoch_before;
      seen = λ t f v runs read e. let old = seen_before t f v e in is.seen t f v (ran t old.0 runs) read old.1;
      put = λ t f c runs wrote e. let old = put_before t f c e in is.put t f c (ran t old.0 runs) wrote old.1;
      put_late = λ t f c stamp runs wrote e has. let old = put_before t f c e in let same = began_there t old.0 in let late = is.put_late t f c stamp (ran t old.0 runs) wrote old.1 has in omega arith;
      waits = λ t not_done stopped not_broken. let same = began_there t (other t stopped) in let early = is.waits t not_done (λ runs. stopped (inr runs)) not_broken in omega arith;
      runs = λ t runs. ⊎_elim (λ same. let at = began_here t same in let came = is.start_came in omega arith) (λ differ. let same = began_there t differ in let late = is.runs t (ran t differ runs) in omega arith) (cases_eq x t);
    };
  }
