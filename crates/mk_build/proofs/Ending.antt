-- The invariant over the end of a recipe and the passing of a node.
use Rattle.std.proofs.Common.{◌≡◌, ℕ, ◌≤◌, List, [], ◌∷◌, true, Option, Some, None, map, inl, inr, ⊎_elim, refl, sym, ◌∙◌, ap, subst, ◌⊎◌, arith}
use Rattle.std.specs.Prelude.{unwrap_or}
use Rattle.std.specs.Option.{option_flatten}
use Rattle.std.proofs.lemmas.Bool.{cases_eq}
use Rattle.mk_graph.specs.Membership.{Has}
use Rattle.mk_graph.specs.Graph.{Graph, node}
use Rattle.mk_build.specs.Setting.{FileName, Setting, reads, writes}
use Rattle.mk_build.specs.World.{Outcome, Disk, Making, Busy, content}
use Rattle.mk_build.specs.Steps.{End, Ready, MayEnd, finished, noted, changed_at, seen_by, put_by}
use Rattle.mk_build.specs.Runs.{WholeRun, Runs, run_of, runs_after, one_later}
use Rattle.mk_build.specs.Coherent.{IsBoundToRun}
use Rattle.mk_build.proofs.Changes.{changed_at_here, changed_at_there}
use Rattle.mk_build.proofs.InOrder.{runs_not_done, finished_in_order, Has-without, Has-from_without}
use Rattle.mk_build.proofs.Outcomes.{noted_new, noted_old}
use Rattle.mk_build.proofs.Invariant.{HasRunWhole, RanWhole, WasThrough, SawOrLater, AreOld, Fits, InMake, IsUpToDate, AreUpToDate, Holds}

-- what was put was put somewhere
pub put_somewhere : (o : Option ℕ) → ¬ (o ≡ None) → o ≡ Some (unwrap_or o 0)
put_somewhere None none = absurd (none refl)
put_somewhere (Some c) there = refl

-- what was seen was seen
pub seen_somewhere : (o : Option (Option ℕ)) → ¬ (o ≡ None) → o ≡ Some (option_flatten o)
seen_somewhere None none = absurd (none refl)
seen_somewhere (Some v) there = refl

-- files that hold what was put hold it in their order
pub holds_put : (d : Disk) (put : FileName → Option ℕ) (files : List FileName) → ((f : FileName) → Has files f → content d f ≡ Some (unwrap_or (put f) 0)) → map (content d) files ≡ map (λ c. Some c) (map (λ f. unwrap_or (put f) 0) files)
holds_put d put [] h = refl
holds_put d put (f ∷ files) h = let here = h f (inl refl) in let rest = holds_put d put files (λ k there. h k (inr there)) in cc

module _ (g : Graph) (s : Setting) (epoch : ℕ) (p : Runs) (start : ℕ) (m : Making) (d : Disk) (fits : Fits g s epoch p m.running d) (is : InMake g s epoch p start m d) (x : ℕ) where
  -- what doesn't run after one is finished is it or didn't run
  stopped_before : (t : ℕ) → ¬ (Has (finished m x).running t) → ¬ (x ≡ t) → ¬ (Has m.running t)
  stopped_before t stopped differ runs = stopped (Has-from_without x t m.running runs differ)

  -- what was through is through
  through_finished : (t clock step : ℕ) (last : Option WholeRun) → WasThrough g s last m.running d t clock step → WasThrough g s last (finished m x).running d t clock step
  through_finished t clock step last was = record { stopped = λ runs. was.stopped (Has-without x t m.running runs).0; early = was.early; ended = was.ended; end_step = was.end_step }

  -- what waits now is another one, which waited
  waits_finished : (t : ℕ) → ¬ (Has (x ∷ m.done) t) → ¬ (Has (finished m x).running t) → ¬ (Has m.broken t) → p.began t ≤ start
  waits_finished t not_done stopped not_broken = is.waits t (λ done. not_done (inr done)) (stopped_before t stopped (λ same. not_done (inl same))) not_broken

  -- what running recipes have seen and put is as before
  seen_finished : (t : ℕ) (f : FileName) (v : Option ℕ) → Has (finished m x).running t → (finished m x).seen t f ≡ Some v → Has m.running t × (m.seen t f ≡ Some v)
  seen_finished t f v runs e = let left = Has-without x t m.running runs in (left.0, sym (ap (λ (at : FileName → Option (Option ℕ)). at f) (changed_at_there m.seen x t (λ h. None) left.1)) ∙ e)

  put_finished : (t : ℕ) (f : FileName) (c : ℕ) → Has (finished m x).running t → (finished m x).put t f ≡ Some c → Has m.running t × (m.put t f ≡ Some c)
  put_finished t f c runs e = let left = Has-without x t m.running runs in (left.0, sym (ap (λ (at : FileName → Option ℕ). at f) (changed_at_there m.put x t (λ h. None) left.1)) ∙ e)

  module _ (may : MayEnd g s m d x) where
    -- its run
    abbrev run : WholeRun
    run = run_of p m d x

    -- its outcome
    result : Outcome
    result = record { recipe = x; seen = seen_by g s m x; written = put_by g s m x }

    -- the last run of each recipe
    last : ℕ → Option WholeRun
    last = changed_at p.last x (Some run)

    -- its own is this one
    last_here : (t : ℕ) → x ≡ t → last t ≡ Some run
    unfolding last
    last_here t same = changed_at_here p.last x t (Some run) same

    -- that of another one stays
    last_there : (t : ℕ) → ¬ (x ≡ t) → last t ≡ p.last t
    unfolding last
    last_there t differ = changed_at_there p.last x t (Some run) differ

    -- a last run is this one, or that of another recipe
    last_cases : (t : ℕ) (r : WholeRun) → last t ≡ Some r → ((x ≡ t) × (run ≡ r)) ⊎ ((¬ (x ≡ t)) × (p.last t ≡ Some r))
    last_cases t r e = ⊎_elim (λ same. let both : Some run ≡ Some r = sym (last_here t same) ∙ e in inl (same, cc)) (λ differ. inr (differ, sym (last_there t differ) ∙ e)) (cases_eq x t)

    -- its reads hold what it saw
    sees_now : (f : FileName) → Has (reads g s x) f → content d f ≡ run.saw f
    sees_now f read = is.seen x f (option_flatten (m.seen x f)) may.runs read (seen_somewhere (m.seen x f) (may.seen f read))

    -- its files hold what it put
    put_now : (f : FileName) → Has (writes g s x) f → content d f ≡ Some (unwrap_or (m.put x f) 0)
    put_now f wrote = is.put x f (unwrap_or (m.put x f) 0) may.runs wrote (put_somewhere (m.put x f) (may.put f wrote))

    -- it is as this run left it
    whole_now : HasRunWhole g s run (noted d result) x
    unfolding result
    whole_now = record {
      written = put_by g s m x;
      known = noted_new d result may.agrees;
      holds = holds_put d (m.put x) (writes g s x) put_now;
      early = λ f stamp wrote has. fits.stamped f stamp has;
    }

    -- another one is as its last run left it
    whole_still : (t : ℕ) (r : WholeRun) → HasRunWhole g s r d t → HasRunWhole g s r (noted d result) t
    whole_still t r whole = record {
      written = whole.written;
      known = noted_old d result t (map r.saw (reads g s t)) whole.written whole.known;
      holds = whole.holds;
      early = whole.early;
    }

    -- what was through is through, and isn't the one that ends
    through_ended : (t clock step : ℕ) → WasThrough g s (p.last t) m.running d t clock step → WasThrough g s (last t) (finished m x).running (noted d result) t clock step
    through_ended t clock step was =
        let now = through_finished t clock step (p.last t) was in
        record {
          stopped = now.stopped;
          early = now.early;
          ended = λ r is_last. ⊎_elim (λ here. absurd (was.stopped (subst (λ (k : ℕ). Has m.running k) here.0 may.runs))) (λ there. was.ended r there.1) (last_cases t r is_last);
          end_step = λ r is_last. ⊎_elim (λ here. absurd (was.stopped (subst (λ (k : ℕ). Has m.running k) here.0 may.runs))) (λ there. was.end_step r there.1) (last_cases t r is_last);
        }

    -- two that last ran before the epoch did so, and neither is the one that ends
    old_ended : (o t : ℕ) → AreOld epoch p m.running o t → AreOld epoch (record (one_later p) { last = last }) (finished m x).running o t
    old_ended o t old = record {
      first_stopped = λ runs. old.first_stopped (Has-without x o m.running runs).0;
      second_stopped = λ runs. old.second_stopped (Has-without x t m.running runs).0;
      in_order = λ a b is_a is_b. ⊎_elim (λ here. absurd (old.first_stopped (subst (λ (k : ℕ). Has m.running k) here.0 may.runs))) (λ first. ⊎_elim (λ here. absurd (old.second_stopped (subst (λ (k : ℕ). Has m.running k) here.0 may.runs))) (λ second. old.in_order a b first.1 second.1) (last_cases t b is_b)) (last_cases o a is_a);
    }

    -- it ran whole
    ran_now : (q : Runs) → q.last x ≡ Some run → q.began x ≡ p.began x → q.begin_step x ≡ p.begin_step x → RanWhole g s q run (noted d result) x
    unfolding result
    ran_now q is_last same_begin same_step = record {
      is_last = is_last;
      begin_step = sym same_step;
      in_order = let came = fits.began x in omega arith;
      whole = whole_now;
      after_begin = λ f stamp wrote has. let late = is.put_late x f (unwrap_or (m.put x f) 0) stamp may.runs wrote (put_somewhere (m.put x f) (may.put f wrote)) has in omega arith;
    }

    -- another one that ran whole has
    ran_still : (t : ℕ) (r : WholeRun) → ¬ (x ≡ t) → RanWhole g s p r d t → RanWhole g s (record (one_later p) { last = last }) r (noted d result) t
    unfolding result
    ran_still t r differ ran = record {
      is_last = last_there t differ ∙ ran.is_last;
      begin_step = ran.begin_step;
      in_order = ran.in_order;
      whole = whole_still t r ran.whole;
      after_begin = ran.after_begin;
    }

    -- a recipe that doesn't run is bound to or is as its last run left it
    whole_ended : (t : ℕ) → (node g t).recipe ≡ true → ¬ (Has (finished m x).running t) → IsBoundToRun g s (noted d result) t ⊎ ((r : WholeRun) × RanWhole g s (record (one_later p) { last = last }) r (noted d result) t)
    unfolding result
    whole_ended t recipe stopped =
        ⊎_elim (λ same. inr (
          run,
          subst (λ (k : ℕ). RanWhole g s (record (one_later p) { last = last }) run (noted d result) k)
              same (ran_now (record (one_later p) { last = last }) (last_here x refl) refl refl),
        )) (λ differ. ⊎_elim (λ bound. inl bound)
        (λ ran. inr (ran.0, ran_still t ran.0 differ ran.1))
        (fits.whole t recipe (stopped_before t stopped differ))) (cases_eq x t)

    -- what last runs saw is there or has changed since
    saw_ended : (t : ℕ) (r : WholeRun) → last t ≡ Some r → SawOrLater g s r (noted d result) t
    saw_ended t r is_last f read =
        ⊎_elim (λ here. inl (sees_now f (subst (λ (k : ℕ). Has (reads g s k) f) (sym here.0) read) ∙ ap (λ (k : WholeRun). k.saw f) here.1)) (λ there. fits.saw t r there.1 f read) (last_cases t r is_last)

    -- the disk fits the runs after the end
    fits_ended : Fits g s epoch (record (one_later p) { last = last }) (finished m x).running (noted d result)
    fits_ended = record {
      stamped = fits.stamped;
      began = fits.began;
      ended = λ t r is_last. ⊎_elim (λ here. let same = ap (λ (k : WholeRun). k.ended) here.1 in omega arith) (λ there. fits.ended t r there.1) (last_cases t r is_last);
      end_step = λ t r is_last. ⊎_elim (λ here. let same = ap (λ (k : WholeRun). k.end_step) here.1 in omega arith) (λ there. let came = fits.end_step t r there.1 in omega arith) (last_cases t r is_last);
      whole = whole_ended;
      saw = saw_ended;
      epoch_came = fits.epoch_came;
      apart = λ o t before. ⊎_elim (λ one. inl (through_ended o (p.began t) (p.begin_step t) one)) (λ rest. inr (⊎_elim (λ two. inl (through_ended t (p.began o) (p.begin_step o) two)) (λ old. inr (old_ended o t old)) rest)) (fits.apart o t before);
    }

    -- the invariant after the end of a recipe
    pub end_holds : Holds g s epoch (runs_after (Busy m d) (End x) p) start (finished m x) (noted d (record { recipe = x; seen = seen_by g s m x; written = put_by g s m x }))
    unfolding result last
    end_holds = record {
      fits = fits_ended;
      make = record {
        order = finished_in_order g m is.order x (is.order.running x may.runs);
        start_came = is.start_came;
        epoch_before = is.epoch_before;
        seen = λ t f v runs read e. let old = seen_finished t f v runs e in is.seen t f v old.0 read old.1;
        put = λ t f c runs wrote e. let old = put_finished t f c runs e in is.put t f c old.0 wrote old.1;
        put_late = λ t f c stamp runs wrote e has. let old = put_finished t f c runs e in is.put_late t f c stamp old.0 wrote old.1 has;
        waits = waits_finished;
        runs = λ t runs. is.runs t (Has-without x t m.running runs).0;
      };
    }

    -- what is done is up to date, the recipe that ended among it
    pub end_settled : AreUpToDate g s p start m d → AreUpToDate g s (runs_after (Busy m d) (End x) p) start (finished m x) (noted d (record { recipe = x; seen = seen_by g s m x; written = put_by g s m x }))
    unfolding result last
    end_settled are t (inl same) recipe =
        subst (λ (k : ℕ). IsUpToDate g s (runs_after (Busy m d) (End x) p) start (noted d result) k) same (record { run = run; ran = ran_now (runs_after (Busy m d) (End x) p) (last_here x refl) refl refl; sees = sees_now; settled = inr (is.runs x may.runs) })
    end_settled are t (inr before) recipe =
        let differ : ¬ (x ≡ t) = λ same. runs_not_done g m is.order x may.runs (subst (λ (k : ℕ). Has m.done k) (sym same) before) in
        let up = are t before recipe in
        record { run = up.run; ran = ran_still t up.run differ up.ran; sees = up.sees; settled = up.settled }

  module _ (ready : Ready g m x) where
    -- what doesn't run after a node was passed didn't run
    stopped_passed : (t : ℕ) → ¬ (Has (finished m x).running t) → ¬ (Has m.running t)
    stopped_passed t stopped runs = stopped (Has-from_without x t m.running runs (λ same. ready.1 (subst (λ (k : ℕ). Has m.running k) (sym same) runs)))

    -- the invariant after a node was passed
    pub pass_holds : Holds g s epoch p start (finished m x) d
    pass_holds = record {
      fits = record {
        stamped = fits.stamped;
        began = fits.began;
        ended = fits.ended;
        end_step = fits.end_step;
        whole = λ t recipe stopped. fits.whole t recipe (stopped_passed t stopped);
        saw = fits.saw;
        epoch_came = fits.epoch_came;
        apart = λ o t before. ⊎_elim (λ one. inl (through_finished o (p.began t) (p.begin_step t) (p.last o) one)) (λ rest. inr (⊎_elim (λ two. inl (through_finished t (p.began o) (p.begin_step o) (p.last t) two)) (λ old. inr (record { first_stopped = λ runs. old.first_stopped (Has-without x o m.running runs).0; second_stopped = λ runs. old.second_stopped (Has-without x t m.running runs).0; in_order = old.in_order })) rest)) (fits.apart o t before);
      };
      make = record {
        order = finished_in_order g m is.order x ready.0;
        start_came = is.start_came;
        epoch_before = is.epoch_before;
        seen = λ t f v runs read e. let old = seen_finished t f v runs e in is.seen t f v old.0 read old.1;
        put = λ t f c runs wrote e. let old = put_finished t f c runs e in is.put t f c old.0 wrote old.1;
        put_late = λ t f c stamp runs wrote e has. let old = put_finished t f c runs e in is.put_late t f c stamp old.0 wrote old.1 has;
        waits = waits_finished;
        runs = λ t runs. is.runs t (Has-without x t m.running runs).0;
      };
    }

    -- what is done is up to date, if what was passed is
    pub pass_settled : ((node g x).recipe ≡ true → IsUpToDate g s p start d x) → AreUpToDate g s p start m d → AreUpToDate g s p start (finished m x) d
    pass_settled up are t (inl same) recipe = subst (λ (k : ℕ). IsUpToDate g s p start d k) same (up (subst (λ (k : ℕ). (node g k).recipe ≡ true) (sym same) recipe))
    pass_settled up are t (inr before) recipe = are t before recipe
