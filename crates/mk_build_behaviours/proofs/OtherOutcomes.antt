-- Other outcomes for recipes that run: what is known of them doesn't matter.
use Rattle.std.proofs.Common.{◌≡◌, ℕ, List, Option, map, inl, inr, ⊎_elim, ◌∙◌}
use Rattle.mk_graph.specs.Membership.{Has}
use Rattle.mk_graph.specs.Graph.{Graph}
use Rattle.mk_build.specs.Setting.{Setting, reads}
use Rattle.mk_build.specs.World.{Outcome, Disk, Making, outcome}
use Rattle.mk_build.specs.Runs.{WholeRun, Runs}
use Rattle.mk_build.proofs.Invariant.{RanWhole, AreUpToDate, Holds}

module _ (g : Graph) (s : Setting) where
  -- what is known of running recipes doesn't matter
  ran_with : (p : Runs) (d : Disk) (known more : List Outcome) (t : ℕ) (run : WholeRun) → ((seen : List (Option ℕ)) → outcome more t seen ≡ outcome known t seen) → RanWhole g s p run (record d { known = known }) t → RanWhole g s p run (record d { known = more }) t
  ran_with p d known more t run same ran = record {
    is_last = ran.is_last;
    begin_step = ran.begin_step;
    in_order = ran.in_order;
    whole = record {
      written = ran.whole.written;
      known = same (map run.saw (reads g s t)) ∙ ran.whole.known;
      holds = ran.whole.holds;
      early = ran.whole.early;
    };
    after_begin = ran.after_begin;
  }

  pub holds_with : (epoch : ℕ) (p : Runs) (start : ℕ) (m : Making) (d : Disk) (known more : List Outcome) → ((t : ℕ) → ¬ (Has m.running t) → (seen : List (Option ℕ)) → outcome more t seen ≡ outcome known t seen) → Holds g s epoch p start m (record d { known = known }) → Holds g s epoch p start m (record d { known = more })
  holds_with epoch p start m d known more same is = record {
    fits = record {
      stamped = is.fits.stamped;
      began = is.fits.began;
      ended = is.fits.ended;
      end_step = is.fits.end_step;
      whole = λ t recipe stopped. ⊎_elim (λ bound. inl bound) (λ ran. inr (ran.0, ran_with p d known more t ran.0 (same t stopped) ran.1)) (is.fits.whole t recipe stopped);
      saw = is.fits.saw;
      epoch_came = is.fits.epoch_came;
      apart = λ o t before. ⊎_elim (λ one. inl (record { stopped = one.stopped; early = one.early; ended = one.ended; end_step = one.end_step })) (λ rest. inr (⊎_elim (λ two. inl (record { stopped = two.stopped; early = two.early; ended = two.ended; end_step = two.end_step })) (λ old. inr old) rest)) (is.fits.apart o t before);
    };
    make = record {
      order = is.make.order;
      start_came = is.make.start_came;
      epoch_before = is.make.epoch_before;
      seen = is.make.seen;
      put = is.make.put;
      put_late = is.make.put_late;
      waits = is.make.waits;
      runs = is.make.runs;
    };
  }

  -- nor for what is done
  pub up_with : (p : Runs) (start : ℕ) (m : Making) (d : Disk) (known more : List Outcome) → ((t : ℕ) → Has m.done t → (seen : List (Option ℕ)) → outcome more t seen ≡ outcome known t seen) → AreUpToDate g s p start m (record d { known = known }) → AreUpToDate g s p start m (record d { known = more })
  up_with p start m d known more same are t done recipe =
      let up = are t done recipe in
      record { run = up.run; ran = ran_with p d known more t up.run (same t done) up.ran; sees = up.sees; settled = up.settled }
