-- What holds in each state of each legal history where footprints are sound.
use Rattle.std.proofs.Common.{◌≡◌, ℕ, ◌<◌, ◌≤◌, List, [], true, Option, Some, map, ◌⊎◌, inl, inr, ⊎_elim, refl, ◌∙◌, sym, arith}
use Rattle.mk_graph.specs.Membership.{Has}
use Rattle.mk_graph.specs.Graph.{Graph, node}
use Rattle.mk_build.specs.Setting.{FileName, Setting, reads, writes}
use Rattle.mk_build.specs.World.{Disk, Making, World, Idle, Busy, content, HasStamp, outcome}
use Rattle.mk_build.specs.Steps.{Step, Make, MustRun}
use Rattle.mk_build.specs.Runs.{WholeRun, Runs, one_later}
use Rattle.mk_build.specs.Ways.{Carries}
use Rattle.mk_build.specs.Coherent.{IsBoundToRun, ContainsOrChanged}
use Rattle.mk_build.proofs.InOrder.{InOrder}

-- The recipe is as its last whole run left it: what it wrote is there, as the outcome of what it saw, and no later than
-- the end of the run.
pub record HasRunWhole (g : Graph) (s : Setting) (run : WholeRun) (d : Disk) (t : ℕ) : Type 0 where
  pub written : List ℕ
  pub known : outcome d.known t (map run.saw (reads g s t)) ≡ Some written
  pub holds : map (content d) (writes g s t) ≡ map (λ c. Some c) written
  pub early : (f : FileName) (stamp : ℕ) → Has (writes g s t) f → HasStamp d f stamp → stamp ≤ run.ended

-- The recipe is as its last whole run left it, which it last began: what it wrote is later than this begin.
pub record RanWhole (g : Graph) (s : Setting) (p : Runs) (run : WholeRun) (d : Disk) (t : ℕ) : Type 0 where
  pub is_last : p.last t ≡ Some run
  pub begin_step : run.begin_step ≡ p.begin_step t
  pub in_order : p.began t ≤ run.ended
  pub whole : HasRunWhole g s run d t
  pub after_begin : (f : FileName) (stamp : ℕ) → Has (writes g s t) f → HasStamp d f stamp → p.began t < stamp

-- The recipe was through at this clock and before this step: it isn't running, what it wrote is no later than the clock,
-- and its last whole run ended no later and before the step.
pub record WasThrough (g : Graph) (s : Setting) (last : Option WholeRun) (running : List ℕ) (d : Disk) (t clock step : ℕ) : Type 0 where
  pub stopped : ¬ (Has running t)
  pub early : (f : FileName) (stamp : ℕ) → Has (writes g s t) f → HasStamp d f stamp → stamp ≤ clock
  pub ended : (run : WholeRun) → last ≡ Some run → run.ended ≤ clock
  pub end_step : (run : WholeRun) → last ≡ Some run → run.end_step < step

-- Each file that a recipe reads contains what its last whole run saw, or has changed since.
abbrev pub SawOrLater : Graph → Setting → WholeRun → Disk → ℕ → Type 0
SawOrLater g s run d t = (f : FileName) → Has (reads g s t) f → ContainsOrChanged g s d f (run.saw f) run.ended

-- Both recipes last ran whole before this clock, the first no later than the second, and don't run.
pub record AreOld (epoch : ℕ) (p : Runs) (running : List ℕ) (o t : ℕ) : Type 0 where
  pub first_stopped : ¬ (Has running o)
  pub second_stopped : ¬ (Has running t)
  pub in_order : (a b : WholeRun) → p.last o ≡ Some a → p.last t ≡ Some b → (a.ended ≤ b.ended) × (b.ended ≤ epoch)

-- The disk fits the runs so far, while these recipes run: stamps, begins and ends have come; a recipe that doesn't run is
-- bound to run or is as its last whole run left it; what last runs saw is there or has changed since; and of two of
-- which the first writes a direct prerequisite of the second, one was through when the other last began, or both last ran
-- before the epoch, the first no later than the second.
pub record Fits (g : Graph) (s : Setting) (epoch : ℕ) (p : Runs) (running : List ℕ) (d : Disk) : Type 0 where
  pub stamped : (f : FileName) (stamp : ℕ) → HasStamp d f stamp → stamp ≤ d.clock
  pub began : (t : ℕ) → p.began t ≤ d.clock
  pub ended : (t : ℕ) (run : WholeRun) → p.last t ≡ Some run → run.ended ≤ d.clock
  pub end_step : (t : ℕ) (run : WholeRun) → p.last t ≡ Some run → run.end_step < p.steps
  pub whole : (t : ℕ) → (node g t).recipe ≡ true → ¬ (Has running t) → IsBoundToRun g s d t ⊎ ((run : WholeRun) × RanWhole g s p run d t)
  pub saw : (t : ℕ) (run : WholeRun) → p.last t ≡ Some run → SawOrLater g s run d t
  pub epoch_came : epoch ≤ d.clock
  pub apart : (o t : ℕ) → Carries g s t o → WasThrough g s (p.last o) running d o (p.began t) (p.begin_step t) ⊎ WasThrough g s (p.last t) running d t (p.began o) (p.begin_step o) ⊎ AreOld epoch p running o t

-- A done recipe is up to date: it is as its last whole run left it, each file that it read holds what it saw, and it
-- need not run or has run since the make began.
pub record IsUpToDate (g : Graph) (s : Setting) (p : Runs) (start : ℕ) (d : Disk) (t : ℕ) : Type 0 where
  pub run : WholeRun
  pub ran : RanWhole g s p run d t
  pub sees : (f : FileName) → Has (reads g s t) f → content d f ≡ run.saw f
  pub settled : (¬ (MustRun g d t)) ⊎ (start ≤ p.began t)

-- A make in progress that began at this clock: what running recipes have seen and put is still there, put since they
-- began; what waits and didn't break off began no later than the make, and what runs no earlier.
pub record InMake (g : Graph) (s : Setting) (epoch : ℕ) (p : Runs) (start : ℕ) (m : Making) (d : Disk) : Type 0 where
  pub order : InOrder g m
  pub start_came : start ≤ d.clock
  pub epoch_before : epoch ≤ start
  pub seen : (t : ℕ) (f : FileName) (c : Option ℕ) → Has m.running t → Has (reads g s t) f → m.seen t f ≡ Some c → content d f ≡ c
  pub put : (t : ℕ) (f : FileName) (c : ℕ) → Has m.running t → Has (writes g s t) f → m.put t f ≡ Some c → content d f ≡ Some c
  pub put_late : (t : ℕ) (f : FileName) (c stamp : ℕ) → Has m.running t → Has (writes g s t) f → m.put t f ≡ Some c → HasStamp d f stamp → p.began t < stamp
  pub waits : (t : ℕ) → ¬ (Has m.done t) → ¬ (Has m.running t) → ¬ (Has m.broken t) → p.began t ≤ start
  pub runs : (t : ℕ) → Has m.running t → start ≤ p.began t

-- the invariant of a make in progress, of which nothing is asked that is done
pub record Holds (g : Graph) (s : Setting) (epoch : ℕ) (p : Runs) (start : ℕ) (m : Making) (d : Disk) : Type 0 where
  pub fits : Fits g s epoch p m.running d
  pub make : InMake g s epoch p start m d

-- what is done is up to date
abbrev pub AreUpToDate : Graph → Setting → Runs → ℕ → Making → Disk → Type 0
AreUpToDate g s p start m d = (t : ℕ) → Has m.done t → (node g t).recipe ≡ true → IsUpToDate g s p start d t

-- the invariant of a world, after these runs
abbrev pub IsInvariant : Graph → Setting → (epoch : ℕ) → Runs → ℕ → World → Type 0
IsInvariant g s epoch p start (Idle d) = Fits g s epoch p [] d
IsInvariant g s epoch p start (Busy m d) = Holds g s epoch p start m d

-- what is done in a world is up to date
abbrev pub IsSettled : Graph → Setting → Runs → ℕ → World → Type 0
IsSettled g s p start (Idle d) = Unit {0}
IsSettled g s p start (Busy m d) = AreUpToDate g s p start m d

-- the clock when the make in progress began, after a step
abbrev pub start_after : World → Step → ℕ → ℕ
start_after (Idle d) (Make jobs goals) start = d.clock
start_after world other start = start

-- what ran whole has, after runs in which it began last and ended last as before
pub ran_moved : (g : Graph) (s : Setting) (p q : Runs) (run : WholeRun) (d : Disk) (t : ℕ) → q.last t ≡ p.last t → q.began t ≡ p.began t → q.begin_step t ≡ p.begin_step t → RanWhole g s p run d t → RanWhole g s q run d t
ran_moved g s p q run d t same_last same_begin same_step ran = record {
  is_last = same_last ∙ ran.is_last;
  begin_step = ran.begin_step ∙ sym same_step;
  in_order = let before = ran.in_order in omega arith;
  whole = ran.whole;
  after_begin = λ f stamp wrote has. let late = ran.after_begin f stamp wrote has in omega arith;
}

-- what is up to date is so over the same begin and the same last run
pub up_moved : (g : Graph) (s : Setting) (p q : Runs) (start : ℕ) (d : Disk) (t : ℕ) → q.last t ≡ p.last t → q.began t ≡ p.began t → q.begin_step t ≡ p.begin_step t → IsUpToDate g s p start d t → IsUpToDate g s q start d t
up_moved g s p q start d t same_last same_begin same_step up = record {
  run = up.run;
  ran = ran_moved g s p q up.run d t same_last same_begin same_step up.ran;
  sees = up.sees;
  settled = ⊎_elim (λ need_not. inl need_not) (λ late. inr (omega arith)) up.settled;
}

-- what fits the runs fits them after one step more
pub fits_later : (g : Graph) (s : Setting) (epoch : ℕ) (p : Runs) (running : List ℕ) (d : Disk) → Fits g s epoch p running d → Fits g s epoch (one_later p) running d
fits_later g s epoch p running d fits = record {
  stamped = fits.stamped;
  began = fits.began;
  ended = fits.ended;
  end_step = λ t run is_last. let came = fits.end_step t run is_last in omega arith;
  whole = λ t recipe stopped. ⊎_elim (λ bound. inl bound) (λ ran. inr (ran.0, ran_moved g s p (one_later p) ran.0 d t refl refl refl ran.1)) (fits.whole t recipe stopped);
  saw = fits.saw;
  epoch_came = fits.epoch_came;
  apart = λ o t before. ⊎_elim (λ one. inl one) (λ rest. ⊎_elim (λ two. inr (inl two)) (λ old. inr (inr (record { first_stopped = old.first_stopped; second_stopped = old.second_stopped; in_order = old.in_order }))) rest) (fits.apart o t before);
}

pub holds_later : (g : Graph) (s : Setting) (epoch : ℕ) (p : Runs) (start : ℕ) (m : Making) (d : Disk) → Holds g s epoch p start m d → Holds g s epoch (one_later p) start m d
holds_later g s epoch p start m d is = record {
  fits = fits_later g s epoch p m.running d is.fits;
  make = record {
    order = is.make.order;
    start_came = is.make.start_came;
    epoch_before = is.make.epoch_before;
    seen = is.make.seen;
    put = is.make.put;
    put_late = is.make.put_late;
    waits = is.make.waits;
    runs = is.make.runs;
  };
}

-- what is up to date is so after one step more
pub up_later : (g : Graph) (s : Setting) (p : Runs) (start : ℕ) (m : Making) (d : Disk) → AreUpToDate g s p start m d → AreUpToDate g s (one_later p) start m d
up_later g s p start m d are t done recipe = up_moved g s p (one_later p) start d t refl refl refl (are t done recipe)
