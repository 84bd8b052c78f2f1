-- The invariant holds in each state of each legal history, and at the end of a make its goals are built.
use Rattle.std.proofs.Common.{◌≡◌, ℕ, List, [], ◌∷◌, true, Option, Some, None, inl, inr, ⊎_elim, refl, sym, ◌∙◌, ap, subst, arith}
use Rattle.std.specs.Prelude.{if◌then◌else◌}
use Rattle.std.specs.Option.{option_map}
use Rattle.std.proofs.lemmas.Bool.{true≢false, cases_Bool}
use Rattle.mk_graph.specs.Membership.{Has}
use Rattle.mk_graph.specs.Graph.{Graph, node, IsGraph}
use Rattle.mk_build.specs.Setting.{FileName, Setting, is_editable, name, reads, writes}
use Rattle.mk_build.specs.World.{File, Disk, Making, World, Idle, Busy, IsStartDisk, content, HasStamp, written, without, disk_of, outcome}
use Rattle.mk_graph.specs.Schedules.{IsPart}
use Rattle.mk_build.specs.Steps.{Step, Edit, Make, Begin, Look, Put, End, Break, Pass, Stop, EndMake, MustRun, Ready, Allowed, after, make_of, finished, looked, has_put, broken_off, IsLegal, after_all, disk_after}
use Rattle.mk_build.specs.Runs.{WholeRun, Runs, no_runs, runs_after, runs_after_all, runs_of}
use Rattle.mk_build.specs.Clean.{IsFresh}
use Rattle.mk_build.specs.Ways.{Carries}
use Rattle.mk_build.specs.Right.{AreSound, HaveNoRace, HaveWays, IsRightAt}
use Rattle.mk_build.specs.Coherent.{ContainsOrChanged}
use Rattle.mk_build.specs.RunLaws.{RanBefore}
use Rattle.mk_build.proofs.Sound.{editable_is_not_written}
use Rattle.mk_build.proofs.Invariant.{SawOrLater, Fits, IsUpToDate, AreUpToDate, Holds, IsInvariant, IsSettled, start_after, fits_later, holds_later, up_later}
use Rattle.mk_build.proofs.Writing.{cases_file, map_same, fits_written}
use Rattle.mk_build.proofs.Putting.{put_holds, put_settled, look_holds}
use Rattle.mk_build.proofs.Passing.{ready_ran_after, passed_is_up_to_date}
use Rattle.mk_build.proofs.Beginning.{begin_holds, begin_settled}
use Rattle.mk_build.proofs.Ending.{end_holds, end_settled, pass_holds, pass_settled}
use Rattle.mk_build.proofs.Breaking.{broken_holds, broken_settled}
use Rattle.mk_build.proofs.CleanEnd.{is_built}

-- a file with a stamp is there
pub stamped_file : (d : Disk) (f : FileName) (stamp : ℕ) → HasStamp d f stamp → (file : File) × (d.files f ≡ Some file) × (file.stamp ≡ stamp)
stamped_file d f stamp has = cases (d.files f) refl where
  cases : (o : Option File) → d.files f ≡ o → (file : File) × (d.files f ≡ Some file) × (file.stamp ≡ stamp)
  cases None e = let gone : None ≡ Some stamp = sym (ap (λ (x : Option File). option_map (λ (y : File). y.stamp) x) e) ∙ has in absurd (cc)
  cases (Some file) e = let same : Some file.stamp ≡ Some stamp = sym (ap (λ (x : Option File). option_map (λ (y : File). y.stamp) x) e) ∙ has in let is : file.stamp ≡ stamp = cc in (file, e, is)

module _ (g : Graph) (s : Setting) where
  -- what each allowed step keeps, beside the runs so far, each legal history keeps
  pub kept_with_runs : (P : Runs → ℕ → World → Type 0) → ((p : Runs) (start : ℕ) (w : World) (step : Step)
      → P p start w → Allowed g s w step → P (runs_after w step p) (start_after w step start)
      (after g s w step)) → (p : Runs) (start : ℕ) (w : World) (steps : List Step) → P p start w
      → IsLegal g s w steps → (now : ℕ) × P (runs_after_all g s w steps p) now (after_all g s w steps)
  kept_with_runs P keeps p start w [] is legal = (start, is)
  kept_with_runs P keeps p start w (step ∷ steps) is legal = kept_with_runs P keeps (runs_after w step p) (start_after w step start) (after g s w step) steps (keeps p start w step is legal.0) legal.1

module _ (g : Graph) (s : Setting) (sound : AreSound g s) where
  -- none of its files is there
  abbrev pub IsUntouched : Disk → ℕ → Type 0
  IsUntouched d t = (f : FileName) → Has (writes g s t) f → d.files f ≡ None

  -- nothing that recipes write is there at a start
  pub untouched_at_start : (d : Disk) → IsStartDisk s d → (t : ℕ) → IsUntouched d t
  untouched_at_start d start t f wrote =
      ⊎_elim (λ none. none) (λ there. let is = stamped_file d f there.0 there.1 in absurd (true≢false (sym (start.given f is.0 is.1) ∙ sound.not_given t f wrote))) (cases_file d f)

  -- so no file of a recipe has a stamp
  no_stamp : (d : Disk) (t : ℕ) → IsUntouched d t → (f : FileName) (stamp : ℕ) → Has (writes g s t) f → ¬ (HasStamp d f stamp)
  no_stamp d t none f stamp wrote has = let gone : None ≡ Some stamp = sym (ap (λ (x : Option File). option_map (λ (y : File). y.stamp) x) (none f wrote)) ∙ has in cc

  -- a recipe that has none of its files must run
  pub untouched_must_run : (d : Disk) (t : ℕ) → (node g t).recipe ≡ true → IsUntouched d t → MustRun g d t
  untouched_must_run d t recipe none =
      ⊎_elim (λ phony. inl (inl phony)) (λ not_phony. inr (inl (none (name g t) (sound.target t recipe not_phony)))) (cases_Bool (node g t).phony)

  -- no recipe has a last run at first
  no_last : {A : Type 0} (run : WholeRun) → None ≡ Some run → A
  no_last run e = absurd (cc)

  -- the invariant at a start
  pub start_fits : (d : Disk) → IsStartDisk s d → Fits g s 0 no_runs [] d
  start_fits d start = record {
    stamped = λ f stamp has. let is = stamped_file d f stamp has in let early = start.stamped f is.0 is.1 in let same = is.2 in omega arith;
    began = λ t. omega arith;
    ended = λ t run e. no_last run e;
    end_step = λ t run e. no_last run e;
    whole = λ t recipe stopped. inl (inl (untouched_must_run d t recipe (untouched_at_start d start t)));
    saw = λ t run e. no_last run e;
    epoch_came = omega arith;
    apart = λ o t before. inl (record { stopped = λ h. h; early = λ f stamp wrote has. absurd (no_stamp d o (untouched_at_start d start o) f stamp wrote has); ended = λ run e. no_last run e; end_step = λ run e. no_last run e });
  }

module _ (g : Graph) (s : Setting) (graph : IsGraph g) (sound : AreSound g s) (epoch : ℕ) where
  -- after an edit
  edit_fits : (p : Runs) (d : Disk) (f : FileName) (c : ℕ) → Fits g s epoch p [] d → is_editable s f ≡ true → Fits g s epoch p [] (written d f c)
  edit_fits p d f c fits editable = fits_written g s epoch p [] d fits f c (inl editable) (λ t wrote. absurd (editable_is_not_written g s graph sound t f editable wrote)) sound

  -- after the begin of a make
  pub make_holds : (p : Runs) (d : Disk) (jobs : ℕ) (goals : List ℕ) → Fits g s epoch p [] d → IsPart goals g.goals → Holds g s epoch p d.clock (make_of jobs goals) d
  make_holds p d jobs goals fits part = record {
    fits = fits;
    make = record {
      order = record { part = part; turns = tt; recipes = λ t h. absurd h; running = λ t h. absurd h };
      start_came = omega arith;
      epoch_before = fits.epoch_came;
      seen = λ t f c runs. absurd runs;
      put = λ t f c runs. absurd runs;
      put_late = λ t f c stamp runs. absurd runs;
      waits = λ t not_done stopped not_broken. fits.began t;
      runs = λ t runs. absurd runs;
    };
  }

  -- after a make in which nothing runs
  rest_after : (p : Runs) (start : ℕ) (m : Making) (d : Disk) → Holds g s epoch p start m d → m.running ≡ [] → Fits g s epoch p [] d
  rest_after p start m d is none = subst (λ (l : List ℕ). Fits g s epoch p l d) none is.fits

  module _ (no_race : HaveNoRace g s) where
    -- each step keeps the invariant
    pub step_keeps : (p : Runs) (start : ℕ) (w : World) (step : Step) → IsInvariant g s epoch p start w → Allowed g s w step → IsInvariant g s epoch (runs_after w step p) (start_after w step start) (after g s w step)
    step_keeps p start (Idle d) (Edit f c) is may = fits_later g s epoch p [] (written d f c) (edit_fits p d f c is may.0)
    step_keeps p start (Idle d) (Make jobs goals) is may = holds_later g s epoch p d.clock (make_of jobs goals) d (make_holds p d jobs goals is may.1)
    step_keeps p start (Idle d) (Begin t) is may = absurd may
    step_keeps p start (Idle d) (Look t f) is may = absurd may
    step_keeps p start (Idle d) (Put t f c) is may = absurd may
    step_keeps p start (Idle d) (End t) is may = absurd may
    step_keeps p start (Idle d) (Break t removed) is may = absurd may
    step_keeps p start (Idle d) (Pass t) is may = absurd may
    step_keeps p start (Idle d) Stop is may = absurd may
    step_keeps p start (Idle d) EndMake is may = absurd may
    step_keeps p start (Busy m d) (Edit f c) is may = absurd may
    step_keeps p start (Busy m d) (Make jobs goals) is may = absurd may
    step_keeps p start (Busy m d) (Begin t) is may = begin_holds g s graph sound epoch p start m d is.fits is.make t may.0 may.1
    step_keeps p start (Busy m d) (Look t f) is may = holds_later g s epoch p start (looked m t f (content d f)) d (look_holds g s epoch p start m d is.fits is.make t f)
    step_keeps p start (Busy m d) (Put t f c) is may = holds_later g s epoch p start (has_put m t f c) (written d f c) (put_holds g s graph sound no_race epoch p start m d is.fits is.make t f c may.0 may.1)
    step_keeps p start (Busy m d) (End t) is may = end_holds g s epoch p start m d is.fits is.make t may
    step_keeps p start (Busy m d) (Break t removed) is may = holds_later g s epoch p start (broken_off m t) (if removed then without d (name g t) else d) (broken_holds g s graph sound no_race epoch p start m d is.fits is.make t may.0 removed may.1)
    step_keeps p start (Busy m d) (Pass n) is may = holds_later g s epoch p start (finished m n) d (pass_holds g s epoch p start m d is.fits is.make n may.0)
    step_keeps p start (Busy m d) Stop is may = fits_later g s epoch p [] d (rest_after p start m d is may)
    step_keeps p start (Busy m d) EndMake is may = fits_later g s epoch p [] d (rest_after p start m d is may.1)

    -- the invariant after a legal history
    pub history_fits : (p : Runs) (d : Disk) (steps : List Step) → Fits g s epoch p [] d → IsLegal g s (Idle d) steps → (start : ℕ) × IsInvariant g s epoch (runs_after_all g s (Idle d) steps p) start (after_all g s (Idle d) steps)
    history_fits p d steps fits legal = kept_with_runs g s (IsInvariant g s epoch) step_keeps p 0 (Idle d) steps fits legal

    -- the disk of a world fits the runs
    pub saw_in : (p : Runs) (start : ℕ) (w : World) → IsInvariant g s epoch p start w → (t : ℕ) (run : WholeRun) → p.last t ≡ Some run → SawOrLater g s run (disk_of w) t
    saw_in p start (Idle d) is = is.saw
    saw_in p start (Busy m d) is = is.fits.saw

    -- a node may be passed where it is up to date, if it has a recipe
    abbrev pub PassesUpToDate : Runs → ℕ → Making → Disk → Type 0
    PassesUpToDate p start m d = (n : ℕ) → Ready g m n → (node g n).recipe ≡ true → ¬ (MustRun g d n) → IsUpToDate g s p start d n

    -- what is done is up to date after a node was passed
    pub pass_keeps_settled : (p : Runs) (start : ℕ) (m : Making) (d : Disk) (n : ℕ) → Holds g s epoch p start m d → AreUpToDate g s p start m d → PassesUpToDate p start m d → Allowed g s (Busy m d) (Pass n) → AreUpToDate g s p start (finished m n) d
    pass_keeps_settled p start m d n is are passes may =
        pass_settled g s epoch p start m d is.fits is.make n may.0 (λ recipe. ⊎_elim (λ none. absurd (true≢false (sym recipe ∙ none))) (λ need_not. passes n may.0 recipe need_not) may.1) are

    -- the invariant, with what is done up to date
    abbrev pub IsWhole : Runs → ℕ → World → Type 0
    IsWhole p start w = IsInvariant g s epoch p start w × IsSettled g s p start w

    -- what is done stays up to date over each step, where what is passed is
    pub step_settles : ((p : Runs) (start : ℕ) (m : Making) (d : Disk) → Holds g s epoch p start m d
        → AreUpToDate g s p start m d → PassesUpToDate p start m d)
        → (p : Runs) (start : ℕ) (w : World) (step : Step) → IsWhole p start w → Allowed g s w step
        → IsSettled g s (runs_after w step p) (start_after w step start) (after g s w step)
    step_settles passes p start (Idle d) (Edit f c) is may = tt
    step_settles passes p start (Idle d) (Make jobs goals) is may = λ t done. absurd done
    step_settles passes p start (Idle d) (Begin t) is may = absurd may
    step_settles passes p start (Idle d) (Look t f) is may = absurd may
    step_settles passes p start (Idle d) (Put t f c) is may = absurd may
    step_settles passes p start (Idle d) (End t) is may = absurd may
    step_settles passes p start (Idle d) (Break t removed) is may = absurd may
    step_settles passes p start (Idle d) (Pass t) is may = absurd may
    step_settles passes p start (Idle d) Stop is may = absurd may
    step_settles passes p start (Idle d) EndMake is may = absurd may
    step_settles passes p start (Busy m d) (Edit f c) is may = absurd may
    step_settles passes p start (Busy m d) (Make jobs goals) is may = absurd may
    step_settles passes p start (Busy m d) (Begin t) is may = begin_settled g s graph sound epoch p start m d is.0.fits is.0.make t may.0 may.1 is.1
    step_settles passes p start (Busy m d) (Look t f) is may = up_later g s p start (looked m t f (content d f)) d is.1
    step_settles passes p start (Busy m d) (Put t f c) is may = up_later g s p start (has_put m t f c) (written d f c) (put_settled g s graph sound no_race epoch p start m d is.0.fits is.0.make t f c may.0 may.1 is.1)
    step_settles passes p start (Busy m d) (End t) is may = end_settled g s epoch p start m d is.0.fits is.0.make t may is.1
    step_settles passes p start (Busy m d) (Break t removed) is may = up_later g s p start (broken_off m t) (if removed then without d (name g t) else d) (broken_settled g s graph sound no_race epoch p start m d is.0.fits is.0.make t may.0 removed may.1 is.1)
    step_settles passes p start (Busy m d) (Pass n) is may = up_later g s p start (finished m n) d (pass_keeps_settled p start m d n is.0 is.1 (passes p start m d is.0 is.1) may)
    step_settles passes p start (Busy m d) Stop is may = tt
    step_settles passes p start (Busy m d) EndMake is may = tt

    -- what is up to date is fresh
    fresh_from : (p : Runs) (start : ℕ) (m : Making) (d : Disk) → AreUpToDate g s p start m d → (n : ℕ) → Has m.done n → (node g n).recipe ≡ true → IsFresh g s d n
    fresh_from p start m d are n done recipe =
        let up = are n done recipe in
        record { written = up.ran.whole.written; known = subst (λ (l : List (Option ℕ)). outcome d.known n l ≡ Some up.ran.whole.written) (sym (map_same (content d) up.run.saw (reads g s n) up.sees)) up.ran.whole.known; holds = up.ran.whole.holds }

    -- at the end of a make its goals are built
    pub right_at : (p : Runs) (start : ℕ) (w : World) → IsWhole p start w → IsRightAt g s w
    right_at p start (Idle d) is = tt
    right_at p start (Busy m d) is = λ may. is_built g s graph sound no_race d m.goals is.0.make.order.part m.done is.0.make.order.turns may.0 (fresh_from p start m d is.1)

    module _ (ways : HaveWays g s) where
      -- each step keeps all of it, where each read that needs a way has one
      whole_keeps : (p : Runs) (start : ℕ) (w : World) (step : Step) → IsWhole p start w → Allowed g s w step → IsWhole (runs_after w step p) (start_after w step start) (after g s w step)
      whole_keeps p start w step is may =
          (step_keeps p start w step is.0 may, step_settles (λ q begun m d at are n ready recipe need_not. passed_is_up_to_date g s graph sound epoch q begun m d at.fits at.make are n ready recipe need_not no_race ways) p start w step is may)

      -- so does each legal history from a disk that fits some runs
      pub fits_is_whole : (p : Runs) (d : Disk) (steps : List Step) → Fits g s epoch p [] d → IsLegal g s (Idle d) steps → (start : ℕ) × IsWhole (runs_after_all g s (Idle d) steps p) start (after_all g s (Idle d) steps)
      fits_is_whole p d steps fits legal = kept_with_runs g s IsWhole whole_keeps p 0 (Idle d) steps (fits, tt) legal

      -- it is right
      pub fits_is_right : (p : Runs) (d : Disk) (steps : List Step) → Fits g s epoch p [] d → IsLegal g s (Idle d) steps → IsRightAt g s (after_all g s (Idle d) steps)
      fits_is_right p d steps fits legal =
          let is = fits_is_whole p d steps fits legal in
          right_at (runs_after_all g s (Idle d) steps p) is.0 (after_all g s (Idle d) steps) is.1

      -- from a start, the last run of what a recipe carries lies before its own, where it may be passed
      pub ran_in : epoch ≡ 0 → (p : Runs) (start : ℕ) (w : World) → IsWhole p start w → (t o : ℕ) → (node g t).recipe ≡ true → Allowed g s w (Pass t) → Carries g s t o → RanBefore p o t
      ran_in from_start p start (Idle d) is t o recipe may carries = absurd may
      ran_in from_start p start (Busy m d) is t o recipe may carries =
          ⊎_elim (λ none. absurd (true≢false (sym recipe ∙ none))) (λ need_not. ready_ran_after g s graph sound epoch p start m d is.0.fits is.0.make is.1 t may.0 recipe need_not from_start o carries) may.1

module _ (g : Graph) (s : Setting) (graph : IsGraph g) (sound : AreSound g s) (no_race : HaveNoRace g s) (d : Disk) (steps : List Step) (start : IsStartDisk s d) (legal : IsLegal g s (Idle d) steps) where
  -- after each legal history last runs saw what is there, or it was written since
  pub last_runs_saw : (t : ℕ) (run : WholeRun) → (runs_of g s d steps).last t ≡ Some run → (f : FileName) → Has (reads g s t) f → ContainsOrChanged g s (disk_after g s d steps) f (run.saw f) run.ended
  last_runs_saw t run is_last f read =
      let is = history_fits g s graph sound 0 no_race no_runs d steps (start_fits g s sound d start) legal in
      saw_in g s graph sound 0 no_race (runs_of g s d steps) is.0 (after_all g s (Idle d) steps) is.1 t run is_last f read

  -- and the last run of what a recipe carries lies before its own, where it may be passed
  pub carried_ran_before : HaveWays g s → (t o : ℕ) → (node g t).recipe ≡ true → Allowed g s (after_all g s (Idle d) steps) (Pass t) → Carries g s t o → RanBefore (runs_of g s d steps) o t
  carried_ran_before ways t o recipe may carries =
      let is = fits_is_whole g s graph sound 0 no_race ways no_runs d steps (start_fits g s sound d start) legal in
      ran_in g s graph sound 0 no_race ways refl (runs_of g s d steps) is.0 (after_all g s (Idle d) steps) is.1 t o recipe may carries
