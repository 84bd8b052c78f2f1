-- One make from a start: what waits has no file yet, so that it must run.
use Rattle.std.proofs.Common.{◌≡◌, ℕ, ◌+◌, List, [], ◌∷◌, true, false, Some, inl, inr, ⊎_elim, ◌∙◌, subst}
use Rattle.std.specs.Prelude.{if◌then◌else◌}
use Rattle.mk_graph.specs.Membership.{Has}
use Rattle.mk_graph.specs.Graph.{Graph, node, IsGraph}
use Rattle.mk_build.specs.Setting.{FileName, Setting, name, writes}
use Rattle.mk_build.specs.World.{Disk, Making, World, Idle, Busy, IsStartDisk, content, written, without}
use Rattle.mk_build.specs.Steps.{Step, Edit, Make, Begin, Look, Put, End, Break, Pass, Stop, EndMake, MustRun, Ready, Allowed, after, make_of, finished, looked, has_put, broken_off, IsLegal, after_all}
use Rattle.mk_build.specs.Runs.{Runs, no_runs, runs_after}
use Rattle.mk_build.specs.Right.{AreSound, HaveNoRace, IsRightAt}
use Rattle.mk_build.specs.BuildLaws.{IsInside, AreInside}
use Rattle.mk_build.proofs.Changes.{cases_name, changed_there}
use Rattle.mk_build.proofs.InOrder.{Has-from_without}
use Rattle.mk_build.proofs.Invariant.{IsSettled, start_after, up_later}
use Rattle.mk_build.proofs.Beginning.{begin_settled}
use Rattle.mk_build.proofs.Putting.{put_settled}
use Rattle.mk_build.proofs.Ending.{end_settled}
use Rattle.mk_build.proofs.Removing.{none_still}
use Rattle.mk_build.proofs.Breaking.{broken_settled}
use Rattle.mk_build.proofs.Histories.{IsUntouched, untouched_at_start, untouched_must_run, start_fits, make_holds, step_keeps, PassesUpToDate, pass_keeps_settled, IsWhole, right_at}

module _ (g : Graph) (s : Setting) (graph : IsGraph g) (sound : AreSound g s) (no_race : HaveNoRace g s) where
  -- no file of what waits is there
  abbrev WaitUntouched : Making → Disk → Type 0
  WaitUntouched m d = (t : ℕ) → ¬ (Has m.done t) → ¬ (Has m.running t) → ¬ (Has m.broken t) → IsUntouched g s sound d t

  -- what is ready has no file, so it must run
  ready_must_run : (m : Making) (d : Disk) → WaitUntouched m d → (t : ℕ) → Ready g m t → (node g t).recipe ≡ true → MustRun g d t
  ready_must_run m d none t ready recipe = untouched_must_run g s sound d t recipe (none t ready.0.not_done ready.1 ready.2)

  -- what waits in a world has no file
  abbrev HaveNoFile : World → Type 0
  HaveNoFile (Idle d) = ⊥
  HaveNoFile (Busy m d) = WaitUntouched m d

  -- nothing is passed that has a recipe
  none_passed : (p : Runs) (start : ℕ) (m : Making) (d : Disk) → WaitUntouched m d → PassesUpToDate g s graph sound 0 no_race p start m d
  none_passed p start m d none n ready recipe need_not = absurd (need_not (ready_must_run m d none n ready recipe))

  -- what waits after one is finished waited
  waits_on : (m : Making) (x t : ℕ) → ¬ (Has (x ∷ m.done) t) → ¬ (x ≡ t)
  waits_on m x t not_done same = not_done (inl same)

  -- what waits after a node was finished has no file
  finished_waits : (m : Making) (d : Disk) (x : ℕ) → WaitUntouched m d → WaitUntouched (finished m x) d
  finished_waits m d x none o not_done stopped not_broken = none o (λ done. not_done (inr done)) (λ runs. stopped (Has-from_without x o m.running runs (waits_on m x o not_done))) not_broken

  -- nor has what waits after a recipe broke off
  broken_waits : (m : Making) (d : Disk) (x : ℕ) → WaitUntouched m d → WaitUntouched (broken_off m x) d
  broken_waits m d x none o not_done stopped not_broken = none o not_done (λ runs. stopped (Has-from_without x o m.running runs (λ same. not_broken (inl same)))) (λ broke. not_broken (inr broke))

  -- each step inside a make leaves it so
  inside_waits : (w : World) (step : Step) → IsInside step → HaveNoFile w → Allowed g s w step → HaveNoFile (after g s w step)
  inside_waits (Idle d) other inside none may = absurd none
  inside_waits (Busy m d) (Edit f c) inside none may = absurd inside
  inside_waits (Busy m d) (Make jobs goals) inside none may = absurd inside
  inside_waits (Busy m d) (Begin t) inside none may = λ o not_done stopped not_broken. none o not_done (λ runs. stopped (inr runs)) not_broken
  inside_waits (Busy m d) (Look t f) inside none may = none
  inside_waits (Busy m d) (Put t f c) inside none may =
      λ o not_done stopped not_broken h wrote. ⊎_elim (λ same. absurd
      (stopped (subst (λ (k : ℕ). Has m.running k) (sound.one_writer t o h
      (subst (λ (k : FileName). Has (writes g s t) k) same may.1) wrote) may.0)))
      (λ differ. changed_there d.files f h (Some (record { content = c; stamp = d.clock + 1 })) differ
      ∙ none o not_done stopped not_broken h wrote) (cases_name f h)
  inside_waits (Busy m d) (End t) inside none may = finished_waits m d t none
  inside_waits (Busy m d) (Break t true) inside none may = λ o not_done stopped not_broken h wrote. none_still d (name g t) h (broken_waits m d t none o not_done stopped not_broken h wrote)
  inside_waits (Busy m d) (Break t false) inside none may = broken_waits m d t none
  inside_waits (Busy m d) (Pass n) inside none may = finished_waits m d n none
  inside_waits (Busy m d) Stop inside none may = absurd inside
  inside_waits (Busy m d) EndMake inside none may = absurd inside

  -- what is done stays up to date
  inside_settles : (p : Runs) (start : ℕ) (w : World) (step : Step) → IsInside step → HaveNoFile w → IsWhole g s graph sound 0 no_race p start w → Allowed g s w step → IsSettled g s (runs_after w step p) (start_after w step start) (after g s w step)
  inside_settles p start (Idle d) other inside none is may = absurd none
  inside_settles p start (Busy m d) (Edit f c) inside none is may = absurd inside
  inside_settles p start (Busy m d) (Make jobs goals) inside none is may = absurd inside
  inside_settles p start (Busy m d) (Begin t) inside none is may = begin_settled g s graph sound 0 p start m d is.0.fits is.0.make t may.0 may.1 is.1
  inside_settles p start (Busy m d) (Look t f) inside none is may = up_later g s p start (looked m t f (content d f)) d is.1
  inside_settles p start (Busy m d) (Put t f c) inside none is may = up_later g s p start (has_put m t f c) (written d f c) (put_settled g s graph sound no_race 0 p start m d is.0.fits is.0.make t f c may.0 may.1 is.1)
  inside_settles p start (Busy m d) (End t) inside none is may = end_settled g s 0 p start m d is.0.fits is.0.make t may is.1
  inside_settles p start (Busy m d) (Break t removed) inside none is may = up_later g s p start (broken_off m t) (if removed then without d (name g t) else d) (broken_settled g s graph sound no_race 0 p start m d is.0.fits is.0.make t may.0 removed may.1 is.1)
  inside_settles p start (Busy m d) (Pass n) inside none is may = up_later g s p start (finished m n) d (pass_keeps_settled g s graph sound 0 no_race p start m d n is.0 is.1 (none_passed p start m d none) may)
  inside_settles p start (Busy m d) Stop inside none is may = absurd inside
  inside_settles p start (Busy m d) EndMake inside none is may = absurd inside

  -- what a first make leaves is right
  all_right : (p : Runs) (start : ℕ) (w : World) (steps : List Step) → AreInside steps → HaveNoFile w → IsWhole g s graph sound 0 no_race p start w → IsLegal g s w steps → IsRightAt g s (after_all g s w steps)
  all_right p start w [] inside none is legal = right_at g s graph sound 0 no_race p start w is
  all_right p start w (step ∷ steps) inside none is legal =
      all_right (runs_after w step p) (start_after w step start) (after g s w step) steps inside.1 (inside_waits w step inside.0 none legal.0) (step_keeps g s graph sound 0 no_race p start w step is.0 legal.0, inside_settles p start w step inside.0 none is legal.0) legal.1

  -- one make from a start is right
  pub one_build : (d : Disk) (jobs : ℕ) (goals : List ℕ) (steps : List Step) → IsStartDisk s d → AreInside steps → IsLegal g s (Idle d) (Make jobs goals ∷ steps) → IsRightAt g s (after_all g s (Idle d) (Make jobs goals ∷ steps))
  one_build d jobs goals steps start inside legal =
      all_right no_runs d.clock (Busy (make_of jobs goals) d) steps inside (λ t not_done stopped not_broken. untouched_at_start g s sound d start t) (make_holds g s graph sound 0 no_runs d jobs goals (start_fits g s sound d start) legal.0.1, λ t done. absurd done) legal.1
