-- The invariant over a recipe that breaks off.
use Rattle.std.proofs.Common.{◌≡◌, ℕ, true, false, Bool, Option, Some, None, inl, inr, ⊎_elim, refl, sym, ◌∙◌, ap, subst}
use Rattle.std.specs.Prelude.{if◌then◌else◌}
use Rattle.std.specs.Option.{option_map}
use Rattle.std.proofs.lemmas.Bool.{cases_eq}
use Rattle.mk_graph.specs.Membership.{Has}
use Rattle.mk_graph.specs.Graph.{Graph, node, prerequisites, IsGraph}
use Rattle.mk_build.specs.Setting.{FileName, Setting, name, reads, writes}
use Rattle.mk_build.specs.World.{File, Disk, Making, content, HasStamp, without}
use Rattle.mk_build.specs.Steps.{MustRun, IsLeftToRun, broken_off}
use Rattle.mk_build.specs.Runs.{WholeRun, Runs}
use Rattle.mk_build.specs.Right.{AreSound, HaveNoRace}
use Rattle.mk_build.specs.Coherent.{IsBoundToRun}
use Rattle.mk_build.proofs.Changes.{changed_at_there}
use Rattle.mk_build.proofs.InOrder.{runs_not_done, broken_in_order, Has-without, Has-from_without}
use Rattle.mk_build.proofs.Sound.{reader_has_recipe, carried_is_before, writer_is_before}
use Rattle.mk_build.proofs.Writing.{map_same}
use Rattle.mk_build.proofs.Putting.{before_running, before_done}
use Rattle.mk_build.proofs.Removing.{fits_without, gone_here, stays_there}
use Rattle.mk_build.proofs.Invariant.{RanWhole, WasThrough, Fits, InMake, AreUpToDate, Holds}

module _ (g : Graph) (s : Setting) (epoch : ℕ) (p : Runs) (m : Making) (d : Disk) (fits : Fits g s epoch p m.running d) (x : ℕ) where
  -- what was through is through
  through_broken : (t clock step : ℕ) → WasThrough g s (p.last t) m.running d t clock step → WasThrough g s (p.last t) (broken_off m x).running d t clock step
  through_broken t clock step was = record { stopped = λ runs. was.stopped (Has-without x t m.running runs).0; early = was.early; ended = was.ended; end_step = was.end_step }

  -- a recipe that no longer runs and is bound to run fits
  fits_broken : IsBoundToRun g s d x → Fits g s epoch p (broken_off m x).running d
  fits_broken bound = record {
    stamped = fits.stamped;
    began = fits.began;
    ended = fits.ended;
    end_step = fits.end_step;
    whole = λ t recipe stopped. ⊎_elim (λ same. inl (subst (λ (k : ℕ). IsBoundToRun g s d k) same bound)) (λ differ. fits.whole t recipe (λ runs. stopped (Has-from_without x t m.running runs differ))) (cases_eq x t);
    saw = fits.saw;
    epoch_came = fits.epoch_came;
    apart = λ o t before. ⊎_elim (λ one. inl (through_broken o (p.began t) (p.begin_step t) one)) (λ rest. inr (⊎_elim (λ two. inl (through_broken t (p.began o) (p.begin_step o) two)) (λ old. inr (record { first_stopped = λ runs. old.first_stopped (Has-without x o m.running runs).0; second_stopped = λ runs. old.second_stopped (Has-without x t m.running runs).0; in_order = old.in_order })) rest)) (fits.apart o t before);
  }

module _ (g : Graph) (s : Setting) (graph : IsGraph g) (sound : AreSound g s) (no_race : HaveNoRace g s)
    (epoch : ℕ) (p : Runs) (start : ℕ) (m : Making) (d : Disk) (is : InMake g s epoch p start m d) (x : ℕ)
    (runs : Has m.running x) (files : FileName → Option File)
    (keeps : (h : FileName) → ¬ (Has (writes g s x) h) → files h ≡ d.files h) where
  -- the disk that is left, on which only files of the recipe may differ
  abbrev left : Disk
  left = record d { files = files }

  -- other files contain what they did
  content_kept : (h : FileName) → ¬ (Has (writes g s x) h) → content left h ≡ content d h
  content_kept h other = ap (λ (o : Option File). option_map (λ (file : File). file.content) o) (keeps h other)

  -- and have the stamps that they had
  stamp_kept : (h : FileName) (stamp : ℕ) → ¬ (Has (writes g s x) h) → HasStamp left h stamp → HasStamp d h stamp
  stamp_kept h stamp other has = sym (ap (λ (o : Option File). option_map (λ (file : File). file.stamp) o) (keeps h other)) ∙ has

  -- no other recipe writes its files
  not_written : (t : ℕ) (h : FileName) → ¬ (x ≡ t) → Has (writes g s t) h → ¬ (Has (writes g s x) h)
  not_written t h differ wrote own = differ (sound.one_writer x t h own wrote)

  -- no running recipe reads them
  not_read : (t : ℕ) (h : FileName) → Has m.running t → Has (reads g s t) h → ¬ (Has (writes g s x) h)
  not_read t h t_runs read own = before_running g m is.order x t (writer_is_before g s graph sound no_race t x h read own) t_runs runs

  -- nor did a done one
  not_read_by_done : (t : ℕ) (h : FileName) → Has m.done t → Has (reads g s t) h → ¬ (Has (writes g s x) h)
  not_read_by_done t h t_done read own =
      before_done g m is.order x t (writer_is_before g s graph sound no_race t x h read own) (reader_has_recipe g s t h read) t_done runs

  -- a done recipe is another one
  done_differs : (t : ℕ) → Has m.done t → ¬ (x ≡ t)
  done_differs t t_done same = runs_not_done g m is.order x runs (subst (λ (k : ℕ). Has m.done k) (sym same) t_done)

  -- none of its files is the target of a done recipe
  not_target : (t : ℕ) → Has m.done t → (node g t).recipe ≡ true → ¬ (Has (writes g s x) (name g t))
  not_target t t_done recipe own = not_written t (name g t) (done_differs t t_done) (sound.target t recipe (sound.not_phony x t own)) own

  -- nor a direct prerequisite of one
  not_needed : (t : ℕ) → Has m.done t → (node g t).recipe ≡ true → (q : ℕ) → Has (prerequisites g t) q → ¬ (Has (writes g s x) (name g q))
  not_needed t t_done recipe q need own = before_done g m is.order x t (carried_is_before g s graph sound t x (q, need, own)) recipe t_done runs

  -- a done recipe that must run had to
  must_before : (t : ℕ) → Has m.done t → (node g t).recipe ≡ true → MustRun g left t → MustRun g d t
  must_before t t_done recipe (inl always) = inl always
  must_before t t_done recipe (inr (inl absent)) = inr (inl (sym (keeps (name g t) (not_target t t_done recipe)) ∙ absent))
  must_before t t_done recipe (inr (inr (q, stamp, late, need, has, has_late, less))) =
      inr (inr (q, stamp, late, need, stamp_kept (name g t) stamp (not_target t t_done recipe) has, stamp_kept (name g q) late (not_needed t t_done recipe q need) has_late, less))

  -- what ran whole and is done is as its run left it
  ran_kept : (t : ℕ) (run : WholeRun) → Has m.done t → RanWhole g s p run d t → RanWhole g s p run left t
  ran_kept t run t_done ran = record {
    is_last = ran.is_last;
    begin_step = ran.begin_step;
    in_order = ran.in_order;
    whole = record {
      written = ran.whole.written;
      known = ran.whole.known;
      holds = map_same (content left) (content d) (writes g s t) (λ h wrote. content_kept h (not_written t h (done_differs t t_done) wrote)) ∙ ran.whole.holds;
      early = λ h stamp wrote has. ran.whole.early h stamp wrote (stamp_kept h stamp (not_written t h (done_differs t t_done) wrote) has);
    };
    after_begin = λ h stamp wrote has. ran.after_begin h stamp wrote (stamp_kept h stamp (not_written t h (done_differs t t_done) wrote) has);
  }

  -- what is done stays up to date
  pub break_settled : AreUpToDate g s p start m d → AreUpToDate g s p start (broken_off m x) left
  break_settled are t t_done recipe =
      let up = are t t_done recipe in
      record {
        run = up.run;
        ran = ran_kept t up.run t_done up.ran;
        sees = λ h read. content_kept h (not_read_by_done t h t_done read) ∙ up.sees h read;
        settled = ⊎_elim (λ need_not. inl (λ must. need_not (must_before t t_done recipe must))) (λ ran. inr ran) up.settled;
      }

  -- what still runs is another one, which ran
  runs_before : (t : ℕ) → Has (broken_off m x).running t → Has m.running t × (¬ (x ≡ t))
  runs_before t t_runs = Has-without x t m.running t_runs

  -- what it has seen and put is as before
  seen_before : (t : ℕ) (h : FileName) (v : Option ℕ) → Has (broken_off m x).running t → (broken_off m x).seen t h ≡ Some v → m.seen t h ≡ Some v
  seen_before t h v t_runs e = sym (ap (λ (at : FileName → Option (Option ℕ)). at h) (changed_at_there m.seen x t (λ k. None) (runs_before t t_runs).1)) ∙ e

  put_before : (t : ℕ) (h : FileName) (c : ℕ) → Has (broken_off m x).running t → (broken_off m x).put t h ≡ Some c → m.put t h ≡ Some c
  put_before t h c t_runs e = sym (ap (λ (at : FileName → Option ℕ). at h) (changed_at_there m.put x t (λ k. None) (runs_before t t_runs).1)) ∙ e

  -- the make in progress after the break
  break_make : InMake g s epoch p start (broken_off m x) left
  break_make = record {
    order = broken_in_order g m is.order x;
    start_came = is.start_came;
    epoch_before = is.epoch_before;
    seen = λ t h v t_runs read e. let ran = runs_before t t_runs in content_kept h (not_read t h ran.0 read) ∙ is.seen t h v ran.0 read (seen_before t h v t_runs e);
    put = λ t h c t_runs wrote e. let ran = runs_before t t_runs in content_kept h (not_written t h ran.1 wrote) ∙ is.put t h c ran.0 wrote (put_before t h c t_runs e);
    put_late = λ t h c stamp t_runs wrote e has. let ran = runs_before t t_runs in is.put_late t h c stamp ran.0 wrote (put_before t h c t_runs e) (stamp_kept h stamp (not_written t h ran.1 wrote) has);
    waits = λ t not_done stopped not_broken. is.waits t not_done (λ t_runs. stopped (Has-from_without x t m.running t_runs (λ same. not_broken (inl same)))) (λ broke. not_broken (inr broke));
    runs = λ t t_runs. is.runs t (runs_before t t_runs).0;
  }

  -- the invariant after the break, if the recipe is bound to run then
  pub break_holds : Fits g s epoch p m.running left → IsBoundToRun g s left x → Holds g s epoch p start (broken_off m x) left
  break_holds fits bound = record { fits = fits_broken g s epoch p m left fits x bound; make = break_make }

module _ (g : Graph) (s : Setting) (graph : IsGraph g) (sound : AreSound g s) (no_race : HaveNoRace g s)
    (epoch : ℕ) (p : Runs) (start : ℕ) (m : Making) (d : Disk) (fits : Fits g s epoch p m.running d)
    (is : InMake g s epoch p start m d) (x : ℕ) (runs : Has m.running x) where
  -- no other file than a target that the recipe writes is removed
  only_target : Has (writes g s x) (name g x) → (h : FileName) → ¬ (Has (writes g s x) h) → (without d (name g x)).files h ≡ d.files h
  only_target wrote h other = stays_there d (name g x) h (λ same. other (subst (λ (k : FileName). Has (writes g s x) k) same wrote))

  -- the invariant after a break, in which the target is removed or not
  pub broken_holds : (removed : Bool) → IsLeftToRun g s d x removed → Holds g s epoch p start (broken_off m x) (if removed then without d (name g x) else d)
  broken_holds true wrote =
      break_holds g s graph sound no_race epoch p start m d is x runs (without d (name g x)).files (only_target wrote) (fits_without g s epoch p m.running d fits x (name g x) wrote (λ t own. subst (λ (k : ℕ). Has m.running k) (sound.one_writer x t (name g x) wrote own) runs)) (inl (inr (inl (gone_here d (name g x) (name g x) refl))))
  broken_holds false must = break_holds g s graph sound no_race epoch p start m d is x runs d.files (λ h other. refl) fits (inl must)

  -- what is done stays up to date
  pub broken_settled : (removed : Bool) → IsLeftToRun g s d x removed → AreUpToDate g s p start m d → AreUpToDate g s p start (broken_off m x) (if removed then without d (name g x) else d)
  broken_settled true wrote are = break_settled g s graph sound no_race epoch p start m d is x runs (without d (name g x)).files (only_target wrote) are
  broken_settled false must are = break_settled g s graph sound no_race epoch p start m d is x runs d.files (λ h other. refl) are
