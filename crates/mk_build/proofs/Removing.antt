-- The invariant over the removal of a file that none but a running recipe writes.
use Rattle.std.proofs.Common.{◌≡◌, ℕ, List, Option, Some, None, inl, inr, ⊎_elim, sym, ◌∙◌, ap, subst}
use Rattle.std.specs.Option.{option_map}
use Rattle.mk_graph.specs.Membership.{Has}
use Rattle.mk_graph.specs.Graph.{Graph}
use Rattle.mk_build.specs.Setting.{FileName, Setting, name, writes}
use Rattle.mk_build.specs.World.{File, Disk, content, HasStamp, without}
use Rattle.mk_build.specs.Runs.{WholeRun, Runs}
use Rattle.mk_build.specs.Coherent.{IsMissing, IsBoundToRun}
use Rattle.mk_build.proofs.Changes.{cases_name, changed_here, changed_there}
use Rattle.mk_build.proofs.Writing.{map_same}
use Rattle.mk_build.proofs.Invariant.{RanWhole, WasThrough, SawOrLater, Fits}

module _ (d : Disk) (f : FileName) where
  -- the file is gone
  pub gone_here : (h : FileName) → f ≡ h → (without d f).files h ≡ None
  gone_here h same = changed_here d.files f h None same

  -- another one is as it was
  pub stays_there : (h : FileName) → ¬ (f ≡ h) → (without d f).files h ≡ d.files h
  stays_there h differ = changed_there d.files f h None differ

  -- it contains what it did
  content_stays : (h : FileName) → ¬ (f ≡ h) → content (without d f) h ≡ content d h
  content_stays h differ = ap (λ (o : Option File). option_map (λ (file : File). file.content) o) (stays_there h differ)

  -- it keeps its stamp
  stamp_stays : (h : FileName) (stamp : ℕ) → ¬ (f ≡ h) → HasStamp d h stamp → HasStamp (without d f) h stamp
  stamp_stays h stamp differ has = ap (λ (o : Option File). option_map (λ (file : File). file.stamp) o) (stays_there h differ) ∙ has

  -- a stamp was there before
  stamp_was : (h : FileName) (stamp : ℕ) → HasStamp (without d f) h stamp → HasStamp d h stamp
  stamp_was h stamp has =
      ⊎_elim (λ same. let none : None ≡ Some stamp = sym (ap (λ (o : Option File). option_map (λ (file : File). file.stamp) o) (gone_here h same)) ∙ has in absurd (cc)) (λ differ. sym (ap (λ (o : Option File). option_map (λ (file : File). file.stamp) o) (stays_there h differ)) ∙ has) (cases_name f h)

  -- what wasn't there isn't
  pub none_still : (h : FileName) → d.files h ≡ None → (without d f).files h ≡ None
  none_still h none = ⊎_elim (λ same. gone_here h same) (λ differ. stays_there h differ ∙ none) (cases_name f h)

module _ (g : Graph) (s : Setting) (epoch : ℕ) (p : Runs) (running : List ℕ) (d : Disk) (fits : Fits g s epoch p running d) (x : ℕ) (f : FileName) (wrote : Has (writes g s x) f) (only : (t : ℕ) → Has (writes g s t) f → Has running t) where
  -- the file is missing
  now_missing : (h : FileName) → f ≡ h → IsMissing g s (without d f) h
  now_missing h same = (gone_here d f h same, (x, subst (λ (k : FileName). Has (writes g s x) k) same wrote))

  -- what was missing is
  still_missing : (h : FileName) → IsMissing g s d h → IsMissing g s (without d f) h
  still_missing h missing = (none_still d f h missing.0, missing.1)

  -- what isn't running doesn't write the file
  not_here : (t : ℕ) (h : FileName) → ¬ (Has running t) → Has (writes g s t) h → ¬ (f ≡ h)
  not_here t h stopped h_wrote same = stopped (only t (subst (λ (k : FileName). Has (writes g s t) k) (sym same) h_wrote))

  -- what is bound to run is so still
  bound_without : (t : ℕ) → IsBoundToRun g s d t → IsBoundToRun g s (without d f) t
  bound_without t (inl (inl always)) = inl (inl always)
  bound_without t (inl (inr (inl absent))) = inl (inr (inl (none_still d f (name g t) absent)))
  bound_without t (inl (inr (inr (q, stamp, late, need, has, has_late, less)))) =
      ⊎_elim (λ own. inl (inr (inl (gone_here d f (name g t) own)))) (λ other. ⊎_elim (λ same. inr (q, need, now_missing (name g q) same)) (λ differ. inl (inr (inr (q, stamp, late, need, stamp_stays d f (name g t) stamp other has, stamp_stays d f (name g q) late differ has_late, less)))) (cases_name f (name g q))) (cases_name f (name g t))
  bound_without t (inr (q, need, missing)) = inr (q, need, still_missing (name g q) missing)

  -- what ran whole and doesn't run is as its run left it
  ran_without : (t : ℕ) (run : WholeRun) → ¬ (Has running t) → RanWhole g s p run d t → RanWhole g s p run (without d f) t
  ran_without t run stopped ran = record {
    is_last = ran.is_last;
    begin_step = ran.begin_step;
    in_order = ran.in_order;
    whole = record {
      written = ran.whole.written;
      known = ran.whole.known;
      holds = map_same (content (without d f)) (content d) (writes g s t) (λ h h_wrote. content_stays d f h (not_here t h stopped h_wrote)) ∙ ran.whole.holds;
      early = λ h stamp h_wrote has. ran.whole.early h stamp h_wrote (stamp_was d f h stamp has);
    };
    after_begin = λ h stamp h_wrote has. ran.after_begin h stamp h_wrote (stamp_was d f h stamp has);
  }

  -- what last runs saw is there, or has changed
  saw_without : (t : ℕ) (run : WholeRun) → p.last t ≡ Some run → SawOrLater g s run (without d f) t
  saw_without t run is_last h read =
      ⊎_elim (λ same. inr (inr (now_missing h same))) (λ differ. elim (fits.saw t run is_last h read) [
        | inl sees ↦ inl (content_stays d f h differ ∙ sees)
        | inr (inl later) ↦ inr (inl (later.0, (later.1.0, stamp_stays d f h later.1.0 differ later.1.1, later.1.2)))
        | inr (inr missing) ↦ inr (inr (still_missing h missing))
      ]) (cases_name f h)

  -- what was through was through
  through_without : (t clock step : ℕ) → WasThrough g s (p.last t) running d t clock step → WasThrough g s (p.last t) running (without d f) t clock step
  through_without t clock step was = record { stopped = was.stopped; early = λ h stamp h_wrote has. was.early h stamp h_wrote (stamp_was d f h stamp has); ended = was.ended; end_step = was.end_step }

  -- the disk fits the runs after the removal
  pub fits_without : Fits g s epoch p running (without d f)
  fits_without = record {
    stamped = λ h stamp has. fits.stamped h stamp (stamp_was d f h stamp has);
    began = fits.began;
    ended = fits.ended;
    end_step = fits.end_step;
    whole = λ t recipe stopped. ⊎_elim (λ bound. inl (bound_without t bound)) (λ ran. inr (ran.0, ran_without t ran.0 stopped ran.1)) (fits.whole t recipe stopped);
    saw = saw_without;
    epoch_came = fits.epoch_came;
    apart = λ o t before. ⊎_elim (λ one. inl (through_without o (p.began t) (p.begin_step t) one)) (λ rest. inr (⊎_elim (λ two. inl (through_without t (p.began o) (p.begin_step o) two)) (λ old. inr old) rest)) (fits.apart o t before);
  }
