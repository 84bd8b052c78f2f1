-- The invariant over a writing of a file that none but a running recipe writes.
use Rattle.std.proofs.Common.{◌≡◌, ℕ, ◌+◌, List, [], ◌∷◌, true, Option, Some, None, map, ◌⊎◌, inl, inr, ⊎_elim, refl, sym, ◌∙◌, ap, subst, arith}
use Rattle.std.proofs.lemmas.Bool.{cases_Bool}
use Rattle.std.specs.Option.{option_map}
use Rattle.mk_graph.specs.Membership.{Has}
use Rattle.mk_graph.specs.Graph.{Graph, node, prerequisites}
use Rattle.mk_build.specs.Setting.{FileName, Setting, name, writes}
use Rattle.mk_build.specs.World.{File, Disk, content, HasStamp, written}
use Rattle.mk_build.specs.Steps.{MustRun}
use Rattle.mk_build.specs.Runs.{WholeRun, Runs}
use Rattle.mk_build.specs.Ways.{CanChange}
use Rattle.mk_build.specs.Right.{AreSound}
use Rattle.mk_build.specs.Coherent.{IsMissing, IsBoundToRun}
use Rattle.mk_build.proofs.Changes.{cases_name, changed_here, changed_there}
use Rattle.mk_build.proofs.Invariant.{HasRunWhole, RanWhole, WasThrough, SawOrLater, Fits}

-- two lists of what is found at names are equal where it is equal at each
pub map_same : {A : Type 0} (one other : FileName → A) (files : List FileName) → ((f : FileName) → Has files f → one f ≡ other f) → map one files ≡ map other files
map_same one other [] same = refl
map_same one other (f ∷ files) same = let here = same f (inl refl) in let rest = map_same one other files (λ h there. same h (inr there)) in cc

-- a file that is there has a stamp
pub cases_file : (d : Disk) (f : FileName) → (d.files f ≡ None) ⊎ ((stamp : ℕ) × HasStamp d f stamp)
cases_file d f = cases_option (d.files f) refl where
  cases_option : (o : Option File) → d.files f ≡ o → (d.files f ≡ None) ⊎ ((stamp : ℕ) × HasStamp d f stamp)
  cases_option None e = inl e
  cases_option (Some file) e = inr (file.stamp, ap (λ (x : Option File). option_map (λ (y : File). y.stamp) x) e)

-- two stamps of one file are equal
pub one_stamp : (d : Disk) (f : FileName) (a b : ℕ) → HasStamp d f a → HasStamp d f b → a ≡ b
one_stamp d f a b at_a at_b = let both : Some a ≡ Some b = sym at_a ∙ at_b in cc

module _ (d : Disk) (f : FileName) (c : ℕ) where
  -- the file that is written holds what was written
  pub content_here : (h : FileName) → f ≡ h → content (written d f c) h ≡ Some c
  content_here h same = ap (λ o. option_map (λ (file : File). file.content) o) (changed_here d.files f h (Some (record { content = c; stamp = d.clock + 1 })) same)

  -- another one holds what it held
  pub content_there : (h : FileName) → ¬ (f ≡ h) → content (written d f c) h ≡ content d h
  content_there h differ = ap (λ o. option_map (λ (file : File). file.content) o) (changed_there d.files f h (Some (record { content = c; stamp = d.clock + 1 })) differ)

  -- the file that is written has the next stamp
  pub stamp_here : (h : FileName) → f ≡ h → HasStamp (written d f c) h (d.clock + 1)
  stamp_here h same = ap (λ o. option_map (λ (file : File). file.stamp) o) (changed_here d.files f h (Some (record { content = c; stamp = d.clock + 1 })) same)

  -- and no other
  pub stamp_is : (h : FileName) (stamp : ℕ) → f ≡ h → HasStamp (written d f c) h stamp → stamp ≡ d.clock + 1
  stamp_is h stamp same has = one_stamp (written d f c) h stamp (d.clock + 1) has (stamp_here h same)

  -- another file has the stamp that it had
  pub stamp_there : (h : FileName) (stamp : ℕ) → ¬ (f ≡ h) → HasStamp (written d f c) h stamp → HasStamp d h stamp
  stamp_there h stamp differ has = sym (ap (λ o. option_map (λ (file : File). file.stamp) o) (changed_there d.files f h (Some (record { content = c; stamp = d.clock + 1 })) differ)) ∙ has

  -- and keeps it
  pub stamp_kept : (h : FileName) (stamp : ℕ) → ¬ (f ≡ h) → HasStamp d h stamp → HasStamp (written d f c) h stamp
  stamp_kept h stamp differ has = ap (λ o. option_map (λ (file : File). file.stamp) o) (changed_there d.files f h (Some (record { content = c; stamp = d.clock + 1 })) differ) ∙ has

module _ (g : Graph) (s : Setting) (epoch : ℕ) (p : Runs) (running : List ℕ) (d : Disk) (fits : Fits g s epoch p running d) (f : FileName) (c : ℕ) (can : CanChange s f) (only : (t : ℕ) → Has (writes g s t) f → Has running t) where
  -- what isn't running doesn't write the file
  not_here : (t : ℕ) (h : FileName) → ¬ (Has running t) → Has (writes g s t) h → ¬ (f ≡ h)
  not_here t h stopped wrote same = stopped (only t (subst (λ (k : FileName). Has (writes g s t) k) (sym same) wrote))

  -- the stamps of what it writes stay
  own_stamp : (t : ℕ) (h : FileName) (stamp : ℕ) → ¬ (Has running t) → Has (writes g s t) h → HasStamp (written d f c) h stamp → HasStamp d h stamp
  own_stamp t h stamp stopped wrote has = stamp_there d f c h stamp (not_here t h stopped wrote) has

  -- what is as its last whole run left it is so still
  pub whole_written : (t : ℕ) (run : WholeRun) → ¬ (Has running t) → HasRunWhole g s run d t → HasRunWhole g s run (written d f c) t
  whole_written t run stopped is = record {
    written = is.written;
    known = is.known;
    holds = map_same (content (written d f c)) (content d) (writes g s t) (λ h wrote. content_there d f c h (not_here t h stopped wrote)) ∙ is.holds;
    early = λ h stamp wrote has. is.early h stamp wrote (own_stamp t h stamp stopped wrote has);
  }

  -- so is what ran whole, which it last began
  pub ran_written : (t : ℕ) (run : WholeRun) → ¬ (Has running t) → RanWhole g s p run d t → RanWhole g s p run (written d f c) t
  ran_written t run stopped ran = record {
    is_last = ran.is_last;
    begin_step = ran.begin_step;
    in_order = ran.in_order;
    whole = whole_written t run stopped ran.whole;
    after_begin = λ h stamp wrote has. ran.after_begin h stamp wrote (own_stamp t h stamp stopped wrote has);
  }

  -- another file that is missing is so still
  missing_there : (h : FileName) → ¬ (f ≡ h) → IsMissing g s d h → IsMissing g s (written d f c) h
  missing_there h differ missing = (changed_there d.files f h (Some (record { content = c; stamp = d.clock + 1 })) differ ∙ missing.0, missing.1)

  -- the file that is written was written after each whole run; of others it stays what last runs saw
  saw_written : (t : ℕ) (run : WholeRun) → p.last t ≡ Some run → SawOrLater g s run (written d f c) t
  saw_written t run is_last h read =
      ⊎_elim (λ same. let ended = fits.ended t run is_last in inr (inl (
        subst (λ (k : FileName). CanChange s k) same can,
        (d.clock + 1, stamp_here d f c h same, omega arith),
      )))
      (λ differ. ⊎_elim (λ sees. inl (content_there d f c h differ ∙ sees))
      (λ changed. ⊎_elim
      (λ late. inr (inl (late.0, (late.1.0, stamp_kept d f c h late.1.0 differ late.1.1, late.1.2))))
      (λ missing. inr (inr (missing_there h differ missing))) changed)
      (fits.saw t run is_last h read)) (cases_name f h)

  -- what was through was through
  through_written : (t clock step : ℕ) → WasThrough g s (p.last t) running d t clock step → WasThrough g s (p.last t) running (written d f c) t clock step
  through_written t clock step is = record { stopped = is.stopped; early = λ h stamp wrote has. is.early h stamp wrote (own_stamp t h stamp is.stopped wrote has); ended = is.ended; end_step = is.end_step }

  -- what is bound to run is so still, if the file isn't its target
  bound_written : (t : ℕ) → ¬ (f ≡ name g t) → IsBoundToRun g s d t → IsBoundToRun g s (written d f c) t
  bound_written t own (inl (inl always)) = inl (inl always)
  bound_written t own (inl (inr (inl absent))) = inl (inr (inl (changed_there d.files f (name g t) (Some (record { content = c; stamp = d.clock + 1 })) own ∙ absent)))
  bound_written t own (inl (inr (inr (q, stamp, late, need, has, has_late, less)))) =
      let kept = stamp_kept d f c (name g t) stamp own has in
      let came = fits.stamped (name g t) stamp has in
      ⊎_elim (λ same. inl (inr (inr (q, stamp, d.clock + 1, need, kept, stamp_here d f c (name g q) same, omega arith)))) (λ differ. inl (inr (inr (q, stamp, late, need, kept, stamp_kept d f c (name g q) late differ has_late, less)))) (cases_name f (name g q))
  bound_written t own (inr (q, need, missing)) =
      ⊎_elim (λ same. now_later (cases_file d (name g t)) same) (λ differ. inr (q, need, missing_there (name g q) differ missing)) (cases_name f (name g q)) where
        now_later : (d.files (name g t) ≡ None) ⊎ ((stamp : ℕ) × HasStamp d (name g t) stamp) → f ≡ name g q → IsBoundToRun g s (written d f c) t
        now_later (inl absent) same = inl (inr (inl (changed_there d.files f (name g t) (Some (record { content = c; stamp = d.clock + 1 })) own ∙ absent)))
        now_later (inr (stamp, has)) same = let came = fits.stamped (name g t) stamp has in inl (inr (inr (q, stamp, d.clock + 1, need, stamp_kept d f c (name g t) stamp own has, stamp_here d f c (name g q) same, omega arith)))

  -- the target of a recipe that isn't always made is its own file, so a recipe that doesn't run and is bound to run is so still
  module _ (sound : AreSound g s) where
    stays_bound : (t : ℕ) → (node g t).recipe ≡ true → ¬ (Has running t) → IsBoundToRun g s d t → IsBoundToRun g s (written d f c) t
    stays_bound t recipe stopped bound =
        ⊎_elim (λ phony. inl (inl (inl phony))) (λ not_phony. bound_written t (not_here t (name g t) stopped (sound.target t recipe not_phony)) bound) (cases_Bool (node g t).phony)

  -- the disk fits the runs after the writing
  pub fits_written : AreSound g s → Fits g s epoch p running (written d f c)
  fits_written sound = record {
    stamped = λ h stamp has. ⊎_elim (λ same. let new = stamp_is d f c h stamp same has in omega arith) (λ differ. let came = fits.stamped h stamp (stamp_there d f c h stamp differ has) in omega arith) (cases_name f h);
    began = λ t. let came = fits.began t in omega arith;
    ended = λ t run is_last. let came = fits.ended t run is_last in omega arith;
    end_step = fits.end_step;
    whole = λ t recipe stopped. ⊎_elim (λ bound. inl (stays_bound sound t recipe stopped bound)) (λ ran. inr (ran.0, ran_written t ran.0 stopped ran.1)) (fits.whole t recipe stopped);
    saw = saw_written;
    epoch_came = let came = fits.epoch_came in omega arith;
    apart = λ o t before. ⊎_elim (λ one. inl (through_written o (p.began t) (p.begin_step t) one)) (λ rest. inr (⊎_elim (λ other. inl (through_written t (p.began o) (p.begin_step o) other)) (λ old. inr old) rest)) (fits.apart o t before);
  }

  -- a recipe that must run after the writing had to run before it, if the file is neither its target nor one of its
  -- direct prerequisites
  pub must_written : (t : ℕ) → ¬ (f ≡ name g t) → ((q : ℕ) → Has (prerequisites g t) q → ¬ (f ≡ name g q)) → MustRun g (written d f c) t → MustRun g d t
  must_written t own needs (inl always) = inl always
  must_written t own needs (inr (inl absent)) = inr (inl (sym (changed_there d.files f (name g t) (Some (record { content = c; stamp = d.clock + 1 })) own) ∙ absent))
  must_written t own needs (inr (inr (q, stamp, late, need, has, has_late, less))) = inr (inr (q, stamp, late, need, stamp_there d f c (name g t) stamp own has, stamp_there d f c (name g q) late (needs q need) has_late, less))
