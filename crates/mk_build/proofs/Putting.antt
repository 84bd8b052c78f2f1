-- The invariant over a writing and a look of a running recipe.
use Rattle.std.proofs.Common.{◌≡◌, ℕ, true, Option, Some, ◌⊎◌, inl, inr, ⊎_elim, sym, ◌∙◌, ap, subst, arith}
use Rattle.std.proofs.lemmas.Bool.{cases_eq}
use Rattle.mk_graph.specs.Membership.{Has}
use Rattle.mk_graph.specs.Graph.{Graph, node, prerequisites, IsGraph}
use Rattle.mk_build.specs.Setting.{FileName, Setting, name, reads, writes}
use Rattle.mk_build.specs.World.{Disk, Making, content, written, changed}
use Rattle.mk_graph.specs.Schedules.{Before}
use Rattle.mk_build.specs.Steps.{has_put, looked}
use Rattle.mk_build.specs.Runs.{Runs}
use Rattle.mk_build.specs.Right.{AreSound, HaveNoRace}
use Rattle.mk_build.proofs.Changes.{cases_name, changed_here, changed_there, changed_at_here, changed_at_there}
use Rattle.mk_graph.proofs.Turning.{turn_has_before}
use Rattle.mk_build.proofs.InOrder.{InOrder, runs_not_done}
use Rattle.mk_build.proofs.Sound.{reader_has_recipe, carried_is_before, written_can_change, writer_is_before}
use Rattle.mk_build.proofs.Invariant.{Fits, InMake, AreUpToDate, Holds}
use Rattle.mk_build.proofs.Writing.{content_here, content_there, stamp_is, stamp_there, ran_written, fits_written, must_written}

-- a recipe that is before a running or done one doesn't run
module _ (g : Graph) (m : Making) (order : InOrder g m) (o t : ℕ) (before : Before g o t) where
  pub before_running : Has m.running t → ¬ (Has m.running o)
  before_running runs o_runs = runs_not_done g m order o o_runs (before (order.recipes t runs) m.goals m.done order.part order.turns (order.running t runs))

  pub before_done : (node g t).recipe ≡ true → Has m.done t → ¬ (Has m.running o)
  before_done recipe done o_runs = runs_not_done g m order o o_runs (turn_has_before g m.goals order.part o t recipe before m.done order.turns done)

module _ (g : Graph) (s : Setting) (graph : IsGraph g) (sound : AreSound g s) (no_race : HaveNoRace g s)
    (epoch : ℕ) (p : Runs) (start : ℕ) (m : Making) (d : Disk) (fits : Fits g s epoch p m.running d)
    (is : InMake g s epoch p start m d) (x : ℕ) (f : FileName) (c : ℕ) (runs : Has m.running x)
    (wrote : Has (writes g s x) f) where
  -- only the recipe that puts it writes the file
  only_it : (t : ℕ) → Has (writes g s t) f → Has m.running t
  only_it t h = subst (λ (k : ℕ). Has m.running k) (sound.one_writer x t f wrote h) runs

  -- no other running recipe reads it
  not_read : (t : ℕ) (h : FileName) → Has m.running t → Has (reads g s t) h → ¬ (f ≡ h)
  not_read t h t_runs read same = before_running g m is.order x t (writer_is_before g s graph sound no_race t x f (subst (λ (k : FileName). Has (reads g s t) k) (sym same) read) wrote) t_runs runs

  -- nor did one that is done
  not_read_by_done : (t : ℕ) (h : FileName) → Has m.done t → Has (reads g s t) h → ¬ (f ≡ h)
  not_read_by_done t h t_done read same =
      let same_read = subst (λ (k : FileName). Has (reads g s t) k) (sym same) read in
      before_done g m is.order x t (writer_is_before g s graph sound no_race t x f same_read wrote) (reader_has_recipe g s t f same_read) t_done runs

  -- it isn't the target of a done recipe
  not_target : (t : ℕ) → Has m.done t → (node g t).recipe ≡ true → ¬ (f ≡ name g t)
  not_target t t_done recipe same =
      let target_written : Has (writes g s x) (name g t) = subst (λ (k : FileName). Has (writes g s x) k) same wrote in
      let own = sound.target t recipe (sound.not_phony x t target_written) in
      runs_not_done g m is.order x runs (subst (λ (k : ℕ). Has m.done k) (sound.one_writer t x (name g t) own target_written) t_done)

  -- nor a direct prerequisite of one
  not_needed : (t : ℕ) → Has m.done t → (node g t).recipe ≡ true → (q : ℕ) → Has (prerequisites g t) q → ¬ (f ≡ name g q)
  not_needed t t_done recipe q need same =
      before_done g m is.order x t (carried_is_before g s graph sound t x (q, need, subst (λ (k : FileName). Has (writes g s x) k) same wrote)) recipe t_done runs

  -- a done recipe stays up to date
  pub put_settled : AreUpToDate g s p start m d → AreUpToDate g s p start (has_put m x f c) (written d f c)
  put_settled are t t_done recipe =
      let up = are t t_done recipe in
      record {
        run = up.run;
        ran = ran_written g s epoch p m.running d fits f c (written_can_change g s graph sound x f wrote) only_it t up.run (λ h. runs_not_done g m is.order t h t_done) up.ran;
        sees = λ h read. content_there d f c h (not_read_by_done t h t_done read) ∙ up.sees h read;
        settled = ⊎_elim (λ need_not. inl (λ must. need_not (must_written g s epoch p m.running d fits f c (written_can_change g s graph sound x f wrote) only_it t (not_target t t_done recipe) (not_needed t t_done recipe) must))) (λ ran. inr ran) up.settled;
      }

  -- what a recipe has put after this: the file that is put now, or one from before
  put_cases : (t : ℕ) (h : FileName) (new : ℕ) → Has m.running t → Has (writes g s t) h → (has_put m x f c).put t h ≡ Some new → ((f ≡ h) × (c ≡ new)) ⊎ ((¬ (f ≡ h)) × (m.put t h ≡ Some new))
  put_cases t h new t_runs h_wrote e =
      ⊎_elim (λ same. let e1 : (has_put m x f c).put t ≡ changed (m.put x) f (Some c) = changed_at_here m.put
      x t (changed (m.put x) f (Some c)) same in let e2 : changed (m.put x) f (Some c) h
      ≡ Some new = sym (ap (λ (at : FileName → Option ℕ). at h) e1)
      ∙ e in ⊎_elim (λ here. let e3 : Some c ≡ Some new = sym (changed_here (m.put x) f h (Some c) here)
      ∙ e2 in inl (here, cc)) (λ there. inr (
        there,
        subst (λ (k : ℕ). m.put k h ≡ Some new) same
            (sym (changed_there (m.put x) f h (Some c) there) ∙ e2),
      )) (cases_name f h))
      (λ differ. let e1 : (has_put m x f c).put t ≡ m.put t = changed_at_there m.put x t
      (changed (m.put x) f (Some c)) differ in inr (
        λ same. differ
            (sound.one_writer x t h (subst (λ (k : FileName). Has (writes g s x) k) same wrote) h_wrote),
        sym
            (ap (λ (at : FileName → Option ℕ). at h) e1) ∙ e,
      )) (cases_eq x t)

  -- the invariant after a writing of a running recipe
  pub put_holds : Holds g s epoch p start (has_put m x f c) (written d f c)
  put_holds = record {
    fits = fits_written g s epoch p m.running d fits f c (written_can_change g s graph sound x f wrote) only_it sound;
    make = record {
      order = record { part = is.order.part; turns = is.order.turns; recipes = is.order.recipes; running = is.order.running };
      start_came = let came = is.start_came in omega arith;
      epoch_before = is.epoch_before;
      seen = λ t h v t_runs read e. content_there d f c h (not_read t h t_runs read) ∙ is.seen t h v t_runs read e;
      put = λ t h new t_runs h_wrote e. ⊎_elim (λ here. content_here d f c h here.0 ∙ ap (λ k. Some k) here.1) (λ there. content_there d f c h there.0 ∙ is.put t h new t_runs h_wrote there.1) (put_cases t h new t_runs h_wrote e);
      put_late = λ t h new stamp t_runs h_wrote e has. ⊎_elim (λ here. let now = stamp_is d f c h stamp here.0 has in let came = fits.began t in omega arith) (λ there. is.put_late t h new stamp t_runs h_wrote there.1 (stamp_there d f c h stamp there.0 has)) (put_cases t h new t_runs h_wrote e);
      waits = is.waits;
      runs = is.runs;
    };
  }

module _ (g : Graph) (s : Setting) (epoch : ℕ) (p : Runs) (start : ℕ) (m : Making) (d : Disk) (fits : Fits g s epoch p m.running d) (is : InMake g s epoch p start m d) (x : ℕ) (f : FileName) where
  -- what a recipe has seen after this is there
  look_cases : (t : ℕ) (h : FileName) (v : Option ℕ) → Has m.running t → Has (reads g s t) h → (looked m x f (content d f)).seen t h ≡ Some v → content d h ≡ v
  look_cases t h v t_runs read e =
      ⊎_elim (λ same. let e1 : (looked m x f (content d f)).seen t
      ≡ changed (m.seen x) f (Some (content d f)) = changed_at_here m.seen x t
      (changed (m.seen x) f (Some (content d f))) same in let e2 : changed (m.seen x) f
      (Some (content d f)) h ≡ Some v = sym (ap (λ (at : FileName → Option (Option ℕ)). at h) e1)
      ∙ e in ⊎_elim (λ here. let e3 : Some (content d f)
      ≡ Some v = sym (changed_here (m.seen x) f h (Some (content d f)) here) ∙ e2 in let e4 : content d f
      ≡ v = cc in subst (λ (k : FileName). content d k ≡ v) here e4)
      (λ there. is.seen t h v t_runs read (subst (λ (k : ℕ). m.seen k h ≡ Some v) same
      (sym (changed_there (m.seen x) f h (Some (content d f)) there) ∙ e2))) (cases_name f h))
      (λ differ. is.seen t h v t_runs read (sym (ap (λ (at : FileName → Option (Option ℕ)). at h)
      (changed_at_there m.seen x t (changed (m.seen x) f (Some (content d f))) differ)) ∙ e))
      (cases_eq x t)

  -- the invariant after a look
  pub look_holds : Holds g s epoch p start (looked m x f (content d f)) d
  look_holds = record {
    fits = fits;
    make = record {
      order = record { part = is.order.part; turns = is.order.turns; recipes = is.order.recipes; running = is.order.running };
      start_came = is.start_came;
      epoch_before = is.epoch_before;
      seen = look_cases;
      put = is.put;
      put_late = is.put_late;
      waits = is.waits;
      runs = is.runs;
    };
  }
