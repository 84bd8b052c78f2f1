-- Histories from coherent disks: they keep them coherent, and are right.
use Rattle.std.proofs.Common.{◌≡◌, ℕ, ◌≤◌, List, [], ◌∷◌, true, Option, Some, None, map, inl, inr, ⊎_elim, refl, sym, ◌∙◌, ap, subst, arith}
use Rattle.std.specs.Option.{option_map}
use Rattle.mk_graph.specs.Membership.{Has}
use Rattle.mk_graph.specs.Graph.{Graph, node, IsGraph}
use Rattle.mk_build.specs.Setting.{FileName, Setting, name, reads, writes}
use Rattle.mk_build.specs.World.{File, Disk, World, Idle, Busy, IsStartDisk, content, WasWrittenAfter, written, outcome}
use Rattle.mk_build.specs.Steps.{Step, IsLegal, after_all}
use Rattle.mk_build.specs.Runs.{WholeRun, Runs, runs_after_all}
use Rattle.mk_build.specs.Clean.{IsFresh}
use Rattle.mk_build.specs.Right.{AreSound, HaveNoRace, HaveWays, IsRightAt}
use Rattle.mk_build.specs.Coherent.{IsMissing, IsBoundToRun, IsAsLeft, IsCoherent, HasCoherentDisk}
use Rattle.mk_build.specs.CoherenceLaws.{ReadsNothingLater}
use Rattle.mk_build.proofs.Sound.{writer_has_recipe}
use Rattle.mk_build.proofs.Writing.{map_same, one_stamp, content_here, content_there}
use Rattle.mk_build.proofs.Passing.{not_phony_itself}
use Rattle.mk_build.proofs.Invariant.{IsInvariant}
use Rattle.mk_build.proofs.Histories.{start_fits, history_fits, fits_is_right}
use Rattle.mk_build.proofs.Coherence.{runs_before, coherent_fits, fits_coherent}

-- a world in which the invariant holds has a coherent disk
world_is_coherent : (g : Graph) (s : Setting) (epoch : ℕ) (p : Runs) (start : ℕ) (w : World) → IsInvariant g s epoch p start w → HasCoherentDisk g s w
world_is_coherent g s epoch p start (Idle d) is = fits_coherent g s epoch p [] d is
world_is_coherent g s epoch p start (Busy m d) is = fits_coherent g s epoch p m.running d is.fits

-- what lists of files have in common, each of the files has
pub same_at : {A : Type 0} (one other : FileName → A) (files : List FileName) → map one files ≡ map other files → (f : FileName) → Has files f → one f ≡ other f
same_at one other [] e f h = absurd h
same_at one other (k ∷ files) e f (inl here) = let at_k : one k ≡ other k = cc in subst (λ (x : FileName). one x ≡ other x) here at_k
same_at one other (k ∷ files) e f (inr there) = let rest : map one files ≡ map other files = cc in same_at one other files rest f there

-- no recipe has a last run at first
no_last_run : {A : Type 0} (run : WholeRun) → None ≡ Some run → A
no_last_run run e = absurd (cc)

-- a start disk is coherent, by no runs
pub start_is_coherent : (g : Graph) (s : Setting) → AreSound g s → (d : Disk) → IsStartDisk s d → IsCoherent g s d
start_is_coherent g s sound d start = record {
  last = λ t. record { began = 0; ended = 0; saw = λ f. None };
  stamped = (start_fits g s sound d start).stamped;
  came = λ t. (omega arith, omega arith);
  left = λ t recipe stopped. ⊎_elim (λ bound. inl bound) (λ ran. no_last_run ran.0 ran.1.is_last) ((start_fits g s sound d start).whole t recipe stopped);
  apart = λ o t before. inl (omega arith);
}

module _ (g : Graph) (s : Setting) (graph : IsGraph g) (sound : AreSound g s) (no_race : HaveNoRace g s) (d : Disk) (steps : List Step) (is : IsCoherent g s d) (legal : IsLegal g s (Idle d) steps) where
  -- a history keeps a coherent disk coherent
  pub coherence_is_kept : HasCoherentDisk g s (after_all g s (Idle d) steps)
  coherence_is_kept =
      let fits = history_fits g s graph sound d.clock no_race (runs_before g s d is) d steps (coherent_fits g s d is) legal in
      world_is_coherent g s d.clock (runs_after_all g s (Idle d) steps (runs_before g s d is)) fits.0 (after_all g s (Idle d) steps) fits.1

  -- it is right
  pub coherent_is_right : HaveWays g s → IsRightAt g s (after_all g s (Idle d) steps)
  coherent_is_right ways = fits_is_right g s graph sound d.clock no_race ways (runs_before g s d is) d steps (coherent_fits g s d is) legal

module _ (g : Graph) (s : Setting) (sound : AreSound g s) (d : Disk) (is : IsCoherent g s d) (t : ℕ) (recipe : (node g t).recipe ≡ true) (not_bound : ¬ (IsBoundToRun g s d t)) (late : ReadsNothingLater g s d t) where
  -- it is as its last run left it
  is_left : IsAsLeft g s (is.last t) d t
  is_left = ⊎_elim (λ bound. absurd (not_bound bound)) (λ left. left) (is.left t recipe (λ h. h))

  -- its target was written before the end of this run
  target_early : late.0 ≤ (is.last t).ended
  target_early = (is_left.0.during (name g t) late.0 (sound.target t recipe (not_phony_itself g d t (λ must. not_bound (inl must)))) late.1).1

  -- what it reads was not written after
  no_later_write : (f : FileName) → Has (reads g s t) f → ¬ (WasWrittenAfter d f (is.last t).ended)
  no_later_write f read (stamp, has, after) =
      let own = late.2 f read in
      let same = one_stamp d f own.0 stamp own.1 has in
      let early = own.2 in
      let target = target_early in
      omega arith

  -- nor is it missing
  not_missing : (f : FileName) → Has (reads g s t) f → ¬ (IsMissing g s d f)
  not_missing f read missing =
      let own = late.2 f read in
      let gone : None ≡ Some own.0 = sym (ap (λ (x : Option File). option_map (λ (y : File). y.stamp) x) missing.0) ∙ own.1 in
      cc

  -- so it contains what the run saw
  sees : (f : FileName) → Has (reads g s t) f → content d f ≡ (is.last t).saw f
  sees f read = elim (is_left.1 f read) [
    | inl same ↦ same
    | inr (inl later) ↦ absurd (no_later_write f read later.1)
    | inr (inr missing) ↦ absurd (not_missing f read missing)
  ]

  -- the recipe is fresh
  pub coherent_is_fresh : IsFresh g s d t
  coherent_is_fresh = record {
    written = is_left.0.written;
    known = subst (λ (l : List (Option ℕ)). outcome d.known t l ≡ Some is_left.0.written) (sym (map_same (content d) (is.last t).saw (reads g s t) sees)) is_left.0.known;
    holds = is_left.0.holds;
  }

module _ (g : Graph) (s : Setting) (sound : AreSound g s) (d : Disk) (t : ℕ) (f : FileName) (c : ℕ) (fresh : IsFresh g s d t) (wrote : Has (writes g s t) f) where
  -- what it reads isn't edited
  reads_stay : map (content (written d f c)) (reads g s t) ≡ map (content d) (reads g s t)
  reads_stay = map_same (content (written d f c)) (content d) (reads g s t) (λ h read. content_there d f c h (λ same. sound.not_own t h read (subst (λ (k : FileName). Has (writes g s t) k) same wrote)))

  -- a recipe that is fresh before and after an edit wrote what the edit wrote
  pub edit_is_none : IsFresh g s (written d f c) t → content d f ≡ Some c
  edit_is_none now =
      let known : outcome d.known t (map (content d) (reads g s t)) ≡ Some now.written = subst (λ (l : List (Option ℕ)). outcome d.known t l ≡ Some now.written) reads_stay now.known in
      let both : Some fresh.written ≡ Some now.written = sym fresh.known ∙ known in
      let one : fresh.written ≡ now.written = cc in
      let holds : map (content d) (writes g s t) ≡ map (content (written d f c)) (writes g s t) = fresh.holds ∙ (ap (λ (l : List ℕ). map (λ c. Some c) l) one ∙ sym now.holds) in
      same_at (content d) (content (written d f c)) (writes g s t) holds f wrote ∙ content_here d f c f refl

  -- so a disk on which such a recipe was edited to something else isn't coherent
  pub edit_not_coherent : ¬ (content d f ≡ Some c) → ¬ (IsBoundToRun g s (written d f c) t) → ReadsNothingLater g s (written d f c) t → ¬ (IsCoherent g s (written d f c))
  edit_not_coherent other not_bound late is =
      other (edit_is_none (coherent_is_fresh g s sound (written d f c) is t (writer_has_recipe g s t f wrote) not_bound late))
