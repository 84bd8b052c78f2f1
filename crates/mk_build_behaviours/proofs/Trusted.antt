-- Footprints in which recipes that aren't trusted read nothing: there is no race, and each read of a file that can change has a way.
use Rattle.std.proofs.Common.{◌≡◌, ℕ, List, [], ◌∷◌, true, false, Option, Some, map, ⊎_elim, refl, sym, ◌∙◌, ap, subst}
use Rattle.std.specs.Prelude.{if◌then◌else◌, unwrap_or}
use Rattle.std.proofs.lemmas.Bool.{cases_Bool, cond-true, cond-false}
use Rattle.mk_graph.specs.Membership.{Has}
use Rattle.mk_graph.specs.Graph.{Graph, node}
use Rattle.mk_build.specs.Setting.{FileName, Setting, name, reads, writes}
use Rattle.mk_build.specs.World.{Disk, content, changed}
use Rattle.mk_build.specs.Clean.{Contents, put_all}
use Rattle.mk_build.specs.Ways.{Way, over, written, source, always}
use Rattle.mk_build.specs.Right.{AreSound, HaveNoRace, HaveWays}
use Rattle.mk_build.proofs.Changes.{changed_here}
use Rattle.mk_build.proofs.CleanEnd.{cases_among}
use Rattle.mk_build_behaviours.specs.Behaviours.{Write, Behaviours, behaviour}
use Rattle.mk_build_behaviours.specs.CoherentBy.{with_reads}
use Rattle.mk_build_behaviours.specs.Trusting.{Trust, MayBeTrusted, with_left}
use Rattle.mk_build_behaviours.proofs.Putting.{put_all_keeps}

-- the footprints in which only trusted recipes read
abbrev pub trusting : Setting → Trust → Setting
trusting s trusted = with_reads s (λ target. if trusted target then s.reads target else [])

module _ (g : Graph) (s : Setting) (trusted : Trust) where
  -- what a trusted recipe reads
  pub trusted_reads : (t : ℕ) → trusted (name g t) ≡ true → reads g (trusting s trusted) t ≡ reads g s t
  trusted_reads t is = ap (λ (l : List FileName). if (node g t).recipe then l else []) (cond-true (trusted (name g t)) (s.reads (name g t)) [] is)

  -- another one reads nothing
  pub other_reads_none : (t : ℕ) → trusted (name g t) ≡ false → reads g (trusting s trusted) t ≡ []
  other_reads_none t not =
      ap (λ (l : List FileName). if (node g t).recipe then l else []) (cond-false (trusted (name g t)) (s.reads (name g t)) [] not)
      ∙ ⊎_elim (λ e. cond-true (node g t).recipe [] [] e) (λ e. cond-false (node g t).recipe [] [] e) (cases_Bool (node g t).recipe)

  -- so who reads is trusted
  pub reader_is_trusted : (t : ℕ) (f : FileName) → Has (reads g (trusting s trusted) t) f → (trusted (name g t) ≡ true) × Has (reads g s t) f
  reader_is_trusted t f read =
      ⊎_elim (λ is. (is, subst (λ (l : List FileName). Has l f) (trusted_reads t is) read)) (λ not. absurd (subst (λ (l : List FileName). Has l f) (other_reads_none t not) read)) (cases_Bool (trusted (name g t)))

  -- ways don't depend on what is read
  same_way : (f : FileName) {t : ℕ} → Way g s f t → Way g (trusting s trusted) f t
  same_way f (over o carries way) = over o carries (same_way f way)
  same_way f (written o carries wrote) = written o carries wrote
  same_way f (source can need) = source can need
  same_way f (always made) = always made

  module _ (sound : AreSound g s) (may : MayBeTrusted g s trusted) where
    -- they are sound
    pub trusting_sound : AreSound g (trusting s trusted)
    trusting_sound = record {
      target = sound.target;
      one_writer = sound.one_writer;
      not_given = sound.not_given;
      not_phony = sound.not_phony;
      not_own = λ t f read. sound.not_own t f (reader_is_trusted t f read).1;
      known = λ t f read. sound.known t f (reader_is_trusted t f read).1;
      not_loose = sound.not_loose;
    }

    -- without race
    pub trusting_no_race : HaveNoRace g (trusting s trusted)
    trusting_no_race t o f differ read wrote = let reader = reader_is_trusted t f read in may.no_race t o f reader.0 differ reader.1 wrote

    -- and with ways
    pub trusting_ways : HaveWays g (trusting s trusted)
    trusting_ways t f read can = let reader = reader_is_trusted t f read in same_way f (may.ways t f reader.0 reader.1 can)

    -- who writes what one of them reads is trusted
    pub writer_is_trusted : (t o : ℕ) (f : FileName) → Has (reads g (trusting s trusted) t) f → Has (writes g s o) f → trusted (name g o) ≡ true
    writer_is_trusted t o f read wrote = let reader = reader_is_trusted t f read in may.closed t o f reader.0 reader.1 wrote

  module _ (b : Behaviours) (left : FileName → ℕ) where
    -- a trusted recipe behaves as it does
    pub trusted_behaves : (t : ℕ) → trusted (name g t) ≡ true → behaviour g (with_left s b trusted left) t ≡ behaviour g b t
    trusted_behaves t is = cond-true (trusted (name g t)) (b (name g t)) (Write (map left (s.writes (name g t)))) is

    -- another one writes what is left
    pub other_writes : (t : ℕ) → (node g t).recipe ≡ true → trusted (name g t) ≡ false → behaviour g (with_left s b trusted left) t ≡ Write (map left (writes g s t))
    other_writes t recipe not =
        cond-false (trusted (name g t)) (b (name g t)) (Write (map left (s.writes (name g t)))) not
        ∙ ap (λ (l : List FileName). Write (map left l)) (sym (cond-true (node g t).recipe (s.writes (name g t)) [] recipe))

-- any contents can be put
pub put_all_left : (left : FileName → ℕ) (files : List FileName) (at : Contents) → (end : Contents) × (put_all at files (map left files) ≡ Some end) × ((f : FileName) → Has files f → end f ≡ Some (left f))
put_all_left left [] at = (at, refl, λ f among. absurd among)
put_all_left left (k ∷ files) at =
    let more = put_all_left left files (λ h. if_changed h) in (
      more.0,
      more.1,
      λ f among. ⊎_elim (λ later. more.2 f later)
          (λ not_later. ⊎_elim (λ here. put_all_keeps files (map left files) (λ h. if_changed h) more.0 more.1 f not_later ∙ (changed_here at k f (Some (left k)) here ∙ ap (λ (h : FileName). Some (left h)) here)) (λ later. absurd (not_later later)) among)
          (cases_among files f),
    ) where
      if_changed : FileName → Option ℕ
      if_changed h = changed at k (Some (left k)) h

-- what a disk holds was left
pub holds_left : (d : Disk) (files : List FileName) (cs : List ℕ) → map (content d) files ≡ map (λ c. Some c) cs → map (content d) files ≡ map (λ c. Some c) (map (λ f. unwrap_or (content d f) 0) files)
holds_left d [] cs e = refl
holds_left d (f ∷ files) [] e = absurd (cc)
holds_left d (f ∷ files) (c ∷ cs) e =
    let here : content d f ≡ Some c = cc in
    let rest : map (content d) files ≡ map (λ k. Some k) cs = cc in
    let held : content d f ≡ Some (unwrap_or (content d f) 0) = here ∙ sym (ap (λ (o : Option ℕ). Some (unwrap_or o 0)) here) in
    let more = holds_left d files cs rest in
    cc
