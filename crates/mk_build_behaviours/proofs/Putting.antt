-- Contents that are put into files.
use Rattle.std.proofs.Common.{◌≡◌, ℕ, List, [], ◌∷◌, Some, map, ◌⊎◌, inl, inr, ⊎_elim, refl, sym, ◌∙◌, ap}
use Rattle.mk_graph.specs.Membership.{Has}
use Rattle.mk_build.specs.Setting.{FileName}
use Rattle.mk_build.specs.World.{Disk, content, changed}
use Rattle.mk_build.specs.Clean.{Contents, put_all}
use Rattle.mk_build.proofs.Changes.{cases_name, changed_here, changed_there}
use Rattle.mk_build.proofs.CleanEnd.{put_all_agrees}

-- what can be put over some contents can be put over others, and then agrees where they did or where it was put
pub put_all_again : (files : List FileName) (cs : List ℕ) (at new other : Contents) → put_all at files cs ≡ Some new → (end : Contents) × (put_all other files cs ≡ Some end) × ((f : FileName) → (at f ≡ other f) ⊎ Has files f → new f ≡ end f)
put_all_again [] [] at new other e =
    let same : at ≡ new = cc in
    (other, refl, λ f why. ⊎_elim (λ agree. sym (ap (λ (k : Contents). k f) same) ∙ agree) (λ h. absurd h) why)
put_all_again [] (c ∷ cs) at new other e = absurd (cc)
put_all_again (k ∷ files) [] at new other e = absurd (cc)
put_all_again (k ∷ files) (c ∷ cs) at new other e =
    let more = put_all_again files cs (changed at k (Some c)) new (changed other k (Some c)) e in (
      more.0,
      more.1,
      λ f why. more.2 f (⊎_elim (λ same. inl (changed_here at k f (Some c) same ∙ sym (changed_here other k f (Some c) same)))
          (λ differ. ⊎_elim (λ agree. inl (changed_there at k f (Some c) differ ∙ (agree ∙ sym (changed_there other k f (Some c) differ))))
          (λ among. ⊎_elim (λ same. absurd (differ same)) (λ later. inr later) among) why) (cases_name k f)),
    )

-- other files stay
pub put_all_keeps : (files : List FileName) (cs : List ℕ) (at new : Contents) → put_all at files cs ≡ Some new → (f : FileName) → ¬ (Has files f) → new f ≡ at f
put_all_keeps [] [] at new e f out = let same : at ≡ new = cc in sym (ap (λ (k : Contents). k f) same)
put_all_keeps [] (c ∷ cs) at new e f out = absurd (cc)
put_all_keeps (k ∷ files) [] at new e f out = absurd (cc)
put_all_keeps (k ∷ files) (c ∷ cs) at new e f out =
    put_all_keeps files cs (changed at k (Some c)) new e f (λ later. out (inr later)) ∙ changed_there at k f (Some c) (λ same. out (inl same))

-- what a disk holds is what was put
pub put_is_held : (d : Disk) (files : List FileName) (cs : List ℕ) (at new : Contents) → map (content d) files ≡ map (λ c. Some c) cs → put_all at files cs ≡ Some new → (f : FileName) → Has files f → new f ≡ content d f
put_is_held d files cs at new holds e f among =
    let agrees = put_all_agrees d files cs at holds in
    let both : Some new ≡ Some agrees.0 = sym e ∙ agrees.1 in
    let same : new ≡ agrees.0 = cc in
    ap (λ (k : Contents). k f) same ∙ agrees.2 f (inr among)
