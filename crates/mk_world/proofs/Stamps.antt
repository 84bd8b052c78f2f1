-- Stamps that come next.
use Rattle.std.proofs.Common.{◌≡◌, ℕ, ◌+◌, List, [], ◌∷◌, ◌++◌, min, refl, sym, ap, ◌∙◌, arith, append_assoc}
use Rattle.mk_build.specs.Setting.{FileName}
use Rattle.mk_build.specs.World.{last_stamp}
use Rattle.mk_world.specs.Running.{new_stamp, new_stamps}

-- past the last stamp all are the last one
capped : (clock other : ℕ) (files : List FileName) → min clock last_stamp ≡ min other last_stamp → new_stamps clock files ≡ new_stamps other files
capped clock other [] e = refl
capped clock other (f ∷ files) e =
    let next : min (clock + 1) last_stamp ≡ min (other + 1) last_stamp = omega arith in
    (λ i. next i ∷ capped (clock + 1) (other + 1) files next i)

-- one more stamp
pub one_stamp : (stamps : List ℕ) (clock : ℕ) (f : FileName) (files left : List FileName) (all : List ℕ) → left ≡ f ∷ files → stamps ++ new_stamps clock left ≡ all → (stamps ++ new_stamp clock ∷ []) ++ new_stamps (new_stamp clock) files ≡ all
one_stamp stamps clock f files left all is so_far =
    let same : min (min (clock + 1) last_stamp) last_stamp ≡ min (clock + 1) last_stamp = omega arith in
    append_assoc stamps (new_stamp clock ∷ []) (new_stamps (new_stamp clock) files)
    ∙ (ap (λ l. stamps ++ new_stamp clock ∷ l) (capped (new_stamp clock) (clock + 1) files same) ∙ (ap (λ l. stamps ++ new_stamps clock l) (sym is) ∙ so_far))
