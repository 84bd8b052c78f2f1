-- Lists of the same names.
use Rattle.std.proofs.Common.{◌≡◌, ℕ, suc, false, ◌&&◌, List, [], ◌∷◌, length, refl, ap, ◌∙◌}
use Rattle.std.specs.Str.{bytes_eq}
use mathlib.Core.Bool.{and-false}
use Rattle.mk_foot.specs.Names.{same_names}

-- lists of other lengths hold other names
pub other_lengths : (xs ys : List (List ℕ)) → (length xs ≡ length ys → ⊥) → same_names xs ys ≡ false
other_lengths [] [] h = absurd (h refl)
other_lengths [] (b ∷ ys) h = refl
other_lengths (a ∷ xs) [] h = refl
other_lengths (a ∷ xs) (b ∷ ys) h = ap (λ t. bytes_eq a b && t) (other_lengths xs ys (λ e. h (ap suc e))) ∙ and-false (bytes_eq a b)
