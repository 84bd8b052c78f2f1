-- Which bytes are looked for outside references.
use Rattle.std.proofs.Common.{◌≡◌, ℕ, List, [], ◌∷◌, refl}
use Rattle.std.proofs.Math.Bool.{or-false}
use Rattle.mk_lemmas.proofs.Bools.{eqb-sym}
use Rattle.mk_lines.proofs.Found.{found_same}
use Rattle.mk_lines.specs.References.{first_outside, is_one_of}
use Rattle.mk_read.specs.Kinds.{is_end_of_words}

end_same : (b : ℕ) → is_one_of (61 ∷ 59 ∷ []) b ≡ is_end_of_words b
end_same b = rw (eqb-sym 61 b, eqb-sym 59 b) (rw or-false refl)

pub first_end : (text : List ℕ) → first_outside (is_one_of (61 ∷ 59 ∷ [])) text ≡ first_outside is_end_of_words text
first_end text = found_same (is_one_of (61 ∷ 59 ∷ [])) is_end_of_words end_same _ text
