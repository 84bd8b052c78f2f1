-- The bytes that decide whether a line is a rule line.
use Rattle.std.proofs.Common.{◌≡◌, ℕ, List, [], ◌∷◌, refl}
use Rattle.std.proofs.Math.Bool.{or-false}
use Rattle.mk_lemmas.proofs.Bools.{eqb-sym}
use Rattle.mk_lines.specs.Bytes.{is_byte}
use Rattle.mk_lines.specs.References.{first_outside, is_one_of}
use Rattle.mk_lines.specs.RuleLines.{is_decisive}
use Rattle.mk_lines.proofs.Found.{found_same}

pub decisive_same : (b : ℕ) → is_one_of (61 ∷ 58 ∷ 59 ∷ []) b ≡ is_decisive b
decisive_same b = rw (eqb-sym 61 b, eqb-sym 58 b, eqb-sym 59 b) (rw or-false refl)

pub first_decisive : (text : List ℕ) → first_outside (is_one_of (61 ∷ 58 ∷ 59 ∷ [])) text ≡ first_outside is_decisive text
first_decisive text = found_same (is_one_of (61 ∷ 58 ∷ 59 ∷ [])) is_decisive decisive_same _ text

semicolon_same : (b : ℕ) → is_one_of (59 ∷ []) b ≡ is_byte 59 b
semicolon_same b = rw (eqb-sym 59 b) (rw or-false refl)

pub first_semicolon : (text : List ℕ) → first_outside (is_one_of (59 ∷ [])) text ≡ first_outside (is_byte 59) text
first_semicolon text = found_same (is_one_of (59 ∷ [])) (is_byte 59) semicolon_same _ text
