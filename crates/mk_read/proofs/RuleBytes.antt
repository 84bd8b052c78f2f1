-- Bytes that decide what a line or a name is.
use Rattle.std.proofs.Common.{◌≡◌, ◌<◌, ℕ, true, false, ◌||◌, eqb, List, [], ◌∷◌, length, get_or, drop, eqb-true, refl, sym, ap, ◌∙◌, subst, arith}
use Rattle.std.proofs.lemmas.Bool.{false_from_ne_true, ne_eqb}
use Rattle.mk_read.specs.Kinds.{by_parts, rule_line}
use Rattle.mk_read.specs.Names.{is_reserved, is_bracket}

-- A byte that isn't reserved is none of the reserved ones.
pub is_reserved-differ : (b reserved : ℕ) → is_reserved reserved ≡ true → is_reserved b ≡ false → eqb b reserved ≡ false
is_reserved-differ b reserved r e =
    false_from_ne_true (eqb b reserved) (λ same.
    let clash : true ≡ false = sym r ∙ (ap is_reserved (sym (eqb-true b reserved same)) ∙ e) in
    absurd cc)

-- So it is no bracket.
pub is_bracket-not_reserved : (b : ℕ) → is_reserved b ≡ false → is_bracket b ≡ false
is_bracket-not_reserved b e = ap (λ t. t || eqb b 41) (is_reserved-differ b 40 refl e) ∙ is_reserved-differ b 41 refl e

-- A colon with neither `:` nor `=` behind it.
pub by_parts-rule_line : (before from : List ℕ) → 1 < length from → get_or from 0 0 ≡ 58 → (get_or from 1 0 ≡ 58 → ⊥) → (get_or from 1 0 ≡ 61 → ⊥) → by_parts before from ≡ rule_line before (drop 1 from)
by_parts-rule_line before [] lt colon not_colon not_equals = absurd (omega arith)
by_parts-rule_line before (a ∷ []) lt colon not_colon not_equals = absurd (omega arith)
by_parts-rule_line before (a ∷ b ∷ text) lt colon not_colon not_equals =
    let e : eqb b 58 ≡ false = ne_eqb b 58 not_colon in
    let f : eqb b 61 ≡ false = ne_eqb b 61 not_equals in
    subst (λ a. by_parts before (a ∷ b ∷ text) ≡ rule_line before (b ∷ text)) (sym colon) (rw (e, f) refl)
