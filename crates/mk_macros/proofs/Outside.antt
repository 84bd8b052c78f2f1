-- What stands outside references in a text without `$`.
use Rattle.std.proofs.Common.{◌≡◌, ℕ, suc, ◌+◌, ◌<◌, ◌≤◌, Bool, true, false, not, ◌||◌, cond, eqb, List, [], ◌∷◌, length, take, None, Some, refl, sym, ap, subst, ◌∙◌, inl, inr, arith}
use Rattle.std.proofs.lemmas.Bool.{cases_Bool}
use Rattle.std.proofs.lemmas.List.{take_all, length-take}
use Rattle.std.specs.List.{list_any, position_or_len}
use Rattle.std.specs.Option.{option_map}
use Rattle.mk_lemmas.proofs.Lists.{position_or_len-within}
use Rattle.mk_lemmas.proofs.Bools.{or-false_left, or-false_right}
use Rattle.mk_lines.specs.Bytes.{is_byte}
use Rattle.mk_lines.specs.References.{first_from, first_outside, behind}
use Rattle.mk_macros.proofs.Places.{none_placed}

-- a byte that isn't a `$` opens nothing
stays : (b : ℕ) → eqb b 36 ≡ false → behind [] b ≡ record { ends = []; dollar = false }
stays b e = ap (λ c. cond c (record { ends = []; dollar = true }) (record { ends = []; dollar = false })) e

-- one byte further
pub passes : (p : ℕ → Bool) (b : ℕ) (text : List ℕ) → p b ≡ false → eqb b 36 ≡ false → first_outside p (b ∷ text) ≡ option_map suc (first_outside p text)
unfolding first_from
passes p b text f plain =
    ap (λ c. cond c (Some 0) (option_map suc (first_from p (behind [] b) text))) f ∙ ap (λ place. option_map suc (first_from p place text)) (stays b plain)

-- Before the first wanted byte stands no `$`: it is the first outside references.
pub first_is_outside : (p : ℕ → Bool) (text : List ℕ) → position_or_len p text < length text → list_any (is_byte 36) (take (position_or_len p text) text) ≡ false → first_outside p text ≡ Some (position_or_len p text)
unfolding first_from
first_is_outside p [] lt plain = absurd (omega arith)
first_is_outside p (b ∷ text) lt plain =
    elim (cases_Bool (p b)) [
      | inl t ↦
          let n : position_or_len p (b ∷ text) ≡ 0 = ap (λ c. cond (not c) (1 + position_or_len p text) 0) t in
          ap (λ c. cond c (Some 0) (option_map suc (first_from p (behind [] b) text))) t ∙ ap (λ (k : ℕ). Some k) (sym n)
      | inr f ↦
          let n : position_or_len p (b ∷ text) ≡ 1 + position_or_len p text = ap (λ c. cond (not c) (1 + position_or_len p text) 0) f in
          let m : 1 + position_or_len p text ≡ suc (position_or_len p text) = omega arith in
          let both : (is_byte 36 b || list_any (is_byte 36) (take (position_or_len p text) text)) ≡ false = subst (λ k. list_any (is_byte 36) (take k (b ∷ text)) ≡ false) (n ∙ m) plain in
          passes p b text f (or-false_left _ _ both)
          ∙ (ap (option_map suc) (first_is_outside p text (omega arith) (or-false_right _ _ both))
          ∙ ap (λ (k : ℕ). Some k) (sym (n ∙ m)))
    ]

-- Without one, and without `$`, nothing stands outside them.
pub none_is_outside : (p : ℕ → Bool) (text : List ℕ) → position_or_len p text ≡ length text → list_any (is_byte 36) text ≡ false → first_outside p text ≡ None
unfolding first_from
none_is_outside p [] e plain = refl
none_is_outside p (b ∷ text) e plain =
    elim (cases_Bool (p b)) [
      | inl t ↦ absurd (omega (arith, ap (λ c. cond (not c) (1 + position_or_len p text) 0) t))
      | inr f ↦
          let n : position_or_len p (b ∷ text) ≡ 1 + position_or_len p text = ap (λ c. cond (not c) (1 + position_or_len p text) 0) f in
          passes p b text f (or-false_left _ _ plain)
          ∙ ap (option_map suc) (none_is_outside p text (omega arith) (or-false_right _ _ plain))
    ]

-- What a search for a `$` before the first wanted byte says, where it finds none.
no_dollar : (text : List ℕ) (at m : ℕ) → at ≤ length text → m ≡ position_or_len (is_byte 36) (take at text) → at ≤ m → list_any (is_byte 36) (take at text) ≡ false
no_dollar text at m le e h =
    let all : position_or_len (is_byte 36) (take at text) ≡ length (take at text) = omega (arith, length-take at text, position_or_len-within (is_byte 36) (take at text)) in
    none_placed (is_byte 36) (take at text) all

pub outside_found : (p : ℕ → Bool) (text : List ℕ) (at m : ℕ) → at ≡ position_or_len p text → at < length text → m ≡ position_or_len (is_byte 36) (take at text) → at ≤ m → Some at ≡ first_outside p text
outside_found p text at m place lt e h =
    let low : position_or_len p text < length text = omega arith in
    let plain = no_dollar text at m (omega arith) e h in
    sym (first_is_outside p text low (subst (λ n. list_any (is_byte 36) (take n text) ≡ false) place plain) ∙ ap (λ (n : ℕ). Some n) (sym place))

pub outside_nowhere : (p : ℕ → Bool) (text : List ℕ) (at m : ℕ) → at ≡ position_or_len p text → at ≡ length text → m ≡ position_or_len (is_byte 36) (take at text) → at ≤ m → None ≡ first_outside p text
outside_nowhere p text at m place end e h =
    let plain = no_dollar text at m (omega arith) e h in
    sym (none_is_outside p text (sym place ∙ end) (subst (λ t. list_any (is_byte 36) t ≡ false) (take_all at text (omega arith)) plain))
