-- Where bytes stand, and what texts begin and end with.
use Rattle.std.proofs.Common.{◌≡◌, ℕ, suc, ◌+◌, ◌-◌, ◌<◌, Bool, true, false, not, ◌&&◌, ◌||◌, cond, ltb, leb, List, [], ◌∷◌, length, take, drop, Option, Some, None, refl, sym, ap, ◌∙◌, subst, arith, zero-le}
use Rattle.std.specs.List.{position_or_len, before_first, after_first, list_any}
use Rattle.std.proofs.lemmas.List.{take_all, drop_all, length-drop}
use Rattle.std.proofs.lemmas.List.Sums.{position_or_len_is}
use Rattle.std.specs.Str.{bytes_eq}
use Rattle.memchr.specs.Find.{IsFirstByte}
use Rattle.std.proofs.lemmas.Bool.{ltb-false, leb-false, false_from_ne_true}
use Rattle.std.proofs.lemmas.Option.{cond_some}
use Rattle.std.proofs.lemmas.Slice.Eq.{bytes_eq-Decides}
use Rattle.mk_lemmas.proofs.Texts.{bytes_eq-sym}
use Rattle.mk_lemmas.proofs.Lists.{position_or_len-within}
use Rattle.mk_macros.specs.Substitution.{ends_with}

-- the first byte that passes, as a search finds it
pub found_at : (p : ℕ → Bool) (text : List ℕ) (at : ℕ) → IsFirstByte p text (Some at) → at ≡ position_or_len p text
found_at p text at h = sym (position_or_len_is p text at 0 (omega (arith, h.0.high)) (λ k lt. false_from_ne_true _ (h.0.before k zero-le lt)) (λ lt. h.1))

-- and where it finds none
pub found_nowhere : (p : ℕ → Bool) (text : List ℕ) → IsFirstByte p text None → length text ≡ position_or_len p text
found_nowhere p text h = sym (position_or_len_is p text (length text) 0 (omega arith) (λ k lt. false_from_ne_true _ (h k zero-le lt)) (λ lt. absurd (omega arith)))

-- a text of std's test ends so
pub ends_as : (back text : List ℕ) → bytes_eq back (drop (length text - length back) text) ≡ ends_with back text
ends_as back text = by_length (leb (length back) (length text)) refl
  where
    by_length : (b : Bool) → leb (length back) (length text) ≡ b → bytes_eq back (drop (length text - length back) text) ≡ (b && bytes_eq (drop (length text - length back) text) back)
    by_length true t = bytes_eq-sym back (drop (length text - length back) text)
    by_length false f =
        let longer : length text < length back = leb-false _ _ f in
        let all : length text - length back ≡ 0 = omega arith in
        false_from_ne_true _ (λ t. let same : length back ≡ length (drop (length text - length back) text) = ap length ((bytes_eq-Decides back (drop (length text - length back) text)).0 t) in
        let short : length (drop (length text - length back) text) ≡ length text = ap (λ n. length (drop n text)) all in
        absurd (omega arith))

-- at the end nothing was found
pub none_placed : {A : Type 0} (p : A → Bool) (xs : List A) → position_or_len p xs ≡ length xs → list_any p xs ≡ false
none_placed p [] h = refl
none_placed p (x ∷ xs) h = at (p x) h (none_placed p xs)
  where
    at : (b : Bool) → cond (not b) (1 + position_or_len p xs) 0 ≡ suc (length xs) → (position_or_len p xs ≡ length xs → list_any p xs ≡ false) → (b || list_any p xs) ≡ false
    at true k ih = absurd (omega arith)
    at false k ih = ih (omega arith)

-- before it something was
pub some_placed : {A : Type 0} (p : A → Bool) (xs : List A) → position_or_len p xs < length xs → list_any p xs ≡ true
some_placed p [] h = absurd (omega arith)
some_placed p (x ∷ xs) h = at (p x) h (some_placed p xs)
  where
    at : (b : Bool) → cond (not b) (1 + position_or_len p xs) 0 < suc (length xs) → (position_or_len p xs < length xs → list_any p xs ≡ true) → (b || list_any p xs) ≡ true
    at true k ih = refl
    at false k ih = ih (omega arith)

-- the parts of a text that has none
pub whole_cut : {A : Type 0} (p : A → Bool) (xs : List A) (at : ℕ) → at ≡ position_or_len p xs → at ≡ length xs → (false ≡ list_any p xs) × (xs ≡ before_first p xs) × ([] ≡ after_first p xs)
whole_cut p xs at e l =
    let end : position_or_len p xs ≡ length xs = sym e ∙ l in
    (sym (none_placed p xs end), sym (take_all (position_or_len p xs) xs (omega arith)), sym (drop_all (position_or_len p xs + 1) xs (omega arith)))

-- the parts of one that has some
pub parted_cut : {A : Type 0} (p : A → Bool) (xs : List A) (at : ℕ) → at ≡ position_or_len p xs → at < length xs → (true ≡ list_any p xs) × (take at xs ≡ before_first p xs) × (take (length xs - (at + 1)) (drop (at + 1) xs) ≡ after_first p xs)
parted_cut p xs at e l = (
  sym (some_placed p xs (subst (λ n. n < length xs) e l)),
  ap (λ n. take n xs) e,
  take_all (length xs - (at + 1)) (drop (at + 1) xs) (omega (arith, length-drop (at + 1) xs)) ∙ ap (λ n. drop (n + 1) xs) e,
)
