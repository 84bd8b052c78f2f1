-- Texts: whether two are equal, and those of borrowed names.
use Rattle.std.proofs.Common.{◌≡◌, ℕ, zero, suc, ◌+◌, ◌<◌, true, false, IsAscii, List, [], ◌∷◌, ◌++◌, map, length, get_or, take, String, Global, string_bytes, inl, inr, sym, ap, ◌∙◌, arith, rules}
use Rattle.std.specs.Borrow.{Bor}
use Rattle.std.specs.Char.{is_ascii_digit}
use Rattle.std.specs.List.{list_all}
use Rattle.std.specs.Prelude.{nat_lt}
use Rattle.std.specs.Str.{bytes_eq}
use Rattle.std.specs.Str.Parse.{digits_value}
use Rattle.std.proofs.lemmas.Bool.{and_parts, both_ways, cases_Bool, false_from_ne_true, ltb-true}
use Rattle.std.proofs.lemmas.List.{get_or-map, map_push, take_more}
use Rattle.std.proofs.lemmas.Slice.Eq.{bytes_eq-Decides}
use Rattle.std.proofs.lemmas.Str.Parse.{IsNumeralModel, numerals_by_value}

-- Texts are equal either way.
pub bytes_eq-sym : (a b : List ℕ) → bytes_eq a b ≡ bytes_eq b a
bytes_eq-sym a b =
    elim (cases_Bool (bytes_eq a b)) [
      | inl t ↦ t ∙ sym ((bytes_eq-Decides b a).1 (sym ((bytes_eq-Decides a b).0 t)))
      | inr f ↦ f ∙ sym (false_from_ne_true _ (λ t. both_ways _ f ((bytes_eq-Decides a b).1 (sym ((bytes_eq-Decides b a).0 t)))))
    ]

-- The test says no of texts that differ.
pub bytes_eq-differ : (a b : List ℕ) → (a ≡ b → ⊥) → bytes_eq a b ≡ false
bytes_eq-differ a b apart = false_from_ne_true (bytes_eq a b) (λ t. apart ((bytes_eq-Decides a b).0 t))

-- Texts that differ do so either way.
pub differ-sym : {a b : List ℕ} → (a ≡ b → ⊥) → b ≡ a → ⊥
differ-sym apart e = apart (sym e)

-- What borrowed names spell.
abbrev pub texts : List (Bor (List ℕ)) → List (List ℕ)
texts names = map (λ name. name.now) names

-- What f gives for one name more.
pub texts-map_more : {B : Type 0} (f : List ℕ → B) (names : List (Bor (List ℕ))) (i : ℕ) (d : Bor (List ℕ)) (before after : List B) (x : B) → after ≡ before ++ x ∷ [] → x ≡ f (get_or names i d).now
    → before ≡ map f (texts (take i names)) → i < length names → after ≡ map f (texts (take (i + 1) names))
texts-map_more f names i d before after x grown is so_far lt =
    let one : texts (take (i + 1) names) ≡ texts (take i names) ++ (get_or names i d).now ∷ [] = ap texts (take_more names i d lt) ∙ map_push (λ (n : Bor (List ℕ)). n.now) (take i names) (get_or names i d) in
    grown ∙ (ap (λ y. before ++ y ∷ []) is ∙ (ap (λ bs. bs ++ f (get_or names i d).now ∷ []) so_far ∙ sym (ap (map f) one ∙ map_push f (texts (take i names)) (get_or names i d).now)))

-- A text of bytes below 128.
pub IsAscii-from_list_all : (w : List ℕ) → list_all (λ b. nat_lt b 128) w ≡ true → IsAscii w
IsAscii-from_list_all [] h = λ i. omega arith
IsAscii-from_list_all (b ∷ w) h =
    let parts = and_parts (nat_lt b 128) (list_all (λ c. nat_lt c 128) w) h in
    let here : b < 128 = ltb-true b 128 parts.0 in
    let rest = IsAscii-from_list_all w parts.1 in
    λ i. at i here rest
  where
    at : (i : ℕ) → b < 128 → IsAscii w → get_or (b ∷ w) i 0 < 128
    at zero here rest = here
    at (suc i) here rest = rest i

-- The string at a place, seen by its bytes.
pub string_bytes-at : (names : List (String Global)) (i : ℕ) (name : String Global) → i < length names → name ≡ get_or names i name → string_bytes name ≡ get_or (map string_bytes names) i []
string_bytes-at names i name low is = ap string_bytes is ∙ sym (get_or-map string_bytes names i name [] low)

-- The digits of decimal numbers.
pub IsNumeralModel-digits : IsNumeralModel (λ ds. list_all is_ascii_digit ds ≡ true) (digits_value 10)
IsNumeralModel-digits = numerals_by_value _ (search rules)
