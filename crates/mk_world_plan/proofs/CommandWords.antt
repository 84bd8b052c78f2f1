-- Words of plans: numbers and texts.
use Rattle.std.proofs.Common.{◌≡◌, ℕ, zero, suc, ◌<◌, ◌^◌, Bool, true, false, List, [], ◌∷◌, ◌++◌, length, Option, Some, None, Result, Ok, Err, refl, sym, ap, ◌∙◌, MatchResult, MatchOption, map, get_or, arith}
use Rattle.std.specs.Borrow.{Bor}
use Rattle.std.specs.Char.{is_ascii_digit}
use Rattle.std.specs.List.{list_all}
use Rattle.std.specs.Result.{result_ok, OkIff}
use Rattle.std.specs.Str.{IsUtf8, is_utf8}
use Rattle.std.specs.Str.Parse.{digits_value, ParsesUnsigned}
use Rattle.std.proofs.lemmas.Bool.{cond-true, cond-false, false_from_ne_true, lt-ltb, ltb-true, and_from, and_left, and_parts, and_right}
use Rattle.std.proofs.lemmas.Str.{IsUtf8-from_is_utf8, is_utf8-from_IsUtf8}
use Rattle.std.proofs.lemmas.Str.Parse.{parse_digits}
use Rattle.mk_lemmas.proofs.Texts.{IsNumeralModel-digits}
use Rattle.mk_world_plan.specs.PlanReading.{is_number, parse_number}

number_there : {E : Type 0} (word : List ℕ) (r : Result ℕ E) → OkIff r ((0 < length word) × (digits_value 10 word < 2 ^ 64)) (digits_value 10 word) → list_all is_ascii_digit word ≡ true → result_ok r ≡ parse_number word
number_there word (Ok x) h d =
    ap (λ n. Some n) h.1 ∙ sym (cond-true (is_number word) (Some (digits_value 10 word)) None (and_from _ _ d (and_from _ _ (lt-ltb 0 (length word) h.0.0) (lt-ltb (digits_value 10 word) (2 ^ 64) h.0.1))))
number_there word (Err e) h d =
    sym (cond-false (is_number word) (Some (digits_value 10 word)) None (false_from_ne_true _ (λ t.
    let parts = and_parts _ _ (and_parts _ _ t).1 in
    h (ltb-true 0 (length word) parts.0, ltb-true (digits_value 10 word) (2 ^ 64) parts.1))))

-- what the library parses
pub number_parsed : {E : Type 0} (word : List ℕ) (r : Result ℕ E) → ParsesUnsigned 64 10 word r → list_all is_ascii_digit word ≡ true → result_ok r ≡ parse_number word
number_parsed word r h d = number_there word r (parse_digits IsNumeralModel-digits 64 word r h d) d

-- without digits alone there is no number
pub no_number : (word : List ℕ) → list_all is_ascii_digit word ≡ false → None ≡ parse_number word
no_number word e = sym (cond-false (is_number word) (Some (digits_value 10 word)) None (and_left (list_all is_ascii_digit word) _ e))

-- bytes as text
utf8_found : {E : Type 0} (P : E → Type 0) (bytes : List ℕ) (r : Result (Bor (List ℕ)) E) → MatchResult r (λ s. (s.now ≡ bytes) × IsUtf8 bytes) (λ e. ¬ (IsUtf8 bytes) × P e) → MatchOption (result_ok r) (is_utf8 bytes ≡ false) (λ text. (text.now ≡ bytes) × (is_utf8 bytes ≡ true))
utf8_found P bytes (Ok s) h = (h.0, is_utf8-from_IsUtf8 bytes h.1)
utf8_found P bytes (Err e) h = false_from_ne_true _ (λ t. h.0 (IsUtf8-from_is_utf8 bytes t))

pub utf8_text : {E : Type 0} (P : E → Type 0) (bytes : List ℕ) (r : Result (Bor (List ℕ)) E)
    (found : Option (Bor (List ℕ))) → MatchResult r (λ s. (s.now ≡ bytes) × IsUtf8 bytes)
    (λ e. ¬ (IsUtf8 bytes) × P e) → found ≡ result_ok r → MatchOption found (is_utf8 bytes ≡ false)
    (λ text. (text.now ≡ bytes) × (is_utf8 bytes ≡ true))
utf8_text P bytes r found h e = rw e (utf8_found P bytes r h)

-- one more that passes
pub all_push : {A : Type 0} (p : A → Bool) (xs : List A) (x : A) → list_all p xs ≡ true → p x ≡ true → list_all p (xs ++ x ∷ []) ≡ true
all_push p [] x h e = and_from (p x) true e refl
all_push p (y ∷ xs) x h e =
    let parts = and_parts (p y) (list_all p xs) h in
    and_from (p y) _ parts.0 (all_push p xs x parts.1 e)

-- one that doesn't pass, among all
pub some_fails : {A B : Type 0} (p : B → Bool) (f : A → B) (xs : List A) (i : ℕ) (d : A) → i < length xs → p (f (get_or xs i d)) ≡ false → list_all p (map f xs) ≡ false
some_fails p f [] i d lt e = absurd (omega arith)
some_fails p f (x ∷ xs) zero d lt e = and_left (p (f x)) _ e
some_fails p f (x ∷ xs) (suc i) d lt e = and_right (p (f x)) _ (some_fails p f xs i d (omega arith) e)
