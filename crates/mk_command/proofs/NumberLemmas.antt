-- What the library parses as a number.
use Rattle.std.proofs.Common.{◌≡◌, ℕ, ◌<◌, ◌^◌, true, List, length, Some, None, Result, Ok, Err, sym, ap, ◌∙◌}
use Rattle.std.specs.Result.{result_ok}
use Rattle.std.specs.Str.Parse.{IsNumeral, ParsesUnsigned, digits_value, without_leading_plus}
use Rattle.std.proofs.lemmas.Bool.{cond-true, cond-false, false_from_ne_true, lt-ltb, ltb-true, and_from, and_parts}
use Rattle.mk_lemmas.proofs.Texts.{IsNumeralModel-digits}
use Rattle.mk_command.specs.Invocation.{is_number, number_in}

-- digits that write a number
number_is : (ds : List ℕ) → IsNumeral 10 ds → digits_value 10 ds < 2 ^ 64 → is_number ds ≡ true
number_is ds h low = and_from _ _ (IsNumeralModel-digits.from ds h.1) (and_from _ _ (lt-ltb 0 (length ds) h.0) (lt-ltb (digits_value 10 ds) (2 ^ 64) low))

is_numeral : (ds : List ℕ) → is_number ds ≡ true → IsNumeral 10 ds × (digits_value 10 ds < 2 ^ 64)
is_numeral ds e =
    let all = and_parts _ _ e in
    let parts = and_parts _ _ all.1 in
    ((ltb-true 0 (length ds) parts.0, IsNumeralModel-digits.to ds all.0), ltb-true (digits_value 10 ds) (2 ^ 64) parts.1)

pub number_parsed : {E : Type 0} (text : List ℕ) (r : Result ℕ E) → ParsesUnsigned 64 10 text r → result_ok r ≡ number_in text
number_parsed text (Ok n) h =
    let ds = without_leading_plus text in
    ap (λ k. Some k) h.1 ∙ sym (cond-true (is_number ds) (Some (digits_value 10 ds)) None (number_is ds h.0.0 h.0.1))
number_parsed text (Err e) h =
    let ds = without_leading_plus text in
    sym (cond-false (is_number ds) (Some (digits_value 10 ds)) None (false_from_ne_true _ (λ t. h (is_numeral ds t))))
