-- Texts that stand in JSON as they are.
use Rattle.std.proofs.Common.{◌≡◌, ◌∙◌, ℕ, ◌<◌, ◌==◌, ◌&&◌, true, false, List, [], ◌∷◌, ◌++◌, refl, sym, ap, arith, append_assoc}
use Rattle.std.specs.Prelude.{nat_lt, not}
use Rattle.std.specs.List.{list_all}
use Rattle.std.proofs.lemmas.Bool.{and_parts, le-ltb, ltb-true, ne_eqb, not-true}
use Rattle.json.specs.Print.{escape, escape_byte, quoted}
use Rattle.mk_core_json.specs.PlainText.{is_plain}

-- a byte that stands there as it is
byte_stays : (b : ℕ) → is_plain b ≡ true → escape_byte b ≡ b ∷ []
unfolding escape_byte
byte_stays b p =
    let parts = and_parts (nat_lt 31 b) (not (b == 34) && not (b == 92)) p in
    let marks = and_parts (not (b == 34)) (not (b == 92)) parts.1 in
    let high : 31 < b = ltb-true 31 b parts.0 in
    let no_quote : (b == 34) ≡ false = not-true (b == 34) marks.0 in
    let no_slash : (b == 92) ≡ false = not-true (b == 92) marks.1 in
    let not_8 : (b == 8) ≡ false = ne_eqb b 8 (λ e. absurd (omega (arith, high, e))) in
    let not_12 : (b == 12) ≡ false = ne_eqb b 12 (λ e. absurd (omega (arith, high, e))) in
    let not_10 : (b == 10) ≡ false = ne_eqb b 10 (λ e. absurd (omega (arith, high, e))) in
    let not_13 : (b == 13) ≡ false = ne_eqb b 13 (λ e. absurd (omega (arith, high, e))) in
    let not_9 : (b == 9) ≡ false = ne_eqb b 9 (λ e. absurd (omega (arith, high, e))) in
    let not_low : nat_lt b 32 ≡ false = le-ltb b 32 (omega (arith, high)) in
    rw (no_quote, no_slash, not_8, not_12, not_10, not_13, not_9, not_low) refl

-- a text of such bytes
pub text_stays : (text : List ℕ) → list_all is_plain text ≡ true → escape text ≡ text
text_stays [] p = refl
text_stays (b ∷ text) p =
    let parts = and_parts (is_plain b) (list_all is_plain text) p in
    ap (λ (l : List ℕ). l ++ escape text) (byte_stays b parts.0) ∙ ap (λ (l : List ℕ). b ∷ l) (text_stays text parts.1)

-- what is appended for it
pub quoted_plain : (text out begun whole all : List ℕ) → list_all is_plain text ≡ true → begun ≡ out ++ 34 ∷ [] → whole ≡ begun ++ text → all ≡ whole ++ 34 ∷ [] → all ≡ out ++ quoted text
quoted_plain text out begun whole all p e f g =
    g
    ∙ (ap (λ (l : List ℕ). l ++ 34 ∷ []) (f ∙ ap (λ (l : List ℕ). l ++ text) e)
    ∙ (ap (λ (l : List ℕ). l ++ 34 ∷ []) (append_assoc out (34 ∷ []) text)
    ∙ (append_assoc out (34 ∷ text) (34 ∷ []) ∙ ap (λ (l : List ℕ). out ++ (34 ∷ (l ++ 34 ∷ []))) (sym (text_stays text p)))))
