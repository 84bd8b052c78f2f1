-- The forms of a text, without a bound on their number.
use Rattle.std.proofs.Common.{◌≡◌, ℕ, zero, suc, ◌≤◌, Bool, true, false, cond, eqb, List, [], ◌∷◌, ◌||◌, length, Option, None, Some, refl, ap, ◌∙◌, arith, length-drop}
use Rattle.mk_lines.specs.Bytes.{is_byte}
use Rattle.mk_lines.specs.References.{first_outside}
use Rattle.mk_macros.specs.Names.{is_name_byte}
use Rattle.mk_macros.specs.Forms.{Form, Byte, Lone, Dollars, Reference, is_internal, closed_at, dollar_form, first_form, some_forms, forms}

either_le : (c : Bool) (x y : Form × List ℕ) (n : ℕ) → length x.1 ≤ n → length y.1 ≤ n → length (cond c x y).1 ≤ n
either_le true x y n h k = h
either_le false x y n h k = k

closed_le : (text : List ℕ) (o : Option ℕ) (n : ℕ) → length text ≤ n → length (closed_at text o).1 ≤ n
closed_le text None n h = omega arith
closed_le text (Some at) n h = omega (arith, length-drop (suc at) text)

-- what stands behind a form that begins with a `$` is no longer than what follows the `$`
pub dollar_le : (text : List ℕ) → length (dollar_form text).1 ≤ length text
dollar_le [] = omega arith
dollar_le (b ∷ text) =
    either_le (eqb b 36) (Dollars, text) _ (suc (length text)) (omega arith)
    (either_le (eqb b 40) (closed_at text (first_outside (is_byte 41) text)) _ (suc (length text)) (closed_le text (first_outside (is_byte 41) text) (suc (length text)) (omega arith))
    (either_le (eqb b 123) (closed_at text (first_outside (is_byte 125) text)) _ (suc (length text)) (closed_le text (first_outside (is_byte 125) text) (suc (length text)) (omega arith))
    (either_le (is_name_byte b || is_internal b) (Reference (b ∷ []), text) (Lone, b ∷ text) (suc (length text)) (omega arith) (omega arith))))

first_le : (b : ℕ) (text : List ℕ) → length (first_form b text).1 ≤ length text
first_le b text = either_le (eqb b 36) (dollar_form text) (Byte b, text) (length text) (dollar_le text) (omega arith)

-- a text has at most as many forms as bytes
enough : (n m : ℕ) (text : List ℕ) → length text ≤ n → length text ≤ m → some_forms n text ≡ some_forms m text
unfolding some_forms
enough zero zero text h k = refl
enough zero (suc m) [] h k = refl
enough zero (suc m) (b ∷ text) h k = absurd (omega arith)
enough (suc n) zero [] h k = refl
enough (suc n) zero (b ∷ text) h k = absurd (omega arith)
enough (suc n) (suc m) [] h k = refl
enough (suc n) (suc m) (b ∷ text) h k =
    let le : length (first_form b text).1 ≤ length text = first_le b text in
    ap (λ rest. (first_form b text).0 ∷ rest) (enough n m (first_form b text).1 (omega arith) (omega arith))

pub forms_nil : forms [] ≡ []
unfolding some_forms
forms_nil = refl

-- the first form, and the forms of the text behind it
pub forms_cons : (b : ℕ) (text : List ℕ) → forms (b ∷ text) ≡ (first_form b text).0 ∷ forms (first_form b text).1
unfolding some_forms
forms_cons b text =
    let le : length (first_form b text).1 ≤ length text = first_le b text in
    ap (λ rest. (first_form b text).0 ∷ rest) (enough (length text) (length (first_form b text).1) (first_form b text).1 le (omega arith))

pub forms_dollar : (text : List ℕ) → forms (36 ∷ text) ≡ (dollar_form text).0 ∷ forms (dollar_form text).1
forms_dollar text = forms_cons 36 text

pub forms_byte : (b : ℕ) (text : List ℕ) → eqb b 36 ≡ false → forms (b ∷ text) ≡ Byte b ∷ forms text
forms_byte b text e = forms_cons b text ∙ ap (λ (c : Bool). (cond c (dollar_form text) (Byte b, text)).0 ∷ forms (cond c (dollar_form text) (Byte b, text)).1) e
