-- Whether bytes are text.
use Rattle.std.proofs.Common.{◌≡◌, ℕ, true, false, List, Option, None, Some, Result, Ok, Err, subst, sym}
use Rattle.std.specs.Prelude.{MatchOption, MatchResult}
use Rattle.std.specs.Borrow.{Bor}
use Rattle.std.specs.Result.{result_ok}
use Rattle.std.specs.Str.{is_utf8, IsUtf8}
use Rattle.std.proofs.lemmas.Bool.{false_from_ne_true, and_right}
use Rattle.mk_lines.specs.Paths.{is_plain_path, has_path_shape}
use Rattle.std.proofs.lemmas.Str.{IsUtf8-from_is_utf8, is_utf8-from_IsUtf8}

abbrev Says : List ℕ → Option (Bor (List ℕ)) → Type 0
Says bytes o = MatchOption o (is_utf8 bytes ≡ false) (λ text. (text.now ≡ bytes) × (is_utf8 bytes ≡ true))

-- what is made of a plain path
pub path_answer : (name : List ℕ) (o : Option (Bor (List ℕ))) → is_plain_path name ≡ true → Says name o → MatchOption o (is_plain_path name ≡ false) (λ text. (text.now ≡ name) × (is_plain_path name ≡ true))
unfolding is_plain_path
path_answer name None plain none = and_right (has_path_shape name) (is_utf8 name) none
path_answer name (Some text) plain h = (h.0, plain)

pub utf8_answer : {E : Type 0} (P : E → Type 0) (bytes : List ℕ) (r : Result (Bor (List ℕ)) E) (o : Option (Bor (List ℕ))) → MatchResult r (λ s. (s.now ≡ bytes) × IsUtf8 bytes) (λ e. ¬ (IsUtf8 bytes) × P e) → o ≡ result_ok r → Says bytes o
utf8_answer P bytes (Ok s) o h e = subst (Says bytes) (sym e) (h.0, is_utf8-from_IsUtf8 bytes h.1)
utf8_answer P bytes (Err f) o h e = subst (Says bytes) (sym e) (false_from_ne_true _ (λ t. h.0 (IsUtf8-from_is_utf8 bytes t)))
