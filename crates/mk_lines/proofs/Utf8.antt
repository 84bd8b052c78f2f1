-- Whether bytes are text.
use Rattle.std.proofs.Common.{◌≡◌, ℕ, Bool, true, false, ◌&&◌, List, Result, Ok, Err, sym, refl}
use Rattle.std.specs.Prelude.{MatchResult, is_ok}
use Rattle.std.specs.Borrow.{Bor}
use Rattle.std.specs.Str.{is_utf8, IsUtf8}
use Rattle.std.proofs.lemmas.Bool.{false_from_ne_true}
use Rattle.std.proofs.lemmas.Str.{IsUtf8-from_is_utf8, is_utf8-from_IsUtf8}

-- the test alone
pub utf8_test : {E : Type 0} (P : E → Type 0) (bytes : List ℕ) (r : Result (Bor (List ℕ)) E) → MatchResult r (λ s. (s.now ≡ bytes) × IsUtf8 bytes) (λ e. ¬ (IsUtf8 bytes) × P e) → is_ok r ≡ is_utf8 bytes
utf8_test P bytes (Ok s) h = sym (is_utf8-from_IsUtf8 bytes h.1)
utf8_test P bytes (Err f) h = sym (false_from_ne_true _ (λ t. h.0 (IsUtf8-from_is_utf8 bytes t)))

-- a second test that holds says nothing more
pub and_true : (b : Bool) → (b && true) ≡ b
and_true true = refl
and_true false = refl
