-- The words of lines.
use Rattle.std.proofs.Common.{◌≡◌, ℕ, true, false, List, ◌++◌, Option, Result, Ok, Err, MatchOption, MatchResult}
use Rattle.std.specs.Borrow.{Bor}
use Rattle.std.specs.Result.{result_ok}
use Rattle.std.specs.Str.{IsUtf8, is_utf8}
use Rattle.std.proofs.lemmas.Bool.{false_from_ne_true}
use Rattle.std.proofs.lemmas.Str.{IsUtf8-from_is_utf8, is_utf8-from_IsUtf8}
use Rattle.mk_core_text.specs.declared.fault.Fault.{Fault}

-- the words of a result behind these
abbrev pub onto : List (List ℕ) → Result (List (List ℕ)) Fault → Result (List (List ℕ)) Fault
onto words (Ok rest) = Ok (words ++ rest)
onto words (Err fault) = Err fault

-- bytes as text
utf8_found : {E : Type 0} (P : E → Type 0) (bytes : List ℕ) (r : Result (Bor (List ℕ)) E) → MatchResult r (λ s. (s.now ≡ bytes) × IsUtf8 bytes) (λ e. ¬ (IsUtf8 bytes) × P e) → MatchOption (result_ok r) (is_utf8 bytes ≡ false) (λ text. (text.now ≡ bytes) × (is_utf8 bytes ≡ true))
utf8_found P bytes (Ok s) h = (h.0, is_utf8-from_IsUtf8 bytes h.1)
utf8_found P bytes (Err e) h = false_from_ne_true _ (λ t. h.0 (IsUtf8-from_is_utf8 bytes t))

pub utf8_text : {E : Type 0} (P : E → Type 0) (bytes : List ℕ) (r : Result (Bor (List ℕ)) E) (found : Option (Bor (List ℕ))) → MatchResult r (λ s. (s.now ≡ bytes) × IsUtf8 bytes) (λ e. ¬ (IsUtf8 bytes) × P e) → found ≡ result_ok r → MatchOption found (is_utf8 bytes ≡ false) (λ text. (text.now ≡ bytes) × (is_utf8 bytes ≡ true))
utf8_text P bytes r found h e = rw e (utf8_found P bytes r h)
