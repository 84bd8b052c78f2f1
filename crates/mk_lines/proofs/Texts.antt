-- Names are texts.
use Rattle.std.proofs.Common.{◌≡◌, ℕ, true, false, List, [], ◌∷◌, map, String, Global, string_bytes, sym, true≢false, inl, inr, subst}
use Rattle.std.specs.Str.{bytes_eq, IsUtf8}
use Rattle.std.proofs.lemmas.Slice.Eq.{bytes_eq-Decides}
use Rattle.std.proofs.lemmas.Str.{IsUtf8-string_bytes}
use Rattle.std.proofs.lemmas.Bool.{false_from_ne_true, or_cases}
use Rattle.mk_lines.specs.Names.{has_name}

is_text : (names : List (String Global)) (bytes : List ℕ) → has_name (map string_bytes names) bytes ≡ true → IsUtf8 bytes
is_text [] bytes e = absurd (true≢false (sym e))
is_text (name ∷ names) bytes e =
    elim (or_cases (bytes_eq bytes (string_bytes name)) (has_name (map string_bytes names) bytes) e) [
      | inl t ↦ (let same : bytes ≡ string_bytes name = (bytes_eq-Decides bytes (string_bytes name)).0 t in subst IsUtf8 (sym same) (IsUtf8-string_bytes name))
      | inr h ↦ is_text names bytes h
    ]

-- bytes that are no text are no name
pub no_text : (names : List (String Global)) (bytes : List ℕ) → (IsUtf8 bytes → ⊥) → has_name (map string_bytes names) bytes ≡ false
no_text names bytes none = false_from_ne_true _ (λ t. none (is_text names bytes t))
