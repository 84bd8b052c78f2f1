-- The JSON value of bytes.
use Rattle.std.proofs.Common.{◌≡◌, ℕ, true, List, None, inl, inr, refl}
use Rattle.std.specs.Str.{IsUtf8, is_utf8}
use Rattle.std.proofs.lemmas.Bool.{cases_Bool}
use Rattle.std.proofs.lemmas.Str.{IsUtf8-from_is_utf8, is_utf8-from_IsUtf8}
use Rattle.serde_json.specs.Read.{read}
use Rattle.mk_json.specs.Reading.{json_of}

-- no value is read
pub json_missing : (bytes : List ℕ) → (IsUtf8 bytes → read bytes ≡ None) → None ≡ json_of bytes
json_missing bytes none =
    elim (cases_Bool (is_utf8 bytes)) [
      | inl t ↦ (let e : read bytes ≡ None = none (IsUtf8-from_is_utf8 bytes t) in rw (t, e) refl)
      | inr f ↦ rw f refl
    ]

-- the value of a text
pub read_of_text : (bytes : List ℕ) → IsUtf8 bytes → json_of bytes ≡ read bytes
read_of_text bytes text = let utf8 : is_utf8 bytes ≡ true = is_utf8-from_IsUtf8 bytes text in rw utf8 refl
