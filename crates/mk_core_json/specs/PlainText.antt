-- Texts that stand in a JSON text as they are.
use Rattle.std.specs.Prelude.{◌==◌, ℕ, Bool, true, ◌&&◌, List, [], ◌∷◌, ◌++◌, nat_lt, not, if◌then◌else◌}

-- The byte is no control character, no `"` and no backslash.
abbrev pub is_plain : ℕ → Bool
is_plain byte = nat_lt 31 byte && (not (byte == 34) && not (byte == 92))

-- The names one after the other, with this text between them; before the first one too, if others
-- stand before it.
abbrev pub put_between : (between : List ℕ) → (later : Bool) → List (List ℕ) → List ℕ
put_between between later [] = []
put_between between later (name ∷ names) =
    (if later then between else []) ++ (name ++ put_between between true names)
