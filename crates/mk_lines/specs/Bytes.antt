-- Bytes, blanks, and a text split at a separator.
use Rattle.std.specs.Prelude.{ℕ, ◌==◌, Bool, ◌||◌, List, [], length, take, drop, Option, None, Some}
use Rattle.std.specs.List.{slice_split, list_all, prefix_len}
use Rattle.std.specs.Str.{bytes_eq}

-- The byte is the wanted one.
abbrev pub is_byte : ℕ → ℕ → Bool
is_byte wanted b = b == wanted

-- The byte is a space or a tab.
abbrev pub is_blank : ℕ → Bool
is_blank b = b == 32 || b == 9

-- The text is empty or holds only blanks.
abbrev pub is_blank_alone : List ℕ → Bool
is_blank_alone text = list_all is_blank text

-- The text without its leading blanks.
abbrev pub trimmed : List ℕ → List ℕ
trimmed text = drop (prefix_len is_blank text) text

-- The text begins with `front`.
abbrev pub begins_with : List ℕ → List ℕ → Bool
begins_with front text = bytes_eq (take (length front) text) front

-- The parts between separators of the text that is left, or no parts where nothing is left.
abbrev pub parts_left : ℕ → Option (List ℕ) → List (List ℕ)
parts_left separator None = []
parts_left separator (Some text) = slice_split (is_byte separator) text
