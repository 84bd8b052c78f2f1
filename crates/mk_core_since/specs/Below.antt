-- The files of a folder.
use Rattle.std.specs.Prelude.{◌≡◌, ◌==◌, ◌-◌, ℕ, Bool, List, ◌∷◌, ◌++◌, length, slice_index, if◌then◌else◌}
use Rattle.mk_read.specs.Files.{Told, text_at}

-- The last byte of a text is a slash.
abbrev pub ends_in_slash : List ℕ → Bool
ends_in_slash text = slice_index text (length text - 1) == 47

-- The name of a file of a folder, as seen from outside: with a slash between, unless the folder's
-- name ends in one.
abbrev pub name_below : List ℕ → List ℕ → List ℕ
name_below folder name = if ends_in_slash folder then folder ++ name else folder ++ 47 ∷ name

-- The map has the texts that a map which fits has below the folder.
abbrev pub FitsBelow : (Told → Type 0) → List ℕ → Told → Type 0
FitsBelow fits folder told =
    (outer : Told) ×
    (fits outer × ((name : List ℕ) → text_at told name ≡ text_at outer (name_below folder name)))
