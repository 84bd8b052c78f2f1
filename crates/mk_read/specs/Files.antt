-- The map of a reader of files: pairs of name and text, of which the first with a name counts.
use Rattle.std.specs.Prelude.{ℕ, List, [], ◌∷◌, Option, None, Some, if◌then◌else◌}
use Rattle.std.specs.Str.{bytes_eq}

-- A map from the names of files to their texts.
abbrev pub Told : Type 0
Told = List (List ℕ × List ℕ)

-- The text of the file with this name, if there is one.
abbrev pub text_at : Told → List ℕ → Option (List ℕ)
text_at [] name = None
text_at (file ∷ files) name = if bytes_eq file.0 name then Some file.1 else text_at files name

-- The claim holds for each map that fits.
abbrev pub IfFits : (Told → Type 0) → (Told → Type 0) → Type 0
IfFits fits claim = (told : Told) → fits told → claim told

-- Each map that fits afterwards fitted before.
abbrev pub Keeps : (before after : Told → Type 0) → Type 0
Keeps before after = (told : Told) → after told → before told
