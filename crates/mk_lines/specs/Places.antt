-- Maps from names to places.
use Rattle.std.specs.Prelude.{ℕ, List, [], ◌∷◌, Option, None, Some, if◌then◌else◌}
use Rattle.std.specs.Str.{bytes_eq}

-- The place of a name, or none where it has none.
unfoldable pub place_in : List (List ℕ × ℕ) → List ℕ → Option ℕ
place_in [] name = None
place_in (noted ∷ places) name =
    if bytes_eq name noted.0 then Some noted.1 else place_in places name
