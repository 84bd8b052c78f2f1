-- Lists of names.
use Rattle.std.specs.Prelude.{◌≡◌, ℕ, ◌+◌, Bool, not, List, [], ◌∷◌, ◌++◌, filter, Option, None, Some, if◌then◌else◌}
use Rattle.std.specs.List.{list_any, position_or_len}
use Rattle.std.specs.Str.{bytes_eq}
use Rattle.mk_lines.specs.Bytes.{begins_with}

-- The name is in the list.
abbrev pub has_name : List (List ℕ) → List ℕ → Bool
has_name names name = list_any (λ other. bytes_eq name other) names

-- The set has exactly the names of the list.
abbrev pub HoldsNames : List (List ℕ) → List (List ℕ) → Type 0
HoldsNames set names = (name : List ℕ) → has_name set name ≡ has_name names name

-- The names with one more at the end, unless they have it already.
abbrev pub with_name : List (List ℕ) → List ℕ → List (List ℕ)
with_name names name = if has_name names name then names else names ++ name ∷ []

-- The names without repetition, each at its first place.
abbrev pub once : List (List ℕ) → List (List ℕ)
once [] = []
once (name ∷ names) = name ∷ filter (λ other. not (bytes_eq name other)) (once names)

-- The index where a name first stands, counted from n.
unfoldable pub place_from : ℕ → List (List ℕ) → List ℕ → Option ℕ
place_from n [] name = None
place_from n (other ∷ names) name =
    if bytes_eq name other then Some n else place_from (n + 1) names name

-- The index where a name first stands, or the number of names where they lack it.
abbrev pub number_of : List (List ℕ) → List ℕ → ℕ
number_of names name = position_or_len (λ other. bytes_eq name other) names

-- The place or, where there is none and the test holds, `last`.
abbrev pub else_last : Option ℕ → Bool → ℕ → Option ℕ
else_last (Some place) test last = Some place
else_last None test last = if test then Some last else None

-- The name begins with one of the prefixes.
abbrev pub begins_with_any : List (List ℕ) → List ℕ → Bool
begins_with_any prefixes name = list_any (λ prefix. begins_with prefix name) prefixes
