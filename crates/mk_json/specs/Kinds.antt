-- JSON values by their kinds: arrays, objects, texts and integers.
use Rattle.std.specs.Prelude.{ℕ, ℤ, Bool, false, List, [], ◌∷◌, Option, Some, option_and_then, unwrap_or}
use Rattle.std.specs.Option.{option_map}
use Rattle.std.specs.List.{list_all}
use Rattle.mk_lines.specs.Names.{has_name}
use Rattle.serde_json.specs.Data.{Data, array, object, Items, no_items, item, Members, no_members, member}
use Rattle.serde_json.specs.Find.{get, as_str, as_array, as_object, as_number, as_integer}
use Rattle.serde_json.specs.View.{items_of}

-- the values of an array, in order
abbrev pub elements : Items → List Data
elements no_items = []
elements (item d ds) = d ∷ elements ds

-- the members of an object, each a name and its value
abbrev pub pairs : Members → List (List ℕ × Data)
pairs no_members = []
pairs (member name d ms) = (name, d) ∷ pairs ms

-- the results of f for all elements of a list, or `None` if f gives `None` for one of them
unfoldable pub each_some : {A B : Type 0} → (A → Option B) → List A → Option (List B)
each_some f [] = Some []
each_some f (x ∷ xs) = option_and_then (λ y. option_map (λ ys. y ∷ ys) (each_some f xs)) (f x)

-- the values of an array, or `None` if the value is no array
abbrev pub elements_of : Data → Option (List Data)
elements_of value = option_map elements (as_array value)

-- the members of an object, or `None` if the value is no object
abbrev pub pairs_of : Data → Option (List (List ℕ × Data))
pairs_of value = option_map pairs (as_object value)

-- the texts of an array of strings, or `None` if the value is anything else
unfoldable pub texts_of : Data → Option (List (List ℕ))
texts_of value = option_and_then (each_some as_str) (elements_of value)

-- the text under a key of an object, or `None` if there is no such key or its value is no string
abbrev pub text_at : List ℕ → Data → Option (List ℕ)
text_at key whole = option_and_then as_str (get key whole)

-- the texts under a key of an object, or `None` if its value is no array of strings
abbrev pub texts_at : List ℕ → Data → Option (List (List ℕ))
texts_at key whole = option_and_then texts_of (get key whole)

-- the values of the array under a key of an object, or `None` if its value is no array
abbrev pub elements_at : List ℕ → Data → Option (List Data)
elements_at key whole = option_and_then elements_of (get key whole)

-- the integer under a key of an object, or `None` if its value is no number that is kept as an
-- integer
abbrev pub integer_at : List ℕ → Data → Option ℤ
integer_at key whole = option_and_then as_integer (option_and_then as_number (get key whole))

-- the value is an object and has no key but these
unfoldable pub has_only : List (List ℕ) → Data → Bool
has_only known whole =
    unwrap_or (option_map (list_all (λ (pair : List ℕ × Data).
    has_name known pair.0)) (pairs_of whole)) false

-- the array with these values
abbrev pub array_of : List Data → Data
array_of values = array (items_of values)

-- the members with these names and values
abbrev pub members : List (List ℕ × Data) → Members
members [] = no_members
members (pair ∷ pairs) = member pair.0 pair.1 (members pairs)

-- the object with these names and values, which the caller gives in the byte order of the names
abbrev pub object_of : List (List ℕ × Data) → Data
object_of pairs = object (members pairs)
