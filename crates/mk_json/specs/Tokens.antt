-- The JSON value that comes next in a list of tokens.
use Rattle.std.specs.Prelude.{◌≡◌, ◌-◌, ◌<◌, ◌≤◌, ℕ, List, [], ◌∷◌, length, Bool, true, false, Option, None, Some, Result, Ok, Err}
use Rattle.json.specs.Token.{Token}
use Rattle.json.specs.Json as json
use Rattle.json.specs.declared.reader.Invalid.{Invalid}
use Rattle.serde_json.specs.Data.{Data, array, object, Items, item, Members, no_members}
use Rattle.serde_json.specs.Find.{as_array, as_object}
use Rattle.serde_json.specs.Read.{of_json, of_items, of_members, converted}
use Rattle.serde_json.specs.View.{items_of}

-- the value that comes next, and the tokens after it
abbrev pub next_value : ℕ → List Token → Option (Data × List Token)
next_value depth tokens = converted of_json (json.value depth tokens)

-- the values up to the closing bracket of an array whose opening bracket was read, and the tokens
-- after it
abbrev pub next_items : ℕ → List Token → Option (Items × List Token)
next_items depth tokens = converted of_items (json.items (json.value depth) (length tokens) tokens)

-- the members up to the closing brace of an object whose opening brace was read, and the tokens
-- after it
abbrev pub next_members : ℕ → List Token → Option (Members × List Token)
next_members depth tokens =
    converted (λ members. of_members members no_members)
    (json.members (json.value depth) (length tokens) tokens)

-- A call consumes the next value and returns something that `Told` relates to the value, or it
-- returns an error and there is no next value.
abbrev pub Reads :
    {A : Type 0} → (A → Data → Type 0) →
    ℕ → List Token → Result A Invalid → List Token → Type 0
Reads Told depth old (Ok found) new =
    (value : Data) × (next_value depth old ≡ Some (value, new)) × Told found value
Reads Told depth old (Err _) new = next_value depth old ≡ None

-- A call consumes the values of an array and returns something that `Told` relates to them, or it
-- returns an error and the array is invalid.
abbrev pub ReadsItems :
    {A : Type 0} → (A → List Data → Type 0) →
    ℕ → List Token → Result A Invalid → List Token → Type 0
ReadsItems Told depth old (Ok found) new =
    (values : List Data) × (next_items depth old ≡ Some (items_of values, new)) ×
    Told found values
ReadsItems Told depth old (Err _) new = next_items depth old ≡ None

-- A call consumes the members of an object and returns something that `Told` relates to them, or it
-- returns an error and the object is invalid.
abbrev pub ReadsMembers :
    {A : Type 0} → (A → Members → Type 0) →
    ℕ → List Token → Result A Invalid → List Token → Type 0
ReadsMembers Told depth old (Ok found) new =
    (members : Members) × (next_members depth old ≡ Some (members, new)) × Told found members
ReadsMembers Told depth old (Err _) new = next_members depth old ≡ None

-- A call returns `true` and has consumed the opening bracket of an array, or `false` and has
-- consumed another value, or an error if there is no next value.
abbrev pub EntersArray : ℕ → List Token → Result Bool Invalid → List Token → Type 0
EntersArray depth old (Ok true) new =
    (0 < depth) × (next_value depth old ≡ json.parse_map array (next_items (depth - 1) new))
EntersArray depth old (Ok false) new =
    (value : Data) × (next_value depth old ≡ Some (value, new)) × (as_array value ≡ None)
EntersArray depth old (Err _) new = next_value depth old ≡ None

-- A call returns `true` and has consumed the opening brace of an object, or `false` and has
-- consumed another value, or an error if there is no next value.
abbrev pub EntersObject : ℕ → List Token → Result Bool Invalid → List Token → Type 0
EntersObject depth old (Ok true) new =
    (0 < depth) × (next_value depth old ≡ json.parse_map object (next_members (depth - 1) new))
EntersObject depth old (Ok false) new =
    (value : Data) × (next_value depth old ≡ Some (value, new)) × (as_object value ≡ None)
EntersObject depth old (Err _) new = next_value depth old ≡ None

-- these values, followed by others
abbrev pub items_before : List Data → Items → Items
items_before [] rest = rest
items_before (value ∷ values) rest = item value (items_before values rest)

-- These values of the array were read, and the tokens `now` are left; n is a bound that is large
-- enough for the rest.
abbrev pub ItemsRead : ℕ → List Token → List Data → List Token → Type 0
ItemsRead depth all values now =
    (n : ℕ) × (length now ≤ n) × (next_items depth all ≡
    json.parse_map (items_before values) (converted of_items (json.items (json.value depth) n now)))

-- These members of the object were read, and the tokens `now` are left; n is a bound that is large
-- enough for the rest.
abbrev pub MembersRead : ℕ → List Token → Members → List Token → Type 0
MembersRead depth all members now =
    (n : ℕ) × (length now ≤ n) × (next_members depth all ≡
    converted (λ more. of_members more members) (json.members (json.value depth) n now))
