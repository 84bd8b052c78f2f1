-- Membership in lists.
pub use Rattle.mk_lemmas.specs.Membership.{Has, has, IsWithin, IsDistinct}
use Rattle.std.specs.Prelude.{◌≡◌, List, ◌⊎◌, ◌↔◌, ◌++◌, map}
use Rattle.std.specs.List.{flat_map}

-- An element is in an appended list exactly if it is in one of its two parts.
abbrev pub MembersOfAppended : (A : Type 0) → Type 0
MembersOfAppended A = (xs ys : List A) (x : A) → Has (xs ++ ys) x ↔ (Has xs x ⊎ Has ys x)

-- An element is in a mapped list exactly if it is the image of some element.
abbrev pub MembersOfMapped : (A B : Type 0) → Type 0
MembersOfMapped A B =
    (f : A → B) (xs : List A) (y : B) → Has (map f xs) y ↔ ((x : A) × Has xs x × (f x ≡ y))

-- An element is in a flattened list exactly if it is in the list of some element.
abbrev pub MembersOfJoined : (A B : Type 0) → Type 0
MembersOfJoined A B =
    (f : A → List B) (xs : List A) (y : B) →
    Has (flat_map f xs) y ↔ ((x : A) × Has xs x × Has (f x) y)
