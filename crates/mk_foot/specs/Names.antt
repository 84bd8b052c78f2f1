-- Names in lists, in addition to those of mk_lines.
pub use Rattle.mk_lines.specs.Names.{has_name, with_name, once, else_last, begins_with_any}
unfoldable pub use Rattle.mk_lines.specs.Names.{place_from}
pub use Rattle.mk_lemmas.specs.Membership.{Has}
use Rattle.std.specs.Prelude.{ℕ, ◌-◌, ◌==◌, Bool, true, false, ◌&&◌, ◌||◌, List, [], ◌∷◌, ◌++◌, length, take, slice_index, nat_lt, codes, Option, None, Some, if◌then◌else◌}
use Rattle.std.specs.Str.{bytes_eq}
use Rattle.mk_lines.specs.Paths.{is_plain_path}

-- the first name that occurs before itself in the list or among the names `before`
unfoldable pub first_repeat : List (List ℕ) → List (List ℕ) → Option (List ℕ)
first_repeat before [] = None
first_repeat before (name ∷ names) =
    if has_name before name then Some name else first_repeat (before ++ name ∷ []) names

-- both lists have the same names in the same order
abbrev pub same_names : List (List ℕ) → List (List ℕ) → Bool
same_names [] [] = true
same_names [] (b ∷ bs) = false
same_names (a ∷ names) [] = false
same_names (a ∷ names) (b ∷ bs) = bytes_eq a b && same_names names bs

-- `/`, or a plain path followed by `/`
abbrev pub is_prefix : List ℕ → Bool
is_prefix text =
    bytes_eq text (codes "/") || (ends_in_slash text && is_plain_path (take (length text - 1) text))
  where
    ends_in_slash : List ℕ → Bool
    ends_in_slash text = nat_lt 0 (length text) && (slice_index text (length text - 1) == 47)
