-- Plain paths: the only spelling of a path that mkcheck accepts.
use Rattle.std.specs.Prelude.{ℕ, ◌==◌, Bool, true, false, not, ◌&&◌, List, [], ◌∷◌, codes, length, nat_lt, nat_le, if◌then◌else◌}
use Rattle.std.specs.List.{slice_split, list_all}
use Rattle.std.specs.Str.{bytes_eq, is_utf8}
use Rattle.mk_lines.specs.Bytes.{is_byte}

-- The byte is neither a space nor a control byte.
abbrev pub is_visible : ℕ → Bool
is_visible b = nat_lt 32 b && not (b == 127)

-- The component is neither empty nor `.` nor `..`.
abbrev pub is_proper : List ℕ → Bool
is_proper part =
    not (length part == 0) && (not (bytes_eq part (codes ".")) && not (bytes_eq part (codes "..")))

-- The component is `..`.
abbrev pub is_parent : List ℕ → Bool
is_parent part = bytes_eq part (codes "..")

-- The components are any number of `..`, then proper ones only.
abbrev pub goes_up_first : List (List ℕ) → Bool
goes_up_first [] = true
goes_up_first (part ∷ parts) =
    if is_parent part then goes_up_first parts else is_proper part && list_all is_proper parts

-- The components of a plain path: an empty one before a leading slash and then proper ones, or any
-- number of `..` and then proper ones.
abbrev pub are_components : List (List ℕ) → Bool
are_components [] = false
are_components (part ∷ parts) =
    if length part == 0 then not (length parts == 0) &&
    list_all is_proper parts else goes_up_first (part ∷ parts)

-- The most bytes of a name.
abbrev pub max_path : ℕ
max_path = 4096

-- The name is 1 to 4,096 visible bytes, and its parts between slashes are the components of a plain
-- path.
abbrev pub has_path_shape : List ℕ → Bool
has_path_shape name =
    nat_lt 0 (length name) &&
    (nat_le (length name) max_path &&
    (list_all is_visible name && are_components (slice_split (is_byte 47) name)))

-- A plain path has the shape of a path and is UTF-8.
unfoldable pub is_plain_path : List ℕ → Bool
is_plain_path name = has_path_shape name && is_utf8 name
