-- Names of macros.
use Rattle.std.specs.Prelude.{ℕ, ◌==◌, Bool, not, ◌&&◌, ◌||◌, List, length, nat_le}
use Rattle.std.specs.List.{list_all}

-- The byte may be part of a macro name: one of `A-Z a-z 0-9 . _ -`.
abbrev pub is_name_byte : ℕ → Bool
is_name_byte b =
    (nat_le 65 b && nat_le b 90) ||
    ((nat_le 97 b && nat_le b 122) ||
    ((nat_le 48 b && nat_le b 57) || (b == 46 || (b == 95 || b == 45))))

-- A macro name is one or more of these bytes.
abbrev pub is_macro_name : List ℕ → Bool
is_macro_name name = not (length name == 0) && list_all is_name_byte name
