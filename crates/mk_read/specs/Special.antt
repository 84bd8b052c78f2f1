-- Special targets and suffixes.
use Rattle.std.specs.Prelude.{ℕ, ◌==◌, Bool, true, false, not, ◌&&◌, ◌||◌, List, [], ◌∷◌, ◌++◌, codes, length, nat_le, Option, None, Some, if◌then◌else◌}
use Rattle.std.specs.List.{list_all, list_any}
use Rattle.std.specs.Str.{bytes_eq}
use Rattle.mk_read.specs.declared.special.Special.{Special}
use Rattle.mk_read.specs.declared.special.Special.TheVariants.{Suffixes, Phony, NotParallel, Wordless, Unread}
use Rattle.mk_read.specs.Names.{has_name, is_empty, once}

-- What a special target does, where the name is a known one.
abbrev pub special_of : List ℕ → Option Special
special_of name =
    if bytes_eq name (codes ".SUFFIXES") then Some Suffixes
    else (if bytes_eq name (codes ".PHONY") then Some Phony
    else (if bytes_eq name (codes ".NOTPARALLEL") then Some NotParallel
    else (if has_name (codes ".POSIX" ∷ codes ".WAIT" ∷ []) name then Some Wordless
    else (if has_name (codes ".IGNORE" ∷ codes ".SILENT" ∷ codes ".PRECIOUS" ∷
    []) name then Some Unread
    else None))))

-- The first of two options that has a value.
abbrev pub first_known : Option Special → Option Special → Option Special
first_known (Some special) rest = Some special
first_known None rest = rest

-- What the first special target among these does, if there is one.
unfoldable pub special_among : List (List ℕ) → Option Special
special_among [] = None
special_among (target ∷ targets) = first_known (special_of target) (special_among targets)

-- The byte is one of `A-Z` and `_`.
abbrev pub is_capital : ℕ → Bool
is_capital b = (nat_le 65 b && nat_le b 90) || b == 95

-- The name has the form of a special target: a dot and three or more of `A-Z` and `_`.
abbrev pub is_special : List ℕ → Bool
is_special [] = false
is_special (b ∷ rest) = b == 46 && (nat_le 3 (length rest) && list_all is_capital rest)

-- There is no such special target.
abbrev pub is_unknown : Option Special → Bool
is_unknown None = true
is_unknown (Some special) = false

-- The name has the form of a special target, and isn't a known one.
abbrev pub is_unknown_special : List ℕ → Bool
is_unknown_special name = is_special name && is_unknown (special_of name)

-- The byte is neither `.` nor `/`.
abbrev pub is_suffix_byte : ℕ → Bool
is_suffix_byte b = not (b == 46) && not (b == 47)

-- A suffix is a dot and one or more bytes other than `.` and `/`.
abbrev pub is_suffix : List ℕ → Bool
is_suffix [] = false
is_suffix (b ∷ rest) = b == 46 && (not (is_empty rest) && list_all is_suffix_byte rest)

-- The suffixes after a `.SUFFIXES` line: with the words added, each once; none where the line has
-- no words.
abbrev pub listed : List (List ℕ) → List (List ℕ) → List (List ℕ)
listed suffixes words = if is_empty words then [] else once (suffixes ++ words)

-- An inference name is a known suffix, or two known suffixes in a row.
abbrev pub is_inference_name : List (List ℕ) → List ℕ → Bool
is_inference_name suffixes name =
    list_any (λ s. bytes_eq name s || list_any (λ t. bytes_eq name (s ++ t)) suffixes) suffixes
