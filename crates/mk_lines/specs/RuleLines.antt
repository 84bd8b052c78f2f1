-- Rule lines and include lines.
use Rattle.std.specs.Prelude.{ℕ, ◌==◌, Bool, false, not, ◌&&◌, ◌||◌, List, [], ◌∷◌, codes, drop, Option, None, Some, slice_index}
use Rattle.std.specs.List.{before_first}
use Rattle.std.specs.Str.{bytes_eq}
use Rattle.mk_lines.specs.Bytes.{is_blank, trimmed}
use Rattle.mk_lines.specs.References.{first_outside}

-- The bytes before the first blank, leading blanks dropped.
abbrev pub first_word : List ℕ → List ℕ
first_word text = before_first is_blank (trimmed text)

-- The first word is `include` or `-include`.
abbrev pub is_include : List ℕ → Bool
is_include text =
    bytes_eq (first_word text) (codes "include") || bytes_eq (first_word text) (codes "-include")

-- The byte is `=`, `:` or `;`.
abbrev pub is_decisive : ℕ → Bool
is_decisive b = b == 61 || (b == 58 || b == 59)

-- The text begins with a colon that neither `:` nor `=` follows.
abbrev pub begins_with_rule_colon : List ℕ → Bool
begins_with_rule_colon [] = false
begins_with_rule_colon (b ∷ text) =
    b == 58 && (not (slice_index text 0 == 58) && not (slice_index text 0 == 61))

-- At this position is a colon that neither `:` nor `=` follows.
abbrev pub is_rule_colon_at : List ℕ → Option ℕ → Bool
is_rule_colon_at text None = false
is_rule_colon_at text (Some at) = begins_with_rule_colon (drop at text)

-- A plain line is a rule line where it is no include line, and the first of `=`, `:`, `;` outside
-- references is a colon that neither `:` nor `=` follows.
unfoldable pub is_rule_line : List ℕ → Bool
is_rule_line text = not (is_include text) && is_rule_colon_at text (first_outside is_decisive text)
