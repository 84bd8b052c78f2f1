-- Names that can be words of a line.
use Rattle.std.specs.Prelude.{◌≡◌, ℕ, ◌<◌, Bool, true, not, ◌&&◌, List, length}
use Rattle.std.specs.List.{list_all}
use Rattle.std.specs.Str.{is_utf8}
use Rattle.mk_lines.specs.Bytes.{is_blank, is_byte}
use Rattle.mk_lines.specs.Paths.{is_plain_path}

-- Whether the byte is neither a blank nor a newline.
abbrev pub is_of_word : ℕ → Bool
is_of_word b = not (is_blank b) && not (is_byte 10 b)

-- The name can be one word of a line.
pub record IsWellSpelled (f : List ℕ) : Type 0 where
  pub not_empty : 0 < length f
  pub utf8 : is_utf8 f ≡ true
  pub one_word : list_all is_of_word f ≡ true

-- A plain path is well spelled.
abbrev pub PlainPathsAreWellSpelled : Type 0
PlainPathsAreWellSpelled = (f : List ℕ) → is_plain_path f ≡ true → IsWellSpelled f
