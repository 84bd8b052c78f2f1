-- Comments of plain lines.
use Rattle.std.specs.Prelude.{ℕ, suc, ◌==◌, Bool, false, not, ◌&&◌, ◌||◌, List, [], ◌∷◌, ◌++◌, length, take, drop, Option, None, Some, if◌then◌else◌}
use Rattle.std.specs.Option.{option_map}
use Rattle.mk_lines.specs.Bytes.{is_byte}
use Rattle.mk_lines.specs.References.{first_outside}
use Rattle.mk_lines.specs.RuleLines.{is_rule_line}

-- A position in a text, or the text's length where there is none.
abbrev pub or_length : List ℕ → Option ℕ → ℕ
or_length text None = length text
or_length text (Some at) = at

-- Where the part of a line begins that stays unchanged: at the first `;` outside references on a
-- rule line, else at the end of the line.
abbrev pub unchanged_from : List ℕ → ℕ
unchanged_from text =
    if is_rule_line text then or_length text (first_outside (is_byte 59) text) else length text

-- The part of a line that is searched for a comment.
abbrev pub searched_part : List ℕ → List ℕ
searched_part text = take (unchanged_from text) text

-- The part of a line that stays unchanged.
abbrev pub unchanged_part : List ℕ → List ℕ
unchanged_part text = drop (unchanged_from text) text

-- The position of the first `#` that doesn't directly follow a backslash; the flag says whether a
-- backslash precedes the text.
unfoldable pub comment_from : Bool → List ℕ → Option ℕ
comment_from behind_backslash [] = None
comment_from behind_backslash (b ∷ text) =
    if (b == 35) && not behind_backslash then Some 0
    else option_map suc (comment_from (b == 92) text)

-- The position of the first `#` that doesn't directly follow a backslash.
abbrev pub comment_at : List ℕ → Option ℕ
comment_at text = comment_from false text

-- The text begins with `#`.
abbrev pub begins_with_hash : List ℕ → Bool
begins_with_hash [] = false
begins_with_hash (b ∷ text) = b == 35

-- The text with each `\#` replaced by `#`.
unfoldable pub unescaped : List ℕ → List ℕ
unescaped [] = []
unescaped (b ∷ text) =
    if (b == 92) && begins_with_hash text then unescaped text else b ∷ unescaped text

-- The text contains `\#`.
unfoldable pub has_escaped_hash : List ℕ → Bool
has_escaped_hash [] = false
has_escaped_hash (b ∷ text) = ((b == 92) && begins_with_hash text) || has_escaped_hash text

-- What precedes the comment in the part that is searched for one, or that part where it has no
-- comment.
abbrev pub before_comment : List ℕ → List ℕ
before_comment text =
    take (or_length (searched_part text) (comment_at (searched_part text))) (searched_part text)

-- A plain line with each `\#` replaced by `#` in the part before the comment; where there is no
-- comment, the unchanged part follows.
abbrev pub without_comment : List ℕ → Option ℕ → List ℕ
without_comment text (Some at) = unescaped (before_comment text)
without_comment text None = unescaped (before_comment text) ++ unchanged_part text

-- A plain line without its comment, and with each `\#` before the comment replaced by `#`.
unfoldable pub uncomment : List ℕ → List ℕ
uncomment text = without_comment text (comment_at (searched_part text))
