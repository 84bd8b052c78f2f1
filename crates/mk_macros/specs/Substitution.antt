-- `$(N:s1=s2)`: the words of a value, each with its end replaced, or replaced by a pattern with
-- `%`.
use Rattle.std.specs.Prelude.{ℕ, ◌+◌, ◌-◌, Bool, ◌&&◌, List, [], ◌∷◌, ◌++◌, length, map, take, drop, nat_le, if◌then◌else◌}
use Rattle.std.specs.List.{list_any, before_first, after_first, join_with_byte}
use Rattle.std.specs.Str.{bytes_eq}
use Rattle.mk_lines.specs.Bytes.{is_byte, begins_with}
use Rattle.mk_lines.specs.Words.{is_word, words}

-- The byte is `%`.
abbrev pub is_percent : ℕ → Bool
is_percent b = is_byte 37 b

-- The text without its last n bytes.
abbrev pub without_end : ℕ → List ℕ → List ℕ
without_end n text = take (length text - n) text

-- The text ends with `back`.
abbrev pub ends_with : List ℕ → List ℕ → Bool
ends_with back text =
    nat_le (length back) (length text) && bytes_eq (drop (length text - length back) text) back

-- The word, with its end `old` replaced by `new` where it ends so.
abbrev pub with_end_replaced : List ℕ → List ℕ → List ℕ → List ℕ
with_end_replaced old new word =
    if ends_with old word then without_end (length old) word ++ new else word

-- The new text with its first `%` replaced by the stem.
abbrev pub with_stem : List ℕ → List ℕ → List ℕ
with_stem stem new =
    if list_any is_percent new then before_first is_percent new ++ stem ++
    after_first is_percent new else new

-- The word begins with `front` and ends with `back`, without overlap.
abbrev pub is_between : List ℕ → List ℕ → List ℕ → Bool
is_between front back word =
    nat_le (length front + length back) (length word) &&
    (begins_with front word && ends_with back word)

-- A word that begins with `front` and ends with `back` becomes the new text, its `%` replaced by
-- what is between them; another word is unchanged.
abbrev pub with_pattern_replaced : List ℕ → List ℕ → List ℕ → List ℕ → List ℕ
with_pattern_replaced front back new word =
    if is_between front back word then with_stem (drop (length front)
    (without_end (length back) word)) new else word

-- A word replaced by a pattern where the old text has a `%`, else by its end.
abbrev pub replaced : List ℕ → List ℕ → List ℕ → List ℕ
replaced old new word =
    if list_any is_percent old then with_pattern_replaced (before_first is_percent old)
    (after_first is_percent old) new word
    else with_end_replaced old new word

-- The words of a value, each replaced or unchanged, separated by one space.
unfoldable pub substituted : List ℕ → List ℕ → List ℕ → List ℕ
substituted old new value = join_with_byte 32 (map (replaced old new) (words value))

-- What a part of a value between blanks becomes: nothing where it is empty, else its word, after a
-- space where it isn't the first.
abbrev pub part_text : (is_first : Bool) → (List ℕ → List ℕ) → List ℕ → List ℕ
part_text is_first replaced part =
    if is_word part then (if is_first then replaced part else 32 ∷ replaced part) else []
