-- Laws of texts.
use Rattle.std.specs.Prelude.{◌≡◌, ◌⊎◌, ℕ, Bool, true, false, not, List, [], ◌∷◌, ◌++◌, ◌&&◌, ◌||◌, Option, Some, Ok}
use Rattle.std.specs.List.{list_any}
use Rattle.std.specs.Str.{bytes_eq}
use Rattle.mk_lines.specs.Bytes.{is_byte, is_blank_alone}
use Rattle.mk_lines.specs.Comments.{uncomment}
use Rattle.mk_lines.specs.Lines.{Line, escapes, is_command, logical_lines}
use Rattle.mk_read.specs.Kinds.{kind_of}
use Rattle.mk_read.specs.PlaceLaws.{unplaced, but_places, is_comment_kind, text_said}
use Rattle.mk_read.specs.Reading.{Reader, makefile}

-- The text is empty, or ends with a newline that isn't escaped.
abbrev pub EndsALine : List ℕ → Type 0
EndsALine text =
    (text ≡ []) ⊎ ((lines : List ℕ) × (text ≡ lines ++ 10 ∷ []) × (escapes lines ≡ false))

-- The physical line has no newline, doesn't go on in the next line, and is blank or a comment line.
abbrev pub is_blank_or_comment : List ℕ → Bool
is_blank_or_comment line =
    not (list_any (is_byte 10) line) &&
    (not (escapes line) &&
    (is_blank_alone line || (not (is_command line) && is_comment_kind (kind_of (uncomment line)))))

-- A blank line or a comment line that is inserted into a text between two lines doesn't change what
-- the text says, where no limit of lines is exceeded.
abbrev pub SilentLinesSayNothing : Type 0
SilentLinesSayNothing =
    (front line other : List ℕ) → (without having : List Line) → EndsALine front →
    is_blank_or_comment line ≡ true
    → logical_lines (front ++ other) ≡ Ok without →
    logical_lines (front ++ ((line ++ 10 ∷ []) ++ other)) ≡ Ok having
    → text_said (Some (front ++ ((line ++ 10 ∷ []) ++ other))) ≡ text_said (Some (front ++ other))

-- Two readers whose texts differ only in a blank line or a comment line that is inserted into one
-- text give the same makefile or the same fault, but for places.
abbrev pub SilentLinesChangeOnlyPlaces : Type 0
SilentLinesChangeOnlyPlaces =
    (reader other : Reader) → (file : Option (List ℕ)) → (defaults : Bool) →
    (operands : List (List ℕ)) → (changed front line rest : List ℕ) → (without having : List Line)
    → reader.failing ≡ other.failing →
    ((name : List ℕ) → bytes_eq name changed ≡ false → reader.text name ≡ other.text name)
    → reader.text changed ≡ Some (front ++ ((line ++ 10 ∷ []) ++ rest)) →
    other.text changed ≡ Some (front ++ rest) → EndsALine front → is_blank_or_comment line ≡ true
    → logical_lines (front ++ rest) ≡ Ok without →
    logical_lines (front ++ ((line ++ 10 ∷ []) ++ rest)) ≡ Ok having
    → but_places unplaced (makefile reader file defaults operands) ≡
    but_places unplaced (makefile other file defaults operands)
