-- The logical lines of a text.
use Rattle.std.specs.Prelude.{ℕ, ◌+◌, ◌-◌, ◌==◌, Bool, true, false, not, List, [], ◌∷◌, ◌++◌, length, map, filter, take, drop, reverse, Option, None, Some, Result, Ok, Err, nat_lt, nat_le, ◌%◌, if◌then◌else◌}
use Rattle.std.specs.List.{slice_split, list_any, prefix_len}
use Rattle.std.specs.Option.{option_or}
use Rattle.mk_lines.specs.Bytes.{is_byte, is_blank_alone, trimmed}
use Rattle.mk_lines.specs.declared.fault.LineFault.{LineFault}
use Rattle.mk_lines.specs.declared.fault.LineFault.TheVariants.{NulByte, LineTooLong, TooManyLines}

-- A logical line: the number of its first physical line, counted from 1; whether it is a command
-- line; and its text, without the leading tab of a command line.
pub record Line : Type 0 where
  pub first : ℕ
  pub command : Bool
  pub text : List ℕ

-- How many backslashes end the piece.
abbrev pub backslashes : List ℕ → ℕ
backslashes piece = prefix_len (is_byte 92) (reverse piece)

-- The newline after the piece is escaped: an odd number of backslashes ends the piece.
abbrev pub escapes : List ℕ → Bool
escapes piece = backslashes piece % 2 == 1

-- The runs of a list of pieces whose first piece has an escaped newline, from that piece and the
-- runs of the others: the first run gets the piece in front.
abbrev pub with_piece_in_front : List ℕ → List (List (List ℕ)) → List (List (List ℕ))
with_piece_in_front piece [] = (piece ∷ []) ∷ []
with_piece_in_front piece (run ∷ runs) = (piece ∷ run) ∷ runs

-- The runs of a list of pieces: a piece whose newline is escaped and the next piece are in one run.
-- The last piece has no newline.
unfoldable pub runs : List (List ℕ) → List (List (List ℕ))
runs [] = []
runs (piece ∷ pieces) =
    if escapes piece then with_piece_in_front piece (runs pieces) else (piece ∷ []) ∷ runs pieces

-- The text without its last byte.
abbrev pub without_last_byte : List ℕ → List ℕ
without_last_byte text = take (length text - 1) text

-- The pieces of a plain line joined: a backslash, its newline and the leading blanks of the next
-- piece become one space.
unfoldable pub plain_text : List ℕ → List (List ℕ) → List ℕ
plain_text piece [] = piece
plain_text piece (next ∷ pieces) = without_last_byte piece ++ 32 ∷ plain_text (trimmed next) pieces

-- The text begins with a tab.
abbrev pub is_command : List ℕ → Bool
is_command [] = false
is_command (b ∷ text) = b == 9

-- The text without its first byte, if that is a tab.
abbrev pub without_tab : List ℕ → List ℕ
without_tab text = if is_command text then drop 1 text else text

-- The pieces of a command line joined: backslash and newline stay, and one leading tab of each
-- later piece is dropped.
unfoldable pub command_text : List ℕ → List (List ℕ) → List ℕ
command_text piece [] = piece
command_text piece (next ∷ pieces) = piece ++ 10 ∷ command_text (without_tab next) pieces

-- The text of a plain line with these pieces.
abbrev pub plain_of : List (List ℕ) → List ℕ
plain_of [] = []
plain_of (piece ∷ pieces) = plain_text piece pieces

-- The text of a command line with these pieces, without its leading tab.
abbrev pub command_of : List (List ℕ) → List ℕ
command_of [] = []
command_of (piece ∷ pieces) = command_text piece pieces

-- The text of a command line or a plain line with these pieces.
abbrev pub text_of : Bool → List (List ℕ) → List ℕ
text_of command pieces = if command then command_of pieces else plain_of pieces

-- A run with the number of its first physical line, counted from 1.
pub record PieceRun : Type 0 where
  pub first : ℕ
  pub pieces : List (List ℕ)

-- The runs with their numbers, where the first physical line of the first one has the given number.
unfoldable pub number_runs : ℕ → List (List (List ℕ)) → List PieceRun
number_runs number [] = []
number_runs number (run ∷ runs) =
    record { first = number; pieces = run } ∷ number_runs (number + length run) runs

-- The logical line of pieces: a command line where the first piece begins with a tab, which is
-- dropped, else a plain line.
abbrev pub joined : ℕ → List (List ℕ) → Line
joined number [] = record { first = number; command = false; text = [] }
joined number (piece ∷ pieces) =
    if is_command piece then record {
      first =
          number;
      command = true;
      text = command_text (drop 1 piece) pieces;
    }
    else record { first = number; command = false; text = plain_text piece pieces }

-- The logical line of a run.
abbrev pub line_of : PieceRun → Line
line_of run = joined run.first run.pieces

-- The line of the run isn't blank.
abbrev pub is_kept : PieceRun → Bool
is_kept run = not (is_blank_alone (line_of run).text)

-- The runs of a text whose lines aren't blank.
unfoldable pub runs_of : List ℕ → List PieceRun
runs_of text = filter is_kept (number_runs 1 (runs (slice_split (is_byte 10) text)))

-- The logical lines of a text that aren't blank, before any limit is checked.
abbrev pub lines_of : List ℕ → List Line
lines_of text = map line_of (runs_of text)

-- The most bytes of a line.
abbrev pub max_line : ℕ
max_line = 65536

-- The most lines of a text.
abbrev pub max_lines : ℕ
max_lines = 65536

-- The fault of a line that has `before` lines before it: `NulByte` (1), else `LineTooLong` (2),
-- else `TooManyLines` (3).
abbrev pub line_fault : ℕ → Line → Option LineFault
line_fault before line =
    if list_any (is_byte 0) line.text then Some (NulByte line.first)
    else (if nat_lt max_line (length line.text) then Some (LineTooLong line.first)
    else (if nat_le max_lines before then Some (TooManyLines line.first)
    else None))

-- The fault of the first faulty line, where `before` lines precede the first one.
unfoldable pub first_fault : ℕ → List Line → Option LineFault
first_fault before [] = None
first_fault before (line ∷ lines) =
    option_or (line_fault before line) (first_fault (before + 1) lines)

-- The value, or the fault where there is one.
abbrev pub unless : {A : Type 0} → Option LineFault → A → Result A LineFault
unless (Some fault) x = Err fault
unless None x = Ok x

-- The logical lines of a text, or the fault of the first faulty line.
unfoldable pub logical_lines : List ℕ → Result (List Line) LineFault
logical_lines text = unless (first_fault 0 (lines_of text)) (lines_of text)
