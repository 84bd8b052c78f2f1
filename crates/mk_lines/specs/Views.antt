-- The values that contracts see of the code's types, and which lines borrow.
use Rattle.std.specs.Prelude.{◌==◌, Bool, length, reverse}
use Rattle.std.specs.Cow.{cow_slice_items}
use Rattle.mk_lines.specs.Borrowed.{is_borrowed}
use Rattle.mk_lines.specs.References.{ReferenceState}
use Rattle.mk_lines.specs.Lines.{Line, PieceRun}
use Rattle.mk_lines.specs.declared.lines.Line as code
use Rattle.mk_lines.specs.declared.references.ReferenceState as code_place

-- The state that a `ReferenceState` of the code stands for; the code keeps the innermost closing
-- byte last.
abbrev pub reference_state_view : code_place.ReferenceState → ReferenceState
reference_state_view place = record { ends = reverse place.ends.items; dollar = place.dollar }

-- The line that a `Line` of the code stands for.
abbrev pub line_view : code.Line → Line
line_view line =
    record { first = line.first; command = line.command; text = cow_slice_items line.text }

-- The run is a single physical line.
abbrev pub is_single_line : PieceRun → Bool
is_single_line run = length run.pieces == 1

-- The text of the line borrows from the text that was read.
abbrev pub borrows_text : code.Line → Bool
borrows_text line = is_borrowed line.text
