-- Laws of include lines in whole makefiles.
use Rattle.std.specs.Prelude.{◌≡◌, ℕ, Bool, true, false, List, [], ◌∷◌, ◌++◌, codes, None, Some, Ok}
use Rattle.mk_lines.specs.Lines.{Line, logical_lines}
use Rattle.mk_read.specs.Names.{is_make_name}
use Rattle.mk_read.specs.PlaceLaws.{unplaced, lines_said, begins_without_command, FileHolds, IncludesLines}
use Rattle.mk_read.specs.Reading.{Reader, Text, Makefile, named, makefile}
use Rattle.mk_read.specs.State.{State}

-- A line `include NAME` includes the lines of the file NAME, whatever was read before it.
abbrev pub SpelledLinesIncludeTheirFile : Type 0
SpelledLinesIncludeTheirFile =
    (reader : Reader) → (text : Text) → (line : Line) → (name : List ℕ) → (lines : List Line) →
    (state : State)
    → line.command ≡ false → line.text ≡ codes "include " ++ name → is_make_name name ≡ true →
    FileHolds reader name lines
    → IncludesLines reader text line lines state

-- The makefile without places and without the names of its texts.
abbrev pub content : Makefile → Makefile
content m = record (unplaced m) { texts = [] }

-- Replacing an include line of a makefile by the lines of the files that it includes changes only
-- places and the names of texts, where the makefile was read without a fault, no read fails, and
-- neither the files nor the lines after the include line begin with a command line.
abbrev pub MakefilesMayHaveTheLinesInPlace : Type 0
MakefilesMayHaveTheLinesInPlace =
    (reader : Reader) → (including inlined one other : List ℕ) → (defaults : Bool) →
    (operands : List (List ℕ)) → (m : Makefile) → (before lines after : List Line) → (line : Line)
    → reader.failing ≡ None → named (Some inlined) ≡ Ok (Some inlined)
    → reader.text including ≡ Some one → logical_lines one ≡ Ok (before ++ line ∷ after)
    → reader.text inlined ≡ Some other →
    lines_said (logical_lines other) ≡ lines_said (Ok (before ++ lines ++ after))
    → ((state : State) →
    IncludesLines reader (record { file = including; default = false }) line lines state)
    → begins_without_command after ≡ true
    → makefile reader (Some including) defaults operands ≡ Ok m
    → (n : Makefile) × (makefile reader (Some inlined) defaults operands ≡ Ok n) ×
    (content n ≡ content m)
