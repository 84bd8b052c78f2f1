-- The line of a file that `check -w` prints after a refusal.
use Rattle.std.specs.Prelude.{◌≡◌, ◌⊎◌, ℕ, ◌-◌, ◌==◌, Bool, not, ◌&&◌, ◌||◌, List, [], ◌∷◌, ◌++◌, codes, length, map, take, Option, None, Some, is_ok, nat_lt, if◌then◌else◌}
use Rattle.std.specs.List.{slice_get, slice_split}
use Rattle.std.specs.Option.{option_and_then}
use Rattle.std.specs.Str.{bytes_eq}
use Rattle.mk_infer.specs.declared.fault.InferFault.{InferFault}
use Rattle.mk_infer.specs.declared.fault.InferFault.TheVariants as infer
use Rattle.mk_lines.specs.Bytes.{begins_with, is_byte}
use Rattle.mk_lines.specs.declared.fault.LineFault.{LineFault}
use Rattle.mk_lines.specs.declared.fault.LineFault.TheVariants as line
use Rattle.mk_read.specs.declared.fault.Place.{Place}
use Rattle.mk_read.specs.declared.fault.ReadFault.{ReadFault}
use Rattle.mk_read.specs.declared.fault.ReadFault.TheVariants as read
use Rattle.mk_read.specs.Files.{IfFits, Told, text_at}
use Rattle.mk_core.specs.declared.request.Request.{Request}
use Rattle.mk_core.specs.Ready.{macros_for}
use Rattle.mk_core_text.specs.declared.fault.Fault.{Fault}
use Rattle.mk_core_text.specs.declared.fault.Fault.TheVariants.{Read, Infer}

-- The line of this file that has the fault.
abbrev pub place_of_line : List ℕ → LineFault → Option Place
place_of_line file (line.NulByte number) = Some (record { file = file; line = number })
place_of_line file (line.LineTooLong number) = Some (record { file = file; line = number })
place_of_line file (line.TooManyLines number) = Some (record { file = file; line = number })
place_of_line file line.Memory = None

-- The place that a fault of the makefile names, if it names one.
abbrev pub place_of_read : ReadFault → Option Place
place_of_read (read.Line file fault) = place_of_line file fault
place_of_read (read.Macro place fault) = Some place
place_of_read (read.Kind place fault) = Some place
place_of_read (read.StrayCommand place) = Some place
place_of_read (read.BadName place word) = Some place
place_of_read (read.BadMakefileName name) = None
place_of_read (read.ArchiveMember place word) = Some place
place_of_read (read.UnknownSpecial place) = Some place
place_of_read (read.SpecialShape place) = Some place
place_of_read (read.TwoRecipes place target) = Some place
place_of_read (read.IncludeMissing place name) = Some place
place_of_read (read.IncludeDepth place) = Some place
place_of_read (read.IncludeEmpty place) = Some place
place_of_read (read.ReadFailed place name) = place
place_of_read (read.TooManyFiles place) = Some place
place_of_read (read.NoMakefile name) = None
place_of_read read.Memory = None

-- The place that a fault of goals, of their graph or of commands names, if it names one.
abbrev pub place_of_infer : InferFault → Option Place
place_of_infer (infer.BadGoal place) = Some place
place_of_infer (infer.GoalIsMember place) = Some place
place_of_infer (infer.InferencePrerequisites place) = Some place
place_of_infer (infer.Macro place fault) = Some place
place_of_infer (infer.NoRule name place) = place
place_of_infer (infer.Graph fault place) = place
place_of_infer fault = None

-- The place that a fault names, if it names one.
abbrev pub place_of : Fault → Option Place
place_of (Read fault) = place_of_read fault
place_of (Infer fault) = place_of_infer fault
place_of fault = None

-- This stands for the file in the place of a macro operand, of a goal or of the default text. A
-- file with such a name is never read for its line.
abbrev pub is_no_file : List ℕ → Bool
is_no_file file =
    bytes_eq file (codes "operand") ||
    (bytes_eq file (codes "goal") || bytes_eq file (codes "(default)"))

-- The place, if it is a line of a file.
abbrev pub in_file : Option Place → Option Place
in_file None = None
in_file (Some place) = if is_no_file place.file then None else Some place

-- The file lies outside of the folder in which the program runs, and of those below it.
abbrev pub lies_outside : List ℕ → Bool
lies_outside file = begins_with (codes "/") file || begins_with (codes "../") file

-- The place, if its line may be shown.
abbrev pub shown_place : Option Place → Option Place
shown_place None = None
shown_place (Some place) = if lies_outside place.file then None else Some place

-- The line of a file that is printed after the refusal, if it has one. There is none where the
-- request is refused before any file is read.
abbrev pub line_place : Request → Fault → Option Place
line_place request fault =
    if is_ok (macros_for request) then shown_place (in_file (place_of fault)) else None

-- The physical line with this number, counted from 1, without its newline, if there is one.
abbrev pub physical_line : List ℕ → ℕ → Option (List ℕ)
physical_line text number = slice_get (slice_split (is_byte 10) text) (number - 1)

-- How many bytes of a line are printed.
abbrev pub max_shown : ℕ
max_shown = 200

-- A control byte other than a tab is printed as a question mark.
abbrev pub shown_byte : ℕ → ℕ
shown_byte b = if (nat_lt b 32 && not (b == 9)) || b == 127 then 63 else b

-- What ends the printed line: a mark where bytes are left out, and a newline.
abbrev pub line_end : List ℕ → List ℕ
line_end text = (if nat_lt max_shown (length text) then codes " .." else []) ++ 10 ∷ []

-- A line as it is printed: after two spaces, its first bytes.
abbrev pub shown_line : List ℕ → List ℕ
shown_line text = codes "  " ++ (map shown_byte (take max_shown text) ++ line_end text)

-- The line, if there is one, as it is printed; else nothing.
abbrev pub line_text : Option (List ℕ) → List ℕ
line_text None = []
line_text (Some text) = shown_line text

-- What is printed of the line at this place, when the files have these contents: nothing where the
-- file doesn't exist or has no such line.
abbrev pub line_at : Told → Place → List ℕ
line_at told place =
    line_text (option_and_then (λ text. physical_line text place.line) (text_at told place.file))

-- What is printed of the line at this place, if there is a place, after the file was read: what the
-- files have there for each map that fits, and no read failed; or nothing, where reading the file
-- failed, whose name is then one more of those whose reads failed. Without a place nothing is read.
abbrev pub FindsLine : (Told → Type 0) → (old new : List (List ℕ)) → Option Place → List ℕ → Type 0
FindsLine fits old new None shown = (new ≡ old) × (shown ≡ [])
FindsLine fits old new (Some place) shown =
    ((new ≡ old) × IfFits fits (λ told. shown ≡ line_at told place)) ⊎
    ((new ≡ place.file ∷ old) × (shown ≡ []))
