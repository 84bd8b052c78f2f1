-- Laws of whole makefiles that hold but for places.
use Rattle.std.specs.Prelude.{◌≡◌, ◌<◌, ℕ, Bool, true, false, not, List, [], ◌∷◌, ◌++◌, length, map, filter, Option, None, Some, Result, Ok, Err, if◌then◌else◌, ◌&&◌}
use Rattle.std.specs.List.{list_any}
use Rattle.std.specs.Option.{option_map}
use Rattle.mk_lines.specs.Comments.{uncomment}
use Rattle.mk_lines.specs.Lines.{Line, logical_lines}
use Rattle.mk_lines.specs.declared.fault.LineFault.{LineFault}
use Rattle.mk_lines.specs.declared.fault.LineFault.TheVariants as line
use Rattle.mk_read.specs.declared.fault.KindFault.{KindFault}
use Rattle.mk_read.specs.declared.fault.Place.{Place}
use Rattle.mk_read.specs.declared.fault.ReadFault.{ReadFault}
use Rattle.mk_read.specs.declared.fault.ReadFault.TheVariants as fault
use Rattle.mk_read.specs.Kinds.{Kind, IncludeLine, Comment, Include, kind_of}
use Rattle.mk_read.specs.Names.{names_in}
use Rattle.mk_read.specs.Reading.{Reader, Text, Makefile, makefile_of, with_lines, reading, makefile, max_texts}
use Rattle.mk_read.specs.State.{Command, RuleRead, State}

-- The place that replaces every place.
abbrev pub nowhere : Place
nowhere = record { file = []; line = 0 }

-- The command without its place.
abbrev pub unplaced_command : Command → Command
unplaced_command command = record command { place = nowhere }

-- The rule line without its place and those of its commands.
abbrev pub unplaced_rule : RuleRead → RuleRead
unplaced_rule rule =
    record rule { commands = option_map (map unplaced_command) rule.commands; place = nowhere }

-- The makefile without the places of its rule lines and commands.
abbrev pub unplaced : Makefile → Makefile
unplaced m = record m { rules = map unplaced_rule m.rules }

-- The fault of a line without the line's number.
abbrev pub unnumbered_fault : LineFault → LineFault
unnumbered_fault (line.NulByte number) = line.NulByte 0
unnumbered_fault (line.LineTooLong number) = line.LineTooLong 0
unnumbered_fault (line.TooManyLines number) = line.TooManyLines 0
unnumbered_fault line.Memory = line.Memory

-- The fault without its place.
abbrev pub unplaced_fault : ReadFault → ReadFault
unplaced_fault (fault.Line file why) = fault.Line file (unnumbered_fault why)
unplaced_fault (fault.Macro place why) = fault.Macro nowhere why
unplaced_fault (fault.Kind place why) = fault.Kind nowhere why
unplaced_fault (fault.StrayCommand place) = fault.StrayCommand nowhere
unplaced_fault (fault.BadName place word) = fault.BadName nowhere word
unplaced_fault (fault.BadMakefileName name) = fault.BadMakefileName name
unplaced_fault (fault.ArchiveMember place word) = fault.ArchiveMember nowhere word
unplaced_fault (fault.UnknownSpecial place) = fault.UnknownSpecial nowhere
unplaced_fault (fault.SpecialShape place) = fault.SpecialShape nowhere
unplaced_fault (fault.TwoRecipes place name) = fault.TwoRecipes nowhere name
unplaced_fault (fault.IncludeMissing place name) = fault.IncludeMissing nowhere name
unplaced_fault (fault.IncludeDepth place) = fault.IncludeDepth nowhere
unplaced_fault (fault.IncludeEmpty place) = fault.IncludeEmpty nowhere
unplaced_fault (fault.ReadFailed place name) =
    fault.ReadFailed (option_map (λ place. nowhere) place) name
unplaced_fault (fault.TooManyFiles place) = fault.TooManyFiles nowhere
unplaced_fault (fault.NoMakefile name) = fault.NoMakefile name
unplaced_fault fault.Memory = fault.Memory

-- The view of a result, or its fault without the place.
abbrev pub but_places : {A B : Type 0} → (A → B) → Result A ReadFault → Result B ReadFault
but_places view (Ok x) = Ok (view x)
but_places view (Err fault) = Err (unplaced_fault fault)

-- The line is a comment line.
abbrev pub is_comment_kind : Result Kind KindFault → Bool
is_comment_kind (Ok Comment) = true
is_comment_kind kind = false

-- The line is an include line.
abbrev pub is_include_kind : Result Kind KindFault → Bool
is_include_kind (Ok (Include line)) = true
is_include_kind kind = false

-- The line is a plain line with nothing but blanks and a comment.
abbrev pub is_comment_line : Line → Bool
is_comment_line line = not line.command && is_comment_kind (kind_of (uncomment line.text))

-- The line is an include line.
abbrev pub is_include_line : Line → Bool
is_include_line line = not line.command && is_include_kind (kind_of (uncomment line.text))

-- The line without its number.
abbrev pub unnumbered : Line → Line
unnumbered line = record line { first = 0 }

-- The lines of a text without comment lines and line numbers, or its fault without the line's
-- number.
abbrev pub lines_said : Result (List Line) LineFault → Result (List Line) LineFault
lines_said (Ok lines) =
    Ok (map unnumbered (filter (λ (line : Line). not (is_comment_line line)) lines))
lines_said (Err why) = Err (unnumbered_fault why)

-- The lines of a text, if there is one, without comment lines and line numbers.
abbrev pub text_said : Option (List ℕ) → Option (Result (List Line) LineFault)
text_said text = option_map (λ bytes. lines_said (logical_lines bytes)) text

-- Two readers whose texts differ only in comment lines and line numbers give the same makefile or
-- the same fault, but for places.
abbrev pub CommentsAndNumbersChangeOnlyPlaces : Type 0
CommentsAndNumbersChangeOnlyPlaces =
    (reader other : Reader) → (file : Option (List ℕ)) → (defaults : Bool) →
    (operands : List (List ℕ))
    → reader.failing ≡ other.failing →
    ((name : List ℕ) → text_said (reader.text name) ≡ text_said (other.text name))
    → but_places unplaced (makefile reader file defaults operands) ≡
    but_places unplaced (makefile other file defaults operands)

-- No line is an include line.
abbrev pub includes_nothing : List Line → Bool
includes_nothing lines = not (list_any is_include_line lines)

-- The first line that is no comment line, if there is one, is no command line.
unfoldable pub begins_without_command : List Line → Bool
begins_without_command [] = true
begins_without_command (line ∷ lines) =
    if is_comment_line line then begins_without_command lines else not line.command

-- What has been read so far, without places and without the names of texts.
abbrev pub said : State → Makefile
said state = record (unplaced (makefile_of state)) { texts = [] }

-- The file exists, its lines are these, and they don't begin with a command line.
pub record FileHolds (reader : Reader) (name : List ℕ) (lines : List Line) : Type 0 where
  pub bytes : List ℕ
  pub there : reader.text name ≡ Some bytes
  pub good : logical_lines bytes ≡ Ok lines
  pub beginning : begins_without_command lines ≡ true

-- The files exist, and their lines together, in order, are these.
abbrev pub FilesHold : Reader → List (List ℕ) → List Line → Type 0
FilesHold reader [] lines = lines ≡ []
FilesHold reader (name ∷ names) lines =
    (own : List Line) × (rest : List Line) × FileHolds reader name own × (lines ≡ own ++ rest) ×
    FilesHold reader names rest

-- The line is an include line whose files, named with the macros of this state, hold these lines.
pub record IncludesLines (reader : Reader) (text : Text) (line : Line) (lines : List Line)
    (state : State) : Type 0 where
  pub include : IncludeLine
  pub plain : line.command ≡ false
  pub kind : kind_of (uncomment line.text) ≡ Ok (Include include)
  pub names : List (List ℕ)
  pub expands : names_in (record {
    file = text.file;
    line = line.first;
  }) state.table include.names ≡ Ok names
  pub files : FilesHold reader names lines

-- Replacing an include line by the lines of its files changes only places and the names of texts,
-- where the text was read without a fault, no read fails, the files exist, and neither they nor the
-- lines after the include line begin with a command line. The files may include others.
abbrev pub IncludeLinesStandForTheirLines : Type 0
IncludeLinesStandForTheirLines =
    (reader : Reader) → (levels : ℕ) → (text : Text) → (before lines after : List Line) →
    (line : Line) → (start read : State)
    → reader.failing ≡ None → text.default ≡ false
    → ((state : State) →
    with_lines reader (Some (reading levels reader)) text before start ≡ Ok state →
    IncludesLines reader text line lines state)
    → begins_without_command after ≡ true
    → with_lines reader (Some (reading levels reader)) text (before ++ line ∷ after) start ≡ Ok read
    → (same : State) ×
    (with_lines reader (Some (reading levels reader)) text (before ++ lines ++ after) start ≡
    Ok same) × (said same ≡ said read)

-- The line is an include line that names just this file, and one more text may be read in this
-- state.
pub record NamesOneFile (reader : Reader) (text : Text) (line : Line) (name : List ℕ)
    (state : State) : Type 0 where
  pub include : IncludeLine
  pub plain : line.command ≡ false
  pub kind : kind_of (uncomment line.text) ≡ Ok (Include include)
  pub one_name : names_in (record {
    file = text.file;
    line = line.first;
  }) state.table include.names ≡ Ok (name ∷ [])
  pub not_too_many : length state.texts < max_texts

-- The lines include nothing, and don't begin with a command line.
pub record StandAlone (lines : List Line) : Type 0 where
  pub including : includes_nothing lines ≡ true
  pub beginning : begins_without_command lines ≡ true

-- Replacing an include line by the lines of its one file gives the same state or the same fault,
-- but for places and the names of texts, where no read fails, and neither the file nor the lines
-- after the include line include anything or begin with a command line.
abbrev pub IncludeLinesFailAsTheirLines : Type 0
IncludeLinesFailAsTheirLines =
    (reader : Reader) → (levels : ℕ) → (text : Text) → (before lines after : List Line) →
    (line : Line) → (name bytes : List ℕ) → (start : State)
    → reader.failing ≡ None → text.default ≡ false
    → ((state : State) →
    with_lines reader (Some (reading levels reader)) text before start ≡ Ok state →
    NamesOneFile reader text line name state)
    → reader.text name ≡ Some bytes → logical_lines bytes ≡ Ok lines → StandAlone lines →
    StandAlone after
    → but_places said (with_lines reader (Some (reading levels reader)) text (before ++
    line ∷ after) start)
    ≡ but_places said (with_lines reader (Some (reading levels reader)) text (before ++ lines ++
    after) start)
