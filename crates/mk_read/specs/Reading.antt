-- How a makefile is read.
--
-- Lines are read in order, each changing the state: what has been defined, listed and read so far.
-- An include line is replaced by the lines of its files. The first fault is the result.
use Rattle.std.specs.Prelude.{ℕ, zero, suc, ◌+◌, ◌==◌, Bool, true, false, not, ◌||◌, List, [], ◌∷◌, ◌++◌, codes, length, filter, nat_le, Option, None, Some, Result, Ok, Err, if◌then◌else◌}
use Rattle.std.specs.List.{list_any, flat_map}
use Rattle.std.specs.Str.{bytes_eq}
use Rattle.mk_lines.specs.Comments.{uncomment}
use Rattle.mk_lines.specs.Lines.{Line, logical_lines}
use Rattle.mk_lines.specs.Paths.{is_plain_path}
use Rattle.mk_macros.specs.Definitions.{with_operand}
use Rattle.mk_macros.specs.Table.{Macro}
use Rattle.mk_read.specs.declared.fault.Place.{Place}
use Rattle.mk_read.specs.declared.fault.ReadFault.{ReadFault}
use Rattle.mk_read.specs.declared.fault.ReadFault.TheVariants.{BadMakefileName, IncludeMissing, IncludeDepth, IncludeEmpty, TooManyFiles, ReadFailed, NoMakefile}
use Rattle.mk_read.specs.Kinds.{Kind, IncludeLine, Comment, Include, Assignment, Rule, kind_of}
use Rattle.mk_read.specs.Names.{names_in, is_empty}
use Rattle.mk_read.specs.Special.{is_inference_name}
use Rattle.mk_read.specs.State.{RuleRead, State, nothing_read, rules_of, parted}
use Rattle.mk_read.specs.Rules.{command_line, assignment, rule}
use Rattle.mk_read.specs.Steps.{◌>>=◌, in_file, at_place, of_kind}

-- A reader of files: the text of each file that exists, and the number of the read that fails, if
-- one does.
pub record Reader : Type 0 where
  pub text : List ℕ → Option (List ℕ)
  pub failing : Option ℕ

-- How many reads have succeeded.
abbrev pub reads : State → ℕ
reads state = length state.texts + length state.missing

-- The number, if there is one, is n.
abbrev pub is_number : Option ℕ → ℕ → Bool
is_number None n = false
is_number (Some k) n = k == n

-- The next read, counted from 1, is the one that fails.
abbrev pub fails : Reader → State → Bool
fails reader state = is_number reader.failing (suc (reads state))

-- A text: the name of its file, and whether it is the default text.
pub record Text : Type 0 where
  pub file : List ℕ
  pub default : Bool

-- How the text of an included file is read; `None` at the last level, where no file may be
-- included.
abbrev pub Deeper : Type 0
Deeper = Option (List ℕ → List ℕ → State → Result State ReadFault)

-- The level at which an include line is refused.
abbrev pub max_levels : ℕ
max_levels = 16

-- The most texts that are read.
abbrev pub max_texts : ℕ
max_texts = 1024

-- The state after a file of an include line was looked for: its text is read where it exists; a
-- missing file is skipped where that is allowed, else `IncludeMissing` (32).
abbrev pub found : (List ℕ → List ℕ → State → Result State ReadFault) → Place → Bool → State →
    List ℕ → Option (List ℕ) → Result State ReadFault
found read place optional state name None =
    if optional then Ok (record state {
      missing = state.missing ++
          name ∷ [];
    }) else Err (IncludeMissing place name)
found read place optional state name (Some text) =
    read name text (record state {
      texts = state.texts ++
          name ∷ [];
    }) >>= λ after. Ok (parted after)

-- The state after one file of an include line: `TooManyFiles` (36), else `ReadFailed` (35), else as
-- `found` says.
unfoldable pub one_file : Reader → (List ℕ → List ℕ → State → Result State ReadFault) → Place →
    Bool → State → List ℕ → Result State ReadFault
one_file reader read place optional state name =
    if nat_le max_texts (length state.texts) then Err (TooManyFiles place)
    else (if fails reader state then Err (ReadFailed (Some place) name)
    else found read place optional state name (reader.text name))

-- The state after the files of an include line, in order.
unfoldable pub files : Reader → (List ℕ → List ℕ → State → Result State ReadFault) → Place → Bool →
    List (List ℕ) → State → Result State ReadFault
files reader read place optional [] state = Ok state
files reader read place optional (name ∷ names) state =
    one_file reader read place optional state name >>= files reader read place optional names

-- The state after an include line: `IncludeDepth` (33) at the last level; then its names are
-- expanded; `IncludeEmpty` (34) without names. No command line after it belongs to a rule line
-- before it.
abbrev pub include : Reader → Deeper → Place → State → IncludeLine → Result State ReadFault
include reader None place state line = Err (IncludeDepth place)
include reader (Some read) place state line = names_in place state.table line.names >>= λ names.
    if is_empty names then Err (IncludeEmpty place)
    else files reader read place line.optional names (parted state)

-- The state after a plain line of this kind; a comment line changes nothing.
abbrev pub plain_line : Reader → Deeper → Bool → Place → State → Kind → Result State ReadFault
plain_line reader deeper default place state Comment = Ok state
plain_line reader deeper default place state (Include line) = include reader deeper place state line
plain_line reader deeper default place state (Assignment line) = assignment place state line
plain_line reader deeper default place state (Rule line) = rule default place state line

-- The state after one more line.
unfoldable pub with_line : Reader → Deeper → Text → State → Line → Result State ReadFault
with_line reader deeper text state line =
    let place : Place = record { file = text.file; line = line.first } in
    if line.command then (command_line place line.text state.read.earlier state.read.owner
    >>= λ read. Ok (record state { read = read }))
    else (of_kind place (kind_of (uncomment line.text))
    >>= plain_line reader deeper text.default place state)

-- The state after these lines.
unfoldable pub with_lines : Reader → Deeper → Text → List Line → State → Result State ReadFault
with_lines reader deeper text [] state = Ok state
with_lines reader deeper text (line ∷ lines) state =
    with_line reader deeper text state line >>= with_lines reader deeper text lines

-- The state after a text; faults of splitting it into lines come before any line is read.
abbrev pub with_text : Reader → Deeper → Text → List ℕ → State → Result State ReadFault
with_text reader deeper text bytes state =
    in_file text.file (logical_lines bytes) >>= λ lines. with_lines reader deeper text lines state

-- The state after a text of the makefile, where this many levels of include lines are left.
unfoldable pub reading : ℕ → Reader → List ℕ → List ℕ → State → Result State ReadFault
reading zero reader file bytes state =
    with_text reader None (record { file = file; default = false }) bytes state
reading (suc levels) reader file bytes state =
    with_text reader (Some (reading levels reader))
    (record { file = file; default = false }) bytes state

-- The lines of the default text.
abbrev pub default_lines : List (List ℕ)
default_lines =
    codes ".SUFFIXES: .o .c .sh" ∷ codes "MAKE = make" ∷ codes "CC = c17" ∷ codes "CFLAGS = -O1" ∷
    codes "LDFLAGS =" ∷ codes ".c:" ∷ (9 ∷ codes "$(CC) $(CFLAGS) $(LDFLAGS) -o $@ $<") ∷
    codes ".sh:" ∷ (9 ∷ codes "cp $< $@") ∷ (9 ∷ codes "chmod a+x $@") ∷
    codes ".c.o:" ∷ (9 ∷ codes "$(CC) $(CFLAGS) -c $<") ∷ []

-- The default text, each line with its newline.
abbrev pub default_text : List ℕ
default_text = flat_map (λ line. line ++ 10 ∷ []) default_lines

-- The state after the default text, or the empty state where it isn't read.
unfoldable pub after_default : Reader → Bool → Result State ReadFault
after_default reader defaults =
    if defaults then with_text reader None (record {
      file = codes "(default)";
      default = true;
    }) default_text nothing_read
    else Ok nothing_read

-- The table after the macro operands, numbered from this number on.
unfoldable pub with_operands : ℕ → List (List ℕ) → List Macro → Result (List Macro) ReadFault
with_operands number [] table = Ok table
with_operands number (operand ∷ operands) table = do
  after ← at_place (record { file = codes "operand"; line = number }) (with_operand table operand)
  with_operands (number + 1) operands after

-- The state after the makefile's text where the file exists, else `other`.
abbrev pub text_or : Reader → State → List ℕ → Result State ReadFault → Option (List ℕ) →
    Result State ReadFault
text_or reader state name other None = other
text_or reader state name other (Some bytes) =
    reading max_levels reader name bytes (record (parted state) { texts = name ∷ [] })

-- The state after the makefile with this name: `ReadFailed` (35), or `other` where the file doesn't
-- exist.
unfoldable pub own_text : Reader → State → List ℕ → Result State ReadFault → Result State ReadFault
own_text reader state name other =
    if fails reader state then Err (ReadFailed None name)
    else text_or reader state name other (reader.text name)

-- The state after the makefile with the given name or, without a name, after `makefile` or else
-- `Makefile`; `NoMakefile` (37) where it doesn't exist.
unfoldable pub from_named : Reader → State → Option (List ℕ) → Result State ReadFault
from_named reader state (Some name) = own_text reader state name (Err (NoMakefile (Some name)))
from_named reader state None =
    own_text reader state (codes "makefile")
    (own_text reader (record state {
      missing = codes "makefile" ∷
          [];
    }) (codes "Makefile") (Err (NoMakefile None)))

-- The name of the makefile, if one is given, or `BadMakefileName` (27) where it is no plain path or
-- is `-`.
abbrev pub named : Option (List ℕ) → Result (Option (List ℕ)) ReadFault
named None = Ok None
named (Some name) =
    if not (is_plain_path name) ||
    bytes_eq name (codes "-") then Err (BadMakefileName name) else Ok (Some name)

-- The rule line belongs to the makefile: it isn't from the default text, or one of its targets is
-- an inference name by these suffixes.
abbrev pub counts : List (List ℕ) → RuleRead → Bool
counts suffixes rule = not rule.default || list_any (is_inference_name suffixes) rule.targets

-- The contents of a makefile: rule lines, suffixes, phony names, whether it has `.NOTPARALLEL`,
-- macros, the names of the texts that were read, and those of missing files that were skipped.
pub record Makefile : Type 0 where
  pub rules : List RuleRead
  pub suffixes : List (List ℕ)
  pub phony : List (List ℕ)
  pub not_parallel : Bool
  pub macros : List Macro
  pub texts : List (List ℕ)
  pub passed_over : List (List ℕ)

-- The makefile of a state, when all has been read.
abbrev pub makefile_of : State → Makefile
makefile_of state =
    record {
      rules = filter (counts state.suffixes)
          (rules_of state.read);
      suffixes = state.suffixes;
      phony = state.phony;
      not_parallel = state.not_parallel;
      macros = state.table;
      texts = state.texts;
      passed_over = state.missing;
    }

-- The makefile with this name, or a usual name, read after the default text, where that is wanted,
-- and after the operands; or the first fault.
unfoldable pub makefile : Reader → Option (List ℕ) → Bool → List (List ℕ) →
    Result Makefile ReadFault
makefile reader name defaults operands = do
  file ← named name
  start ← after_default reader defaults
  table ← with_operands 1 operands start.table
  state ← from_named reader (record start { table = table }) file
  Ok (makefile_of state)
