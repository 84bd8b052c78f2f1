-- What contracts see of the code's states, and what its private functions return.
use Rattle.std.specs.Prelude.{◌≡◌, ◌⊎◌, ℕ, false, List, ◌∷◌, ◌++◌, [], None, Option, Bool, ◌||◌, ◌==◌, codes, Result, Ok, Err, if◌then◌else◌}
use Rattle.mk_macros.specs.Expansion.{expansion}
use Rattle.mk_macros.specs.Table.{Macro}
use Rattle.mk_macros.specs.declared.fault.MacroFault.{MacroFault}
use Rattle.mk_read.specs.declared.fault.ReadFault.{ReadFault}
use Rattle.mk_read.specs.declared.fault.ReadFault.TheVariants as fault
use Rattle.mk_read.specs.Steps.{◌>>=◌, at_place}
use Rattle.mk_read.specs.declared.fault.Place.{Place}
use Rattle.mk_read_parse.specs.declared.including.Source as source
use Rattle.mk_read_parse.specs.declared.line_location.LineLocation as location
use Rattle.mk_read_parse.specs.declared.state.Owner as code
use Rattle.mk_read_parse.specs.declared.state.Owner.TheVariants as owners
use Rattle.mk_read.specs.Names.{has_name, is_empty, names_in}
use Rattle.mk_read.specs.Reading.{Reader, Text, after_default, from_named, named, own_text, reading, with_operands}
use Rattle.std.specs.List.{list_any}
use Rattle.std.specs.Str.{bytes_eq}
use Rattle.mk_read.specs.Rules.{command_line, has_some, is_commanded, new_rule}
use Rattle.mk_macros.specs.Definitions.{defined, without_blanks}
use Rattle.mk_read.specs.Kinds.{AssignmentLine}
use Rattle.mk_read.specs.State.{State, parted, RuleRead, Owner, Nobody, Last, SpecialTarget, PassedOver}

-- The place that a `LineLocation` of the code stands for.
abbrev pub place_at : location.LineLocation → Place
place_at s = record { file = s.file.now; line = s.line }

-- The owner that an `Owner` of the code stands for.
abbrev pub owner_view : code.Owner → Owner
owner_view owners.Nobody = Nobody
owner_view (owners.Last rule) = Last rule
owner_view owners.SpecialTarget = SpecialTarget
owner_view owners.PassedOver = PassedOver

-- The names are exactly those to which the makefile's own rule lines give commands.
abbrev pub KnowsCommands : List (List ℕ) → List RuleRead → Type 0
KnowsCommands names rules = (name : List ℕ) → has_name names name ≡ is_commanded rules name

-- The owner is no rule line that has commands already.
abbrev pub IsBare : Owner → Type 0
IsBare (Last rule) = has_some rule.commands ≡ false
IsBare Nobody = Unit {0}
IsBare SpecialTarget = Unit {0}
IsBare PassedOver = Unit {0}

-- The fault is that of a macro at this place, or out of memory.
abbrev pub IsMacroFault : Place → MacroFault → ReadFault → Type 0
IsMacroFault place found answer = (answer ≡ fault.Memory) ⊎ (answer ≡ fault.Macro place found)

-- The expansion of a part of a line.
abbrev pub expanded_text : Place → List Macro → List ℕ → Result (List ℕ) ReadFault
expanded_text place table text =
    at_place place (expansion table None text) >>= λ expanded. Ok expanded.text

-- The state after an assignment whose name has been expanded.
unfoldable pub assigned : Place → State → AssignmentLine → List ℕ → Result State ReadFault
assigned place state line name =
    at_place place (defined state.table (without_blanks name) line.op line.value) >>= λ table.
    Ok (record (parted state) { table = table })

-- The state after one more rule line.
abbrev pub ruled : RuleRead → State → Result State ReadFault
ruled rule state = new_rule rule state.read >>= λ read. Ok (record state { read = read })

-- The state after a command line.
abbrev pub behind_commands : Place → List ℕ → State → Result State ReadFault
behind_commands place text state =
    command_line place text state.read.earlier state.read.owner >>= λ read.
    Ok (record state { read = read })

-- The text that a `Source` of the code stands for.
abbrev pub text_of : source.Source → Text
text_of s = record { file = s.file.now; default = s.default }

-- How the text of an included file is read, with this many levels allowed below it.
abbrev pub read_below : ℕ → Reader → List ℕ → List ℕ → State → Result State ReadFault
read_below levels reader = reading levels reader

-- The state after the text of an included file.
abbrev pub found_after : (List ℕ → List ℕ → State → Result State ReadFault) → List ℕ → List ℕ →
    State → Result State ReadFault
found_after read name text state = read name text state >>= λ after. Ok (parted after)

-- The names of the files of an include line: `IncludeDepth` (33) where no level is left, and
-- `IncludeEmpty` (34) where there are no names.
abbrev pub include_names : ℕ → Place → List Macro → List ℕ → Result (List (List ℕ)) ReadFault
include_names levels place table text =
    if levels == 0 then Err (fault.IncludeDepth place)
    else (names_in place table text >>= λ names.
    if is_empty names then Err (fault.IncludeEmpty place) else Ok names)

-- The fault is `TooManyFiles` at this place, or out of memory.
abbrev pub IsTooMany : Place → ReadFault → Type 0
IsTooMany place answer = (answer ≡ fault.Memory) ⊎ (answer ≡ fault.TooManyFiles place)

-- The state with one more text that was read.
abbrev pub text_more : State → List ℕ → State
text_more state name = record state { texts = state.texts ++ name ∷ [] }

-- The state with one more missing file that was skipped.
abbrev pub missing_more : State → List ℕ → State
missing_more state name = record state { missing = state.missing ++ name ∷ [] }

-- The state after an included file that doesn't exist: skipped where that is allowed, else
-- `IncludeMissing` (32).
abbrev pub not_found : Place → Bool → State → List ℕ → Result State ReadFault
not_found place optional state name =
    if optional then Ok (missing_more state name) else Err (fault.IncludeMissing place name)

-- The state in which reading the makefile's text begins.
abbrev pub begun : State → List ℕ → State
begun state name = record (parted state) { texts = name ∷ [] }

-- No file has been read, and none was missing.
abbrev pub IsUnread : State → Type 0
IsUnread state = (state.texts ≡ []) × (state.missing ≡ [])

-- The state where `makefile` doesn't exist.
abbrev pub without_makefile : State → State
without_makefile state = record state { missing = codes "makefile" ∷ [] }

-- The state after `Makefile`, where `makefile` doesn't exist.
abbrev pub second_text : Reader → State → Result State ReadFault
second_text reader state =
    own_text reader (without_makefile state) (codes "Makefile") (Err (fault.NoMakefile None))

-- The name is this suffix, or this suffix followed by one of the suffixes.
abbrev pub is_joined : List (List ℕ) → List ℕ → List ℕ → Bool
is_joined suffixes name suffix =
    bytes_eq name suffix || list_any (λ other. bytes_eq name (suffix ++ other)) suffixes

-- The state when all has been read.
abbrev pub state_read : Reader → Option (List ℕ) → Bool → List (List ℕ) → Result State ReadFault
state_read reader name defaults operands = do
  file ← named name
  start ← after_default reader defaults
  table ← with_operands 1 operands start.table
  from_named reader (record start { table = table }) file
