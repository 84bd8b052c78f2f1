-- What each kind of line does, include lines aside.
use Rattle.std.specs.Prelude.{ℕ, ◌==◌, Bool, true, false, not, ◌&&◌, ◌||◌, List, [], ◌∷◌, ◌++◌, codes, length, find, slice_index, Option, None, Some, Result, Ok, Err, if◌then◌else◌}
use Rattle.std.specs.List.{list_all, list_any}
use Rattle.std.specs.Option.{option_map}
use Rattle.mk_lines.specs.Bytes.{trimmed}
use Rattle.mk_macros.specs.Definitions.{defined, without_blanks}
use Rattle.mk_macros.specs.Expansion.{expansion}
use Rattle.mk_read.specs.declared.fault.Place.{Place}
use Rattle.mk_read.specs.declared.fault.ReadFault.{ReadFault}
use Rattle.mk_read.specs.declared.fault.ReadFault.TheVariants.{StrayCommand, UnknownSpecial, SpecialShape, TwoRecipes}
use Rattle.mk_read.specs.Kinds.{AssignmentLine, RuleLine}
use Rattle.mk_read.specs.Names.{names_in, has_name, is_empty}
use Rattle.mk_read.specs.declared.special.Special.{Special}
use Rattle.mk_read.specs.declared.special.Special.TheVariants.{Suffixes, Phony, NotParallel, Wordless, Unread}
use Rattle.mk_read.specs.Special.{special_among, is_unknown_special, is_suffix, listed}
use Rattle.mk_read.specs.State.{Command, RuleRead, Owner, Nobody, Last, SpecialTarget, PassedOver, Read, State, rules_of, owned, parted}
use Rattle.mk_read.specs.Steps.{◌>>=◌, at_place}

-- The option has a value.
abbrev pub has_some : {A : Type 0} → Option A → Bool
has_some None = false
has_some (Some x) = true

-- The rule line is the makefile's own, has commands, and has the name as a target.
abbrev pub gives_commands : List ℕ → RuleRead → Bool
gives_commands name rule =
    not rule.default && (has_some rule.commands && has_name rule.targets name)

-- One of the rule lines gives commands to the name.
abbrev pub is_commanded : List RuleRead → List ℕ → Bool
is_commanded rules name = list_any (gives_commands name) rules

-- The first target of the rule line to which an earlier line gives commands already; none where the
-- rule line is from the default text.
abbrev pub taken : List RuleRead → RuleRead → Option (List ℕ)
taken earlier rule = if rule.default then None else find (is_commanded earlier) rule.targets

-- The rule line is the last one, or `TwoRecipes` (31) where a target has commands already.
abbrev pub unless_taken : Option (List ℕ) → RuleRead → List RuleRead → Result Read ReadFault
unless_taken (Some target) rule earlier = Err (TwoRecipes rule.place target)
unless_taken None rule earlier = Ok (record { earlier = earlier; owner = Last rule })

-- The commands with one more at the end.
abbrev pub with_command : Option (List Command) → Command → List Command
with_command None command = command ∷ []
with_command (Some commands) command = commands ++ command ∷ []

-- The rule line with one more command.
abbrev pub commanded : RuleRead → Command → RuleRead
commanded rule command = record rule { commands = Some (with_command rule.commands command) }

-- The first byte that isn't blank is `#`.
abbrev pub is_comment : List ℕ → Bool
is_comment text = slice_index (trimmed text) 0 == 35

-- What has been read after a command line, by what it belongs to: it adds a command to the last
-- rule line. Where it belongs to nothing, it is a comment or else `StrayCommand` (26); a special
-- target's is `SpecialShape` (30); a skipped rule line's is ignored.
unfoldable pub command_line : Place → List ℕ → List RuleRead → Owner → Result Read ReadFault
command_line place text earlier Nobody =
    if is_comment text then Ok (record {
      earlier = earlier;
      owner = Nobody;
    }) else Err (StrayCommand place)
command_line place text earlier SpecialTarget = Err (SpecialShape place)
command_line place text earlier PassedOver = Ok (record { earlier = earlier; owner = PassedOver })
command_line place text earlier (Last rule) =
    let more : RuleRead = commanded rule (record { text = trimmed text; place = place }) in
    if has_some rule.commands then Ok (record { earlier = earlier; owner = Last more })
    else unless_taken (taken earlier rule) more earlier

-- The state after an assignment, whose name is expanded first.
unfoldable pub assignment : Place → State → AssignmentLine → Result State ReadFault
assignment place state line = do
  name ← at_place place (expansion state.table None line.name)
  table ← at_place place (defined state.table (without_blanks name.text) line.op line.value)
  Ok (record (parted state) { table = table })

-- The state after a special target with these prerequisites, or `SpecialShape` (30) where they
-- don't fit it.
abbrev pub special_words : Place → State → List (List ℕ) → Special → Result State ReadFault
special_words place state words Suffixes =
    if list_all is_suffix words then Ok (record state { suffixes = listed state.suffixes words })
    else Err (SpecialShape place)
special_words place state words Phony = Ok (record state { phony = state.phony ++ words })
special_words place state words NotParallel =
    if is_empty words then Ok (record state { not_parallel = true }) else Err (SpecialShape place)
special_words place state words Wordless =
    if is_empty words then Ok state else Err (SpecialShape place)
special_words place state words Unread = Ok state

-- The state after a rule line of a special target: `SpecialShape` (30) where it has other targets,
-- commands, or `.WAIT`.
unfoldable pub special_rule : Place → State → List (List ℕ) → List (List ℕ) → Bool → Special →
    Result State ReadFault
special_rule place state targets words commands special =
    if not (length targets == 1) ||
    (commands || has_name words (codes ".WAIT")) then Err (SpecialShape place)
    else special_words place (record state { read = owned SpecialTarget state.read }) words special

-- What has been read after one more rule line.
unfoldable pub new_rule : RuleRead → Read → Result Read ReadFault
new_rule rule read =
    if has_some rule.commands then unless_taken (taken (rules_of read) rule) rule (rules_of read)
    else Ok (owned (Last rule) read)

-- The command after a `;`, or no command where the text is empty.
abbrev pub commands_behind : Place → List ℕ → List Command
commands_behind place text =
    if is_empty text then [] else record { text = text; place = place } ∷ []

-- The state after a rule line with these names: of a special target, or of other targets.
abbrev pub by_special : Bool → Place → State → List (List ℕ) → List (List ℕ) → Option (List ℕ) →
    Option Special → Result State ReadFault
by_special default place state targets words command (Some special) =
    special_rule place state targets words (has_some command) special
by_special default place state targets words command None =
    new_rule (record {
      targets = targets;
      words = words;
      commands = option_map (commands_behind place) command;
      place = place;
      default = default;
    }) state.read >>= λ read. Ok (record state { read = read })

-- The state after a rule line with these names: `UnknownSpecial` (29) where a target looks like a
-- special one and is unknown.
unfoldable pub by_names : Bool → Place → State → List (List ℕ) → Option (List ℕ) → List (List ℕ) →
    Result State ReadFault
by_names default place state targets command words =
    if list_any is_unknown_special targets then Err (UnknownSpecial place)
    else by_special default place state targets words command (special_among targets)

-- The state after a rule line with these targets. Without targets the line is skipped, its
-- prerequisites unexpanded.
abbrev pub by_targets : Bool → Place → State → RuleLine → List (List ℕ) → Result State ReadFault
by_targets default place state line targets =
    if is_empty targets then Ok (record state { read = owned PassedOver state.read })
    else (names_in place state.table line.words
    >>= by_names default place state targets line.command)

-- The state after a rule line, whose targets are expanded first.
unfoldable pub rule : Bool → Place → State → RuleLine → Result State ReadFault
rule default place state line =
    names_in place state.table line.targets >>= by_targets default place state line
