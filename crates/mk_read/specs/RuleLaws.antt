-- Laws of rule lines, and of the macros that operands fix.
use Rattle.std.specs.Prelude.{◌≡◌, ℕ, Bool, true, false, not, ◌&&◌, List, ◌∷◌, ◌++◌, Option, Some, Ok, filter}
use Rattle.std.specs.List.{list_all, list_any}
use Rattle.std.specs.Str.{bytes_eq}
use Rattle.mk_lines.specs.Paths.{is_plain_path}
use Rattle.mk_macros.specs.Definitions.{with_operand}
use Rattle.mk_macros.specs.Laws.{operand_name}
use Rattle.mk_macros.specs.Table.{Macro, macro_named}
use Rattle.mk_read.specs.Names.{is_make_name, has_name, is_empty}
use Rattle.mk_read.specs.Needs.{words_of, commands_of}
use Rattle.mk_read.specs.Reading.{Reader, Makefile, after_default, with_operands, makefile}
use Rattle.mk_read.specs.Rules.{gives_commands, is_commanded}
use Rattle.mk_read.specs.Special.{is_special, is_suffix}
use Rattle.mk_read.specs.State.{RuleRead, State}

-- At most one of the makefile's own rule lines gives commands to a name: where one does, no later
-- one does.
abbrev pub OneLineHasTheCommands : Type 0
OneLineHasTheCommands =
    (reader : Reader) → (file : Option (List ℕ)) → (defaults : Bool) → (operands : List (List ℕ)) →
    (m : Makefile) → makefile reader file defaults operands ≡ Ok m
    → (before between after : List RuleRead) → (one other : RuleRead) → (name : List ℕ) →
    m.rules ≡ before ++ one ∷ between ++ other ∷ after
    → gives_commands name one ≡ true → gives_commands name other ≡ false

-- The commands of a name are those of the makefile's own rule line that gives it commands.
abbrev pub CommandsAreOfTheOneLine : Type 0
CommandsAreOfTheOneLine =
    (reader : Reader) → (file : Option (List ℕ)) → (defaults : Bool) → (operands : List (List ℕ)) →
    (m : Makefile) → makefile reader file defaults operands ≡ Ok m
    → (before after : List RuleRead) → (rule : RuleRead) → (name : List ℕ) →
    m.rules ≡ before ++ rule ∷ after
    → gives_commands name rule ≡ true → commands_of m.rules name ≡ rule.commands

-- The rule lines of the default text.
abbrev pub of_default_text : List RuleRead → List RuleRead
of_default_text rules = filter (λ (rule : RuleRead). rule.default) rules

-- A name to which none of the makefile's own rule lines gives commands has those that the default
-- text gives it.
abbrev pub ElseCommandsAreOfTheDefaultText : Type 0
ElseCommandsAreOfTheDefaultText =
    (rules : List RuleRead) → (name : List ℕ) → is_commanded rules name ≡ false →
    commands_of rules name ≡ commands_of (of_default_text rules) name

-- The prerequisites of a name from two lists of rule lines are those from the first, followed by
-- those from the second.
abbrev pub WordsComeFromAllLines : Type 0
WordsComeFromAllLines =
    (before after : List RuleRead) → (name : List ℕ) →
    words_of (before ++ after) name ≡ words_of before name ++ words_of after name

-- A rule line that doesn't have a name as a target gives it no prerequisites.
abbrev pub OtherLinesGiveNoWords : Type 0
OtherLinesGiveNoWords =
    (before after : List RuleRead) → (rule : RuleRead) → (name : List ℕ) →
    has_name rule.targets name ≡ false
    → words_of (before ++ rule ∷ after) name ≡ words_of (before ++ after) name

-- A rule line that has a name as a target gives it its prerequisites, in the line's place in the
-- order.
abbrev pub NamingLinesGiveTheirWords : Type 0
NamingLinesGiveTheirWords =
    (before after : List RuleRead) → (rule : RuleRead) → (name : List ℕ) →
    has_name rule.targets name ≡ true
    → words_of (before ++ rule ∷ after) name ≡
    words_of before name ++ (rule.words ++ words_of after name)

-- A macro that is fixed when the operands have been applied is unchanged in the makefile.
abbrev pub OperandsWinOverMakefiles : Type 0
OperandsWinOverMakefiles =
    (reader : Reader) → (file : Option (List ℕ)) → (defaults : Bool) → (operands : List (List ℕ)) →
    (m : Makefile) → makefile reader file defaults operands ≡ Ok m
    → (start : State) → (table : List Macro) → after_default reader defaults ≡ Ok start →
    with_operands 1 operands start.table ≡ Ok table
    → (name : List ℕ) → (macro : Macro) → macro_named table name ≡ Some macro → macro.fixed ≡ true
    → macro_named m.macros name ≡ Some macro

-- The operand sets this name.
abbrev pub sets : List ℕ → List ℕ → Bool
sets name operand = bytes_eq name (operand_name operand)

-- A macro that an operand sets, and no later operand, is in the makefile as that operand set it,
-- whatever the makefile assigns.
abbrev pub LastOperandWins : Type 0
LastOperandWins =
    (reader : Reader) → (file : Option (List ℕ)) → (defaults : Bool) → (operands : List (List ℕ)) →
    (m : Makefile) → makefile reader file defaults operands ≡ Ok m
    → (start : State) → (before after : List (List ℕ)) → (operand : List ℕ) →
    (table set : List Macro) → after_default reader defaults ≡ Ok start →
    operands ≡ before ++ operand ∷ after
    → with_operands 1 before start.table ≡ Ok table → with_operand table operand ≡ Ok set →
    list_any (sets (operand_name operand)) after ≡ false
    → macro_named m.macros (operand_name operand) ≡ macro_named set (operand_name operand)

-- The rule line has a target, its targets and prerequisites are names, and no target is special.
abbrev pub is_well_named : RuleRead → Bool
is_well_named rule =
    not (is_empty rule.targets) &&
    (list_all is_make_name rule.targets &&
    (list_all is_make_name rule.words && not (list_any is_special rule.targets)))

-- Each rule line of a makefile is well named.
abbrev pub RuleLinesAreWellNamed : Type 0
RuleLinesAreWellNamed =
    (reader : Reader) → (file : Option (List ℕ)) → (defaults : Bool) → (operands : List (List ℕ)) →
    (m : Makefile) → makefile reader file defaults operands ≡ Ok m
    → list_all is_well_named m.rules ≡ true

-- Each word that a makefile lists as a suffix is one.
abbrev pub SuffixesAreSuffixes : Type 0
SuffixesAreSuffixes =
    (reader : Reader) → (file : Option (List ℕ)) → (defaults : Bool) → (operands : List (List ℕ)) →
    (m : Makefile) → makefile reader file defaults operands ≡ Ok m
    → list_all is_suffix m.suffixes ≡ true

-- The names of a makefile's texts are plain paths.
abbrev pub TextsArePlain : Type 0
TextsArePlain =
    (reader : Reader) → (file : Option (List ℕ)) → (defaults : Bool) → (operands : List (List ℕ)) →
    (m : Makefile) → makefile reader file defaults operands ≡ Ok m
    → list_all is_plain_path m.texts ≡ true
