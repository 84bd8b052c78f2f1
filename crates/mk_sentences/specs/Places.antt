-- At which line of the makefile a name is shown.
use Rattle.std.specs.Prelude.{◌≡◌, ℕ, Bool, true, false, ◌&&◌, ◌||◌, not, List, [], ◌∷◌, ◌++◌, codes, find, Option, None, Some}
use Rattle.std.specs.Borrow.{Bor}
use Rattle.std.specs.Fmt.{decimal}
use Rattle.std.specs.Option.{option_copied, option_or}
use Rattle.std.specs.Str.{bytes_eq}
use Rattle.indexmap.specs.IndexMap.{IndexMap, get_by}
use Rattle.mk_read.specs.Names.{has_name}
use Rattle.mk_read.specs.Reading.{Makefile}
use Rattle.mk_read.specs.Rules.{gives_commands, has_some}
use Rattle.mk_read.specs.State.{RuleRead}
use Rattle.mk_read.specs.declared.fault.Place.{Place}

-- The rule line is the makefile's own and has the name as a target.
abbrev pub names_target : List ℕ → RuleRead → Bool
names_target name rule = not rule.default && has_name rule.targets name

-- The rule line at which a name is shown: the first one that gives it commands; without one, the
-- first one that has it as a target.
abbrev pub rule_shown : Makefile → List ℕ → Option RuleRead
rule_shown m name =
    option_or (find (gives_commands name) m.rules) (find (names_target name) m.rules)

-- The first of these names, or nothing.
abbrev pub first_name : List (List ℕ) → List ℕ
first_name [] = []
first_name (name ∷ names) = name

-- `FILE:LINE: ` of a place.
abbrev pub place_text : Place → List ℕ
place_text place = place.file ++ (codes ":" ++ (decimal place.line ++ codes ": "))

-- The name of the makefile itself, which is the first text that was read, and `: `.
abbrev pub name_text : Makefile → List ℕ
name_text m = first_name m.texts ++ codes ": "

-- `FILE:LINE: ` of a rule line; without one, the makefile's own name and `: `.
abbrev pub head_at : Makefile → Option RuleRead → List ℕ
head_at m (Some rule) = place_text rule.place
head_at m None = name_text m

-- `FILE:LINE: ` of the rule line at which a name is shown.
abbrev pub head : Makefile → List ℕ → List ℕ
head m name = head_at m (rule_shown m name)

-- The rule line is the makefile's own and, if only those count, has commands.
abbrev pub counts : (commanded : Bool) → RuleRead → Bool
counts commanded rule = not rule.default && (not commanded || has_some rule.commands)

-- The rule line counts and has the name as a target.
abbrev pub counts_for : (commanded : Bool) → List ℕ → RuleRead → Bool
counts_for commanded name rule = counts commanded rule && has_name rule.targets name

-- The rule line that a table has for a name.
abbrev pub rule_at : {S : Type 0} → IndexMap (Bor (List ℕ)) (Bor RuleRead) S → List ℕ →
    Option RuleRead
rule_at table name = option_copied (get_by (λ k. bytes_eq name k.now) table)

-- For each name the table has the first of the rule lines that count for it.
abbrev pub HasFirst : {S : Type 0} → (commanded : Bool) → List RuleRead →
    IndexMap (Bor (List ℕ)) (Bor RuleRead) S → Type 0
HasFirst commanded rules table =
    (name : List ℕ) → rule_at table name ≡ find (counts_for commanded name) rules

-- The tables are those of a makefile.
pub record AreTablesOf {S T : Type 0} (m : Makefile)
    (commanded : IndexMap (Bor (List ℕ)) (Bor RuleRead) S)
    (named : IndexMap (Bor (List ℕ)) (Bor RuleRead) T) : Type 0 where
  pub has_commanded : HasFirst true m.rules commanded
  pub has_named : HasFirst false m.rules named
