-- Laws about where findings are shown.
use Rattle.std.specs.Prelude.{◌≡◌, ◌⊎◌, ℕ, Bool, true, false, List, ◌∷◌, ◌++◌, None, Some}
use Rattle.std.specs.List.{list_any}
use Rattle.mk_read.specs.Reading.{Makefile}
use Rattle.mk_read.specs.Rules.{gives_commands}
use Rattle.mk_read.specs.State.{RuleRead}
use Rattle.mk_sentences.specs.Places.{names_target, rule_shown}

-- The rule line is the first of these that passes the test.
pub record IsFirst (passes : RuleRead → Bool) (rules : List RuleRead) (rule : RuleRead) : Type 0
  where
    pub before : List RuleRead
    pub after : List RuleRead
    pub is_split : rules ≡ before ++ rule ∷ after
    pub does_pass : passes rule ≡ true
    pub none_before : list_any passes before ≡ false

-- A name is shown at the first rule line of the makefile that gives it commands; without one, at
-- the first that has it as a target.
abbrev pub ShownAtRule : Type 0
ShownAtRule =
    (m : Makefile) (name : List ℕ) (rule : RuleRead) → rule_shown m name ≡ Some rule →
    IsFirst (gives_commands name) m.rules rule ⊎
    ((list_any (gives_commands name) m.rules ≡ false) × IsFirst (names_target name) m.rules rule)

-- A name is shown at no rule line only where none of the makefile has it as a target.
abbrev pub ShownWhereNamed : Type 0
ShownWhereNamed =
    (m : Makefile) (name : List ℕ) → rule_shown m name ≡ None →
    list_any (names_target name) m.rules ≡ false
