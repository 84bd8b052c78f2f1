-- What target rules give a name.
use Rattle.std.specs.Prelude.{ℕ, Bool, false, not, List, [], filter, Option, None, Some, if◌then◌else◌}
use Rattle.std.specs.List.{list_any}
use Rattle.mk_read.specs.Names.{has_name, is_empty}
use Rattle.mk_read.specs.Needs.{words_of, commands_of, is_wait}
use Rattle.mk_read.specs.Reading.{Makefile}
use Rattle.mk_read.specs.Special.{is_inference_name}
use Rattle.mk_read.specs.State.{Command, RuleRead}

-- the rule lines in which a name can be a target: all, but none for an inference name
abbrev pub rules_for : Makefile → List ℕ → List RuleRead
rules_for m name = if is_inference_name m.suffixes name then [] else m.rules

-- the name is the target of a target rule
abbrev pub is_target : Makefile → List ℕ → Bool
is_target m name = list_any (λ (rule : RuleRead). has_name rule.targets name) (rules_for m name)

-- the words of all rule lines of a name, including `.WAIT`
abbrev pub words_for : Makefile → List ℕ → List (List ℕ)
words_for m name = words_of (rules_for m name) name

-- the prerequisites of a name by its rule lines, in order
abbrev pub prerequisites_of : Makefile → List ℕ → List (List ℕ)
prerequisites_of m name = filter (λ word. not (is_wait word)) (words_for m name)

-- the commands of the single rule line of a name that has some
abbrev pub own_commands : Makefile → List ℕ → Option (List Command)
own_commands m name = commands_of (rules_for m name) name

-- there are commands, and at least one has some text
abbrev pub have_text : Option (List Command) → Bool
have_text None = false
have_text (Some commands) = not (is_empty commands)
