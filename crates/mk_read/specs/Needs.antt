-- The prerequisites and the commands of a target.
use Rattle.std.specs.Prelude.{ℕ, Bool, true, false, not, List, [], ◌∷◌, codes, filter, find, map, ◌&&◌, Option, None, Some, if◌then◌else◌}
use Rattle.std.specs.List.{flat_map}
use Rattle.std.specs.Str.{bytes_eq}
use Rattle.mk_read.specs.Names.{has_name}
use Rattle.mk_read.specs.State.{Command, RuleRead}
use Rattle.mk_read.specs.Rules.{has_some, gives_commands}

-- The prerequisites of a name: those of all rule lines that have it as a target, joined in order.
abbrev pub words_of : List RuleRead → List ℕ → List (List ℕ)
words_of rules name =
    flat_map (λ (rule : RuleRead). rule.words)
    (filter (λ (rule : RuleRead). has_name rule.targets name) rules)

-- The word is `.WAIT`.
abbrev pub is_wait : List ℕ → Bool
is_wait word = bytes_eq word (codes ".WAIT")

-- The groups with the word added at the front of the first group.
abbrev pub in_first : List ℕ → List (List (List ℕ)) → List (List (List ℕ))
in_first word [] = (word ∷ []) ∷ []
in_first word (group ∷ groups) = (word ∷ group) ∷ groups

-- The words between each two `.WAIT`.
unfoldable pub cut : List (List ℕ) → List (List (List ℕ))
cut [] = []
cut (word ∷ words) = if is_wait word then [] ∷ cut words else in_first word (cut words)

-- The group isn't empty.
abbrev pub has_words : List (List ℕ) → Bool
has_words [] = false
has_words (word ∷ words) = true

-- The groups of prerequisites: the words split at `.WAIT`, or each word in a group of its own under
-- `.NOTPARALLEL`; empty groups are dropped.
abbrev pub groups : Bool → List (List ℕ) → List (List (List ℕ))
groups not_parallel words =
    if not_parallel then map (λ word. word ∷ []) (filter (λ word. not (is_wait word)) words)
    else filter has_words (cut words)

-- The rule line has commands and has the name as a target.
abbrev pub has_commands : List ℕ → RuleRead → Bool
has_commands name rule = has_some rule.commands && has_name rule.targets name

-- The commands of the makefile's rule line, else those of the other rule line.
abbrev pub commands_in : Option RuleRead → Option RuleRead → Option (List Command)
commands_in (Some rule) other = rule.commands
commands_in None (Some rule) = rule.commands
commands_in None None = None

-- The commands of a name: those of the makefile's rule line that has any for it, else those of the
-- first rule line that has any.
abbrev pub commands_of : List RuleRead → List ℕ → Option (List Command)
commands_of rules name =
    commands_in (find (gives_commands name) rules) (find (has_commands name) rules)
