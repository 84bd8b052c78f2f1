-- The law of blocks: a rule line, and the command lines and comment lines after it.
use Rattle.std.specs.Prelude.{◌≡◌, ℕ, Bool, true, false, not, ◌||◌, List, [], ◌∷◌, ◌++◌, filter, map, Option, None, Some, Ok}
use Rattle.std.specs.List.{list_all}
use Rattle.std.specs.Option.{option_map}
use Rattle.mk_lines.specs.Bytes.{trimmed}
use Rattle.mk_lines.specs.Comments.{uncomment}
use Rattle.mk_lines.specs.Lines.{Line}
use Rattle.mk_read.specs.declared.fault.Place.{Place}
use Rattle.mk_read.specs.Following.{below}
use Rattle.mk_read.specs.Kinds.{RuleLine, Rule, kind_of}
use Rattle.mk_read.specs.Names.{names_in, is_empty}
use Rattle.mk_read.specs.PlaceLaws.{is_comment_line}
use Rattle.mk_read.specs.Reading.{Reader, Text, with_lines}
use Rattle.mk_read.specs.Rules.{commands_behind}
use Rattle.mk_read.specs.Special.{special_among}
use Rattle.mk_read.specs.State.{Command, RuleRead, State, rules_of}

-- A text of the makefile, not the default text.
abbrev pub own : List ℕ → Text
own file = record { file = file; default = false }

-- The line is a command line or a comment line.
abbrev pub is_behind : Line → Bool
is_behind line = line.command || is_comment_line line

-- There are no more lines, or the next line is neither a command line nor a comment line.
abbrev pub begins_anew : List Line → Bool
begins_anew [] = true
begins_anew (line ∷ lines) = not (is_behind line)

-- The place of a line in a file.
abbrev pub place_of : List ℕ → Line → Place
place_of file line = record { file = file; line = line.first }

-- The commands of the command lines among these lines, in order.
abbrev pub commands_among : List ℕ → List Line → List Command
commands_among file lines =
    map (λ (line : Line). record { text = trimmed line.text; place = place_of file line })
    (filter (λ (line : Line). line.command) lines)

-- The command after a `;`, if there is one, followed by these commands; `None` where the rule line
-- has no `;` and there are none.
abbrev pub with_all : Option (List Command) → List Command → Option (List Command)
with_all None [] = None
with_all None (command ∷ commands) = Some (command ∷ commands)
with_all (Some first) commands = Some (first ++ commands)

-- A block: a rule line whose targets and prerequisites are these names, no target special, with
-- these command lines and comment lines after it, and then another line or the end of the text.
pub record IsBlock (file : List ℕ) (state : State) (head : Line) (behind after : List Line)
    (line : RuleLine) (targets words : List (List ℕ)) : Type 0 where
  pub plain : head.command ≡ false
  pub kind : kind_of (uncomment head.text) ≡ Ok (Rule line)
  pub names : names_in (place_of file head) state.table line.targets ≡ Ok targets
  pub prerequisites : names_in (place_of file head) state.table line.words ≡ Ok words
  pub some : is_empty targets ≡ false
  pub none_special : special_among targets ≡ None
  pub each : list_all is_behind behind ≡ true
  pub ends : begins_anew after ≡ true

-- The rule that a block gives: its commands are the one after the `;`, and then those of its
-- command lines.
abbrev pub block_rule : List ℕ → Line → List Line → RuleLine → List (List ℕ) → List (List ℕ) →
    RuleRead
block_rule file head behind line targets words = record {
  targets = targets;
  words = words;
  commands =
      with_all (option_map (commands_behind (place_of file head)) line.command)
      (commands_among file behind);
  place = place_of file head;
  default = false;
}

-- Where a text of the makefile is read without a fault, each block in it adds this rule line after
-- the ones that were read before.
abbrev pub BlocksGiveTheirRules : Type 0
BlocksGiveTheirRules =
    (reader : Reader) → (levels : ℕ) → (file : List ℕ) → (before behind after : List Line) →
    (head : Line)
    → (start middle end : State) → (line : RuleLine) → (targets words : List (List ℕ))
    → with_lines reader (below levels reader) (own file) before start ≡ Ok middle
    → IsBlock file middle head behind after line targets words
    → with_lines reader (below levels reader) (own file) (before ++
    head ∷ (behind ++ after)) start ≡ Ok end
    → (more : List RuleRead) ×
    (rules_of end.read ≡
    rules_of middle.read ++ block_rule file head behind line targets words ∷ more)
