-- How the code chooses inference rules, and what they give a name.
use Rattle.std.specs.Prelude.{◌≡◌, ℕ, ◌+◌, ◌<◌, ◌≤◌, Bool, true, false, ◌&&◌, List, ◌++◌, Option, None, Some, Vec, length}
use Rattle.std.specs.Borrow.{Bor}
use Rattle.std.specs.declared.alloc.Global.{Global}
use Rattle.indexmap.specs.IndexMap.{IndexMap}
use Rattle.mk_graph.specs.Membership.{Has}
use Rattle.mk_lines.specs.Names.{place_from}
use Rattle.mk_read.specs.Names.{has_name}
use Rattle.mk_read.specs.Reading.{Makefile}
use Rattle.mk_read.specs.Rules.{has_some}
use Rattle.mk_read.specs.Needs.{commands_of}
use Rattle.mk_read.specs.State.{Command, RuleRead}
use Rattle.mk_infer.specs.Inference.{choice, chosen_commands, ending}
use Rattle.mk_infer.specs.There.{Exists, is_there}
use Rattle.mk_infer.specs.Table.{lines_of, texts_at}
use Rattle.mk_infer.specs.Targets.{rules_for}

-- the table has, for each nonempty stem, all known suffixes with which it forms a present name
abbrev pub HasThere : {S : Type 0} → Makefile → Exists →
    IndexMap (Bor (List ℕ)) (Vec (Bor (List ℕ)) Global) S → Type 0
HasThere m e table = (stem suffix : List ℕ) → 0 < length stem → Has m.suffixes suffix
    → is_there m e (stem ++ suffix) ≡ true → has_name (texts_at table stem) suffix ≡ true

-- what an inference rule gives a name: its prerequisite and its commands
pub record Chosen : Type 0 where
  pub name : List ℕ
  pub commands : Option (List Command)

-- what the rule with this source suffix gives a name with this stem and ending
abbrev pub chosen_by : Makefile → List ℕ → List ℕ → List ℕ → Chosen
chosen_by m stem ending suffix =
    record { name = stem ++ suffix; commands = commands_of m.rules (suffix ++ ending) }

-- the rule with this source suffix has commands, and its prerequisite is present
abbrev pub fits_by : Makefile → Exists → List ℕ → List ℕ → List ℕ → Bool
fits_by m e stem ending suffix =
    has_some (commands_of m.rules (suffix ++ ending)) && is_there m e (stem ++ suffix)

-- a makefile, and the files that exist before a make
pub record Looked : Type 0 where
  pub makefile : Makefile
  pub exists : Exists

-- what the rule with a source suffix gives, and the place of this suffix in the list of suffixes
pub record Placed : Type 0 where
  pub place : ℕ
  pub chosen : Chosen

-- The result is that of a suffix that passes the test, and its place is that of this suffix.
pub record IsPlaced (p : List ℕ → Bool) (gives : List ℕ → Chosen) (suffixes : List (List ℕ))
    (placed : Placed) : Type 0 where
  pub suffix : List ℕ
  pub passes : p suffix ≡ true
  pub stands : place_from 0 suffixes suffix ≡ Some placed.place
  pub given : placed.chosen ≡ gives suffix

-- None of the tried suffixes passes the test, or the result is that of a passing suffix, and no
-- tried suffix that passes comes before it in the list of suffixes.
abbrev pub IsLeast : (List ℕ → Bool) → (List ℕ → Chosen) → (suffixes tried : List (List ℕ)) →
    Option Placed → Type 0
IsLeast p gives suffixes tried None =
    (s : List ℕ) → Has tried s → Has suffixes s → p s ≡ false
IsLeast p gives suffixes tried (Some placed) =
    IsPlaced p gives suffixes placed ×
    ((s : List ℕ) → Has tried s → p s ≡ true → (n : ℕ) → place_from 0 suffixes s ≡ Some n →
    placed.place ≤ n)

-- what makes a name: its inferred prerequisite, its commands, and its rule lines
pub record ResolvedRule : Type 0 where
  pub choice : Option (List ℕ)
  pub commands : Option (List Command)
  pub rules : List RuleRead

-- what makes a name, over this makefile and these files
abbrev pub resolved_rule : Makefile → Exists → List ℕ → ResolvedRule
resolved_rule m e name = record {
  choice = choice m e name;
  commands = chosen_commands m e name;
  rules = lines_of (rules_for m name) name;
}
