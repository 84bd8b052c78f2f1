-- What may make a file that no recipe writes which the goals reach.
use Rattle.std.specs.Prelude.{ℕ, Bool, not, ◌&&◌, List, [], ◌∷◌, filter, fold, Option, None, Some, if◌then◌else◌}
use Rattle.std.specs.List.{flat_map}
use Rattle.mk_lines.specs.Names.{has_name, with_name}
use Rattle.mk_foot.specs.Setting as foot
use Rattle.mk_read.specs.Rules.{has_some}
use Rattle.mk_read.specs.State.{RuleRead}
use Rattle.mk_subject.specs.FileInfo.{all_names}
use Rattle.mk_subject.specs.Subject.{Subject}

-- The goals don't reach the name.
abbrev pub is_outside : Subject → List ℕ → Bool
is_outside x name = not (has_name (all_names x) name)

-- The targets that the makefile's own rule line gives commands, and that the goals don't reach.
abbrev pub unreached_by : Subject → RuleRead → List (List ℕ)
unreached_by x rule =
    if not rule.default && has_some rule.commands
    then filter (is_outside x) rule.targets else []

-- The targets with commands that the goals don't reach, each once, in the order of their rule
-- lines.
abbrev pub unreached : Subject → List (List ℕ)
unreached x = fold with_name [] (flat_map (unreached_by x) x.makefile.rules)

-- The record of the target says that its recipe writes the file.
abbrev pub is_recorded_writer : Subject → List ℕ → List ℕ → Bool
is_recorded_writer x file target = has_name (foot.writes x.setting target) file

-- The targets that the goals don't reach and whose recipes may make the file: the file itself where
-- it is one, else those that were recorded so.
abbrev pub makers : Subject → List ℕ → List (List ℕ)
makers x file =
    if has_name (unreached x) file then file ∷ []
    else filter (is_recorded_writer x file) (unreached x)

-- No name, one alone, or the first two of more.
pub data Makers : Type 0 where
  no_maker : Makers
  one_maker : (name : List ℕ) → Makers
  two_makers : (first second : List ℕ) → Makers

-- Which of these the names are.
abbrev pub makers_among : List (List ℕ) → Makers
makers_among [] = no_maker
makers_among (name ∷ []) = one_maker name
makers_among (first ∷ second ∷ names) = two_makers first second

-- What may make the file.
abbrev pub makers_of : Subject → List ℕ → Makers
makers_of x file = makers_among (makers x file)

-- The maker where there is one alone.
abbrev pub only_maker : Makers → Option (List ℕ)
only_maker no_maker = None
only_maker (one_maker name) = Some name
only_maker (two_makers first second) = None
