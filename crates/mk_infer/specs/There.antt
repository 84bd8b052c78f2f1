-- Which names count as present or given.
use Rattle.std.specs.Prelude.{ℕ, Bool, ◌||◌, List}
use Rattle.mk_lines.specs.Names.{has_name}
use Rattle.mk_lines.specs.Given as given
use Rattle.mk_read.specs.Reading.{Makefile}
use Rattle.mk_infer.specs.Targets.{is_target}

-- the files that exist before a make: the sources, the files under fixed prefixes, and the makefile
-- texts; extra names that count as present; and whether each name without a rule counts as given
pub record Exists : Type 0 where
  pub any_leaf : Bool
  pub sources : List (List ℕ)
  pub fixed : List (List ℕ)
  pub texts : List (List ℕ)
  pub more : List (List ℕ)

-- given: a source, under a fixed prefix, or a makefile text
abbrev pub is_given : Exists → List ℕ → Bool
is_given e name = given.is_given e.sources e.fixed e.texts name

-- present when an inference rule is chosen: a source, a makefile text, a target of a target rule,
-- or an extra name
abbrev pub is_there : Makefile → Exists → List ℕ → Bool
is_there m e name =
    has_name e.sources name ||
    (has_name e.texts name || (is_target m name || has_name e.more name))
