-- Which files exist before a build, and which of them may be edited between makes.
use Rattle.std.specs.Prelude.{ℕ, Bool, not, ◌&&◌, ◌||◌, List}
use Rattle.mk_lines.specs.Names.{has_name, begins_with_any}

-- A given file is a source, a file under a fixed prefix, or a makefile text.
abbrev pub is_given : (sources fixed texts : List (List ℕ)) → List ℕ → Bool
is_given sources fixed texts name =
    has_name sources name || (begins_with_any fixed name || has_name texts name)

-- An editable file is a source that is no makefile text.
abbrev pub is_editable : (sources texts : List (List ℕ)) → List ℕ → Bool
is_editable sources texts name = has_name sources name && not (has_name texts name)
