-- What a recipe needs before it that reads a file.
use Rattle.std.specs.Prelude.{ℕ, ◌||◌, List, [], ◌∷◌, Option, None, Some, if◌then◌else◌}
use Rattle.mk_lines.specs.Names.{has_name}
use Rattle.mk_subject.specs.FileInfo.{all_names}
use Rattle.mk_subject.specs.NodeRow.{writers_of}
use Rattle.mk_subject.specs.Subject.{Subject, name_of}

-- The name of the first of these nodes, if there is one.
abbrev pub first_name : Subject → List ℕ → Option (List ℕ)
first_name x [] = None
first_name x (number ∷ numbers) = Some (name_of x number)

-- What a recipe needs that reads the file: the file itself where it is a source or the name of a
-- node; else the first recipe in the serial order that writes it; none where no recipe does.
abbrev pub provider : Subject → List ℕ → Option (List ℕ)
provider x file =
    if has_name x.setting.sources file || has_name (all_names x) file then Some file
    else first_name x (writers_of x file)
