-- The printed text of a finding.
use Rattle.std.specs.Prelude.{ℕ, List, ◌++◌, codes}
use Rattle.mk_find.specs.declared.finding.Finding.{Finding}
use Rattle.mk_find.specs.declared.finding.Finding.TheVariants.{NoRecord, OtherCommands, VaryingCommands, NoTarget, TwoWriters, GivenWritten, OwnRead, UnknownRead, Loose, Race, Stale, Selection}

-- Two names with a space between them.
abbrev pub pair : List ℕ → List ℕ → List ℕ
pair one other = one ++ codes " " ++ other

-- A word for the kind of finding, then its names, separated by spaces.
abbrev pub text : Finding → List ℕ
text (NoRecord recipe) = codes "record " ++ recipe
text (OtherCommands recipe) = codes "commands " ++ recipe
text (VaryingCommands recipe) = codes "varying " ++ recipe
text (NoTarget recipe) = codes "target " ++ recipe
text (TwoWriters first second file) = codes "writers " ++ pair first (pair second file)
text (GivenWritten recipe file) = codes "given " ++ pair recipe file
text (OwnRead recipe file) = codes "own " ++ pair recipe file
text (UnknownRead recipe file) = codes "unknown " ++ pair recipe file
text (Loose name writer) = codes "loose " ++ pair name writer
text (Race recipe writer file) = codes "race " ++ pair recipe (pair writer file)
text (Stale recipe file) = codes "stale " ++ pair recipe file
text (Selection name chosen) = codes "selection " ++ pair name chosen

-- The first name in the printed text of a finding.
abbrev pub first_name : Finding → List ℕ
first_name (NoRecord recipe) = recipe
first_name (OtherCommands recipe) = recipe
first_name (VaryingCommands recipe) = recipe
first_name (NoTarget recipe) = recipe
first_name (TwoWriters first second file) = first
first_name (GivenWritten recipe file) = recipe
first_name (OwnRead recipe file) = recipe
first_name (UnknownRead recipe file) = recipe
first_name (Loose name writer) = name
first_name (Race recipe writer file) = recipe
first_name (Stale recipe file) = recipe
first_name (Selection name chosen) = name
