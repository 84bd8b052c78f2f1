-- The list of the files on a disk.
use Rattle.std.specs.Prelude.{List, [], ◌∷◌, Option, None, Some, option_map}
use Rattle.mk_build.specs.Setting.{FileName}
use Rattle.mk_world.specs.declared.file.File.{File}
use Rattle.mk_world.specs.declared.file.Listed.{Listed}
use Rattle.mk_world.specs.Tables.{look}
use Rattle.mk_world.specs.State.{DiskState}

-- The list with this file in front, if it exists.
abbrev pub before : Option Listed → List Listed → List Listed
before None listed = listed
before (Some x) listed = x ∷ listed

-- The files of these names that exist, in the order of the names.
abbrev pub there_among : (FileName → Option Listed) → List FileName → List Listed
there_among at [] = []
there_among at (f ∷ names) = before (at f) (there_among at names)

-- A file with its name.
abbrev pub listed_as : FileName → File → Listed
listed_as f file = record { name = f; content = file.content; stamp = file.stamp }

-- The file with this name, if it exists.
abbrev pub entry : DiskState → FileName → Option Listed
entry d f = option_map (listed_as f) (look d.names d.files f)

-- The files that exist, by the bytes of their names.
abbrev pub listing : DiskState → List Listed
listing d = there_among (entry d) d.names
