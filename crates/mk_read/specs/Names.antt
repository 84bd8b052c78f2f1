-- Names of files and targets.
pub use Rattle.mk_lines.specs.Names.{has_name, with_name, once}
use Rattle.std.specs.Prelude.{ℕ, ◌==◌, Bool, not, ◌&&◌, ◌||◌, List, [], ◌∷◌, codes, length, Result, Ok, Err, if◌then◌else◌}
use Rattle.std.specs.List.{list_any}
use Rattle.mk_lines.specs.Paths.{is_plain_path}
use Rattle.mk_lines.specs.Words.{words}
use Rattle.mk_macros.specs.Expansion.{expansion}
use Rattle.mk_macros.specs.Table.{Macro}
use Rattle.std.specs.Prelude.{None}
use Rattle.mk_read.specs.declared.fault.Place.{Place}
use Rattle.mk_read.specs.declared.fault.ReadFault.{ReadFault}
use Rattle.mk_read.specs.declared.fault.ReadFault.TheVariants.{BadName, ArchiveMember}
use Rattle.mk_read.specs.Steps.{◌>>=◌, at_place}

-- The bytes that a name of a makefile can't hold.
abbrev pub reserved : List ℕ
reserved = codes "%*?[]:;=#$\\\"'`|&<>()"

-- A name of a makefile can't hold the byte.
abbrev pub is_reserved : ℕ → Bool
is_reserved b = list_any (λ r. r == b) reserved

-- A name of a makefile is a plain path without reserved bytes.
unfoldable pub is_make_name : List ℕ → Bool
is_make_name name = is_plain_path name && not (list_any is_reserved name)

-- The byte is `(` or `)`, as in the name of an archive's member.
abbrev pub is_bracket : ℕ → Bool
is_bracket b = b == 40 || b == 41

-- The word as a name: `ArchiveMember` (28) where it has a bracket, else `BadName` (27) where it is
-- no name.
unfoldable pub name_of : Place → List ℕ → Result (List ℕ) ReadFault
name_of place word =
    if list_any is_bracket word then Err (ArchiveMember place word)
    else (if is_make_name word then Ok word else Err (BadName place word))

-- The words as names, or the first fault.
unfoldable pub names_of : Place → List (List ℕ) → Result (List (List ℕ)) ReadFault
names_of place [] = Ok []
names_of place (word ∷ rest) = do
  name ← name_of place word
  names ← names_of place rest
  Ok (name ∷ names)

-- The names in a part of a line, which is expanded and then split into words.
abbrev pub names_in : Place → List Macro → List ℕ → Result (List (List ℕ)) ReadFault
names_in place table text =
    at_place place (expansion table None text) >>= λ expanded. names_of place (words expanded.text)

-- The list is empty.
abbrev pub is_empty : {A : Type 0} → List A → Bool
is_empty xs = length xs == 0
