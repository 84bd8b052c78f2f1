-- The JSON value of a finding.
use Rattle.std.specs.Prelude.{ℕ, ◌+◌, List, [], ◌∷◌, ◌++◌, codes}
use Rattle.std.specs.Fmt.{decimal}
use Rattle.serde_json.specs.Data.{Data, number, string, unsigned}
use Rattle.serde_json.specs.Written.{compact_text}
use Rattle.mk_cert_text.specs.Writing.{names_value}
use Rattle.mk_find.specs.Text.{text}
use Rattle.mk_find.specs.declared.finding.Finding.{Finding}
use Rattle.mk_find.specs.declared.finding.Finding.TheVariants.{NoRecord, OtherCommands, VaryingCommands, NoTarget, TwoWriters, GivenWritten, OwnRead, UnknownRead, Loose, Race, Stale, Selection}
use Rattle.mk_json.specs.Kinds.{object_of}

-- The word of a finding, as it is printed.
abbrev pub kind_of : Finding → List ℕ
kind_of (NoRecord recipe) = codes "record"
kind_of (OtherCommands recipe) = codes "commands"
kind_of (VaryingCommands recipe) = codes "varying"
kind_of (NoTarget recipe) = codes "target"
kind_of (TwoWriters first second file) = codes "writers"
kind_of (GivenWritten recipe file) = codes "given"
kind_of (OwnRead recipe file) = codes "own"
kind_of (UnknownRead recipe file) = codes "unknown"
kind_of (Loose name writer) = codes "loose"
kind_of (Race recipe writer file) = codes "race"
kind_of (Stale recipe file) = codes "stale"
kind_of (Selection name chosen) = codes "selection"

-- The names of a finding, in the order in which they are printed.
abbrev pub names_of : Finding → List (List ℕ)
names_of (NoRecord recipe) = recipe ∷ []
names_of (OtherCommands recipe) = recipe ∷ []
names_of (VaryingCommands recipe) = recipe ∷ []
names_of (NoTarget recipe) = recipe ∷ []
names_of (TwoWriters first second file) = first ∷ second ∷ file ∷ []
names_of (GivenWritten recipe file) = recipe ∷ file ∷ []
names_of (OwnRead recipe file) = recipe ∷ file ∷ []
names_of (UnknownRead recipe file) = recipe ∷ file ∷ []
names_of (Loose name writer) = name ∷ writer ∷ []
names_of (Race recipe writer file) = recipe ∷ writer ∷ file ∷ []
names_of (Stale recipe file) = recipe ∷ file ∷ []
names_of (Selection name chosen) = name ∷ chosen ∷ []

-- The finding with this number, as `check` prints it, with the number of its group.
abbrev pub finding_value : (place group : ℕ) → Finding → Data
finding_value place group found =
    object_of ((codes "group", number (unsigned group)) ∷
    (codes "kind", string (kind_of found)) ∷
    (codes "names", names_value (names_of found)) ∷
    (codes "number", number (unsigned place)) ∷
    (codes "text", string (codes "no " ++ text found)) ∷ [])

-- The text of a finding up to its names.
abbrev pub head_text : (group : ℕ) → (kind : List ℕ) → List ℕ
head_text group kind =
    codes "{\"group\":" ++ (decimal group ++ (codes ",\"kind\":" ++ (compact_text (string kind) ++
    codes ",\"names\":")))

-- What stands in the text of a finding of this kind between the number of its group and its names.
abbrev pub key_text : (kind : List ℕ) → List ℕ
key_text kind = codes ",\"kind\":\"" ++ (kind ++ codes "\",\"names\":[\"")

-- What stands between the number of a finding of this kind and the names in its line.
abbrev pub line_text : (kind : List ℕ) → List ℕ
line_text kind = codes ",\"text\":\"no " ++ (kind ++ codes " ")

-- The findings, numbered from here on, with the numbers of their groups.
abbrev pub finding_values : ℕ → List Finding → (groups : List ℕ) → List Data
finding_values place [] groups = []
finding_values place (one ∷ others) [] = []
finding_values place (one ∷ others) (group ∷ groups) =
    finding_value place group one ∷ finding_values (place + 1) others groups
