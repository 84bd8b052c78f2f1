-- How the parts that the reader keeps relate to the JSON value.
use Rattle.std.specs.Prelude.{◌≡◌, ℕ, ⊤, List, [], ◌∷◌, map, String, Vec, option_and_then, Result, Ok, Err, ok_or}
use Rattle.std.specs.String.{string_bytes}
use Rattle.std.specs.declared.alloc.Global.{Global}
use Rattle.mk_lines.specs.Results.{Fails}
use Rattle.serde_json.specs.Data.{Data, Members, no_members, member}
use Rattle.serde_json.specs.Find.{as_str, as_number, as_integer}
use Rattle.mk_json.specs.Kinds as json
use Rattle.mk_json.specs.Reading.{json_of}
use Rattle.mk_foot.specs.declared.fault.FootFault.{FootFault}
use Rattle.mk_foot.specs.declared.fault.FootFault.TheVariants.{Memory, NotJson, Shape}
use Rattle.mk_foot.specs.declared.format.Format.{Format}
use Rattle.mk_foot.specs.declared.format.Format.TheVariants.{One, Two}
use Rattle.mk_foot.specs.declared.groups.GroupParts.{GroupParts}
use Rattle.mk_foot.specs.declared.key.Key.{Key}
use Rattle.mk_foot.specs.declared.key.Key.TheVariants as keys
use Rattle.mk_foot.specs.declared.records.EntryParts.{EntryParts}
use Rattle.mk_foot.specs.declared.shapes.Parts.{Parts}
use Rattle.mk_foot.specs.Book.{Book}
use Rattle.mk_foot.specs.Checks.{check_all, group_for}
use Rattle.mk_foot.specs.FootprintFile.{entry_keys, shared_in, entry_in, group_in, list_in, lists_in, footprints_in}
use Rattle.mk_foot.specs.Keys.{spelling}
use Rattle.mk_foot.specs.Fields.{texts_of, text_at, texts_at, elements_at, format_of, format_in}
use Rattle.mk_foot.specs.Parts.{SharedList, FootprintFile}
use Rattle.mk_foot.specs.Reading.{book_of}
use Rattle.mk_foot.specs.Steps.{◌>>=◌, Gives, each}

-- the text that a value is, else `Shape` (52) with the key
abbrev pub text_of : Key → Data → Result (List ℕ) FootFault
text_of key value = ok_or (as_str value) (Shape key)

-- the format by its number, else `Shape` (52) or `OtherFormat` (53)
abbrev pub format_from : Data → Result Format FootFault
format_from value = do
  number ← ok_or (option_and_then as_integer (as_number value)) (Shape keys.Format)
  format_of number

-- the shared lists that an object of lists gives, else `Shape` (52)
abbrev pub lists_from : Data → Result (List SharedList) FootFault
lists_from value = do
  members ← ok_or (json.pairs_of value) (Shape keys.Lists)
  each list_in members

-- a call returned these texts or this fault, or ran out of memory
abbrev pub GivesTexts :
    Result (Vec (String Global) Global) FootFault → Result (List (List ℕ)) FootFault → Type 0
GivesTexts texts defined = Gives (λ all. map string_bytes all.items) texts defined

-- If `defined` is a list of values, the call returned the parts of all of them or the first fault
-- in them, or ran out of memory; otherwise it returned the fault of `defined`, or ran out of
-- memory.
abbrev pub AreEach :
    {A : Type 0} → (Data → Result A FootFault) →
    Result (Result (Vec A Global) FootFault) FootFault → Result (List Data) FootFault → Type 0
AreEach part (Ok all) defined =
    (values : List Data) × (defined ≡ Ok values) ×
    Gives (λ all. all.items) all (each part values)
AreEach part (Err fault) defined = Fails Memory fault defined

-- the parts are those of a record with this value
pub record IsOfEntry (format : Format) (parts : EntryParts) (whole : Data) : Type 0 where
  pub target : Gives string_bytes parts.target (text_at keys.Target whole)
  pub commands : GivesTexts parts.commands (texts_at keys.Commands whole)
  pub reads : GivesTexts parts.reads (texts_at keys.Reads whole)
  pub writes : GivesTexts parts.writes (texts_at keys.Writes whole)
  pub shared : GivesTexts parts.shared (shared_in format whole)
  pub alone : parts.alone ≡ json.has_only (map spelling (entry_keys format)) whole

-- the parts are those of a group with this value
pub record IsOfGroup (parts : GroupParts) (whole : Data) : Type 0 where
  pub goals : GivesTexts parts.goals (texts_at keys.Goals whole)
  pub records : AreEach (entry_in Two) parts.records (elements_at keys.Records whole)
  pub alone : parts.alone ≡ json.has_only (map spelling (keys.Goals ∷ keys.Records ∷ [])) whole

-- the lists are those of the members of an object, in order
abbrev pub AreLists :
    List (String Global × Result (Vec (String Global) Global) FootFault) → Members → Type 0
AreLists [] no_members = ⊤
AreLists [] (member _ _ _) = ⊥
AreLists (_ ∷ _) no_members = ⊥
AreLists (list ∷ lists) (member name value rest) =
    (string_bytes list.0 ≡ name) × GivesTexts list.1 (texts_of keys.Lists value) ×
    AreLists lists rest

-- the keys of a file of format 1
abbrev pub first_keys : List Key
first_keys = keys.Format ∷ keys.Fixed ∷ keys.Sources ∷ keys.Records ∷ []

-- the keys of a file of format 2
abbrev pub second_keys : List Key
second_keys = keys.Format ∷ keys.Fixed ∷ keys.Sources ∷ keys.Lists ∷ keys.Groups ∷ []

-- the parts are those of a file with this value
pub record IsOf (parts : Parts) (whole : Data) : Type 0 where
  pub format : Gives (λ format. format) parts.format (format_in whole)
  pub fixed : GivesTexts parts.fixed (texts_at keys.Fixed whole)
  pub sources : GivesTexts parts.sources (texts_at keys.Sources whole)
  pub records : AreEach (entry_in One) parts.records (elements_at keys.Records whole)
  pub lists : Gives (λ all. all.items) parts.lists (lists_in whole)
  pub groups : AreEach group_in parts.groups (elements_at keys.Groups whole)
  pub is_first : parts.is_first ≡ json.has_only (map spelling first_keys) whole
  pub is_second : parts.is_second ≡ json.has_only (map spelling second_keys) whole

-- the parts of a footprint file by its bytes
unfoldable pub footprints_from : List ℕ → Result FootprintFile FootFault
footprints_from bytes = do
  value ← ok_or (json_of bytes) NotJson
  footprints_in value

-- the book of a file for some goals, or the first fault of its checks
abbrev pub book_of_file : List (List ℕ) → FootprintFile → Result Book FootFault
book_of_file goals file = do
  _ ← check_all file
  group ← group_for goals file.groups
  Ok (book_of file group)
