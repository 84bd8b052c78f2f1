-- A footprint file by its JSON value, or the fault of the first bad key.
use Rattle.std.specs.Prelude.{ℕ, List, [], ◌∷◌, None, Some, Result, Ok}
use Rattle.serde_json.specs.Data.{Data}
use Rattle.mk_foot.specs.declared.fault.FootFault.{FootFault}
use Rattle.mk_foot.specs.declared.key.Key.{Key}
use Rattle.mk_foot.specs.declared.key.Key.TheVariants as keys
use Rattle.mk_foot.specs.declared.format.Format.{Format}
use Rattle.mk_foot.specs.declared.format.Format.TheVariants.{One, Two}
use Rattle.mk_foot.specs.Steps.{◌>>=◌, each}
use Rattle.mk_foot.specs.Fields.{texts_of, text_at, texts_at, elements_at, members_at, is_object, has_only, format_in}
use Rattle.mk_foot.specs.Parts.{RawRecord, Group, SharedList, FootprintFile}

-- the keys of a record
abbrev pub entry_keys : Format → List Key
entry_keys One = keys.Target ∷ keys.Commands ∷ keys.Reads ∷ keys.Writes ∷ []
entry_keys Two = keys.Target ∷ keys.Commands ∷ keys.Reads ∷ keys.Writes ∷ keys.Shared ∷ []

-- the shared lists that a record names: none in format 1
unfoldable pub shared_in : Format → Data → Result (List (List ℕ)) FootFault
shared_in One value = Ok []
shared_in Two value = texts_at keys.Shared value

-- a record by its value: the known keys are checked in this order, then that there is no other key
unfoldable pub entry_in : Format → Data → Result RawRecord FootFault
entry_in format value = do
  _ ← is_object keys.Records value
  target ← text_at keys.Target value
  commands ← texts_at keys.Commands value
  reads ← texts_at keys.Reads value
  writes ← texts_at keys.Writes value
  shared ← shared_in format value
  _ ← has_only (entry_keys format) value
  Ok (record {
    target = target;
    commands = commands;
    reads = reads;
    writes = writes;
    shared = shared;
  })

-- a group by its value: the known keys are checked in this order, then that there is no other key,
-- then the records
unfoldable pub group_in : Data → Result Group FootFault
group_in value = do
  _ ← is_object keys.Groups value
  goals ← texts_at keys.Goals value
  records ← elements_at keys.Records value
  _ ← has_only (keys.Goals ∷ keys.Records ∷ []) value
  entries ← each (entry_in Two) records
  Ok (record { goals = Some goals; records = entries })

-- a shared list by its name and its value
unfoldable pub list_in : List ℕ × Data → Result SharedList FootFault
list_in pair = do
  names ← texts_of keys.Lists pair.1
  Ok (record { name = pair.0; names = names })

-- the shared lists, in the order of their names
unfoldable pub lists_in : Data → Result (List SharedList) FootFault
lists_in whole = do
  members ← members_at keys.Lists whole
  each list_in members

-- a file of format 1 by its value
unfoldable pub first_format : Data → Result FootprintFile FootFault
first_format whole = do
  fixed ← texts_at keys.Fixed whole
  sources ← texts_at keys.Sources whole
  records ← elements_at keys.Records whole
  _ ← has_only (keys.Format ∷ keys.Fixed ∷ keys.Sources ∷ keys.Records ∷ []) whole
  entries ← each (entry_in One) records
  Ok (record {
    fixed = fixed;
    sources = sources;
    lists = [];
    groups = (record { goals = None; records = entries }) ∷ [];
  })

-- a file of format 2 by its value
unfoldable pub second_format : Data → Result FootprintFile FootFault
second_format whole = do
  fixed ← texts_at keys.Fixed whole
  sources ← texts_at keys.Sources whole
  lists ← lists_in whole
  values ← elements_at keys.Groups whole
  _ ← has_only (keys.Format ∷ keys.Fixed ∷ keys.Sources ∷ keys.Lists ∷ keys.Groups ∷ []) whole
  groups ← each group_in values
  Ok (record { fixed = fixed; sources = sources; lists = lists; groups = groups })

-- a file of the format that was read
abbrev pub in_format : Format → Data → Result FootprintFile FootFault
in_format One whole = first_format whole
in_format Two whole = second_format whole

-- a file of either format by its value
unfoldable pub footprints_in : Data → Result FootprintFile FootFault
footprints_in value = do
  _ ← is_object keys.Top value
  format ← format_in value
  in_format format value
