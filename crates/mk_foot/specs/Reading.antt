-- The book of a footprint file, for some goals.
use Rattle.std.specs.Prelude.{ℕ, List, [], ◌∷◌, ◌++◌, map, Result, Ok, if◌then◌else◌, ok_or}
use Rattle.std.specs.List.{flat_map}
use Rattle.std.specs.Str.{bytes_eq}
use Rattle.serde_json.specs.Data.{Data}
use Rattle.mk_json.specs.Reading.{json_of}
use Rattle.mk_foot.specs.declared.fault.FootFault.{FootFault}
use Rattle.mk_foot.specs.declared.fault.FootFault.TheVariants.{NotJson}
use Rattle.mk_foot.specs.Book.{Record, Book}
use Rattle.mk_foot.specs.Steps.{◌>>=◌}
use Rattle.mk_foot.specs.Names.{once}
use Rattle.mk_foot.specs.Parts.{RawRecord, Group, SharedList, FootprintFile}
use Rattle.mk_foot.specs.FootprintFile.{footprints_in}
use Rattle.mk_foot.specs.Checks.{check_all, group_for}

-- the names of the shared list with this name, or none if there is no such list
abbrev pub listed : List SharedList → List ℕ → List (List ℕ)
listed [] name = []
listed (list ∷ lists) name = if bytes_eq name list.name then list.names else listed lists name

-- The record of the book: its reads are its own and then those of its shared lists in order, each
-- once; its writes are each once; its commands keep their repeats.
abbrev pub record_of : List SharedList → RawRecord → Record
record_of lists entry = record {
  target = entry.target;
  commands = entry.commands;
  reads = once (entry.reads ++ flat_map (listed lists) entry.shared);
  writes = once entry.writes;
}

-- the book of a file with the records of this group
abbrev pub book_of : FootprintFile → Group → Book
book_of file group =
    record {
      fixed = once file.fixed;
      sources = once file.sources;
      records = map (record_of file.lists) group.records;
    }

-- the book of a JSON value, or the first fault: of its shape, of the checks, or that no group
-- serves the goals
unfoldable pub book_in : List (List ℕ) → Data → Result Book FootFault
book_in goals value = do
  file ← footprints_in value
  _ ← check_all file
  group ← group_for goals file.groups
  Ok (book_of file group)

-- the book of the bytes of a footprint file, or the first fault
unfoldable pub book_from : List (List ℕ) → List ℕ → Result Book FootFault
book_from goals bytes = do
  value ← ok_or (json_of bytes) NotJson
  book_in goals value
