-- Laws of books and settings.
use Rattle.std.specs.Prelude.{◌≡◌, ◌⊎◌, ◌↔◌, ℕ, true, false, List, [], ◌∷◌, ◌++◌, map, codes, None, Ok, Err, if◌then◌else◌}
use Rattle.std.specs.List.{list_all, flat_map}
use Rattle.mk_lines.specs.Paths.{is_plain_path}
use Rattle.serde_json.specs.Data.{Data, number, string, unsigned}
use Rattle.mk_json.specs.Kinds.{array_of, object_of}
use Rattle.mk_json.specs.Reading.{json_of}
use Rattle.mk_foot.specs.declared.fault.FootFault.TheVariants.{NotJson}
use Rattle.mk_foot.specs.Book.{Record, Book}
use Rattle.mk_foot.specs.Names.{Has, has_name, once}
use Rattle.mk_foot.specs.Reading.{book_in, book_from}
use Rattle.mk_foot.specs.Setting.{Setting, is_given, is_editable}

-- no name of the list occurs twice
abbrev pub EachOnce : List (List ℕ) → Type 0
EachOnce [] = Unit {0}
EachOnce (name ∷ names) = (has_name names name ≡ false) × EachOnce names

-- `once` keeps the same names, each once, and a name at the end of a list is kept, at the end,
-- exactly if it doesn't occur before
pub record KeepsFirst (names : List (List ℕ)) : Type 0 where
  pub same : (name : List ℕ) → has_name (once names) name ≡ has_name names name
  pub apart : EachOnce (once names)
  pub order : (name : List ℕ) →
      once (names ++ name ∷ []) ≡
      (if has_name names name then once names else once names ++ name ∷ [])

-- Each list of names is kept so by `once`.
abbrev pub OnceKeepsFirst : Type 0
OnceKeepsFirst = (names : List (List ℕ)) → KeepsFirst names

-- The answer is `NotJson` (51) exactly if the bytes have no JSON value.
abbrev pub OnlyTextWithoutValueIsNoJson : Type 0
OnlyTextWithoutValueIsNoJson =
    (goals : List (List ℕ)) (bytes : List ℕ) → (book_from goals bytes ≡ Err NotJson) ↔
    (json_of bytes ≡ None)

-- values of any kind under the keys of a record
pub record Values : Type 0 where
  pub target : Data
  pub commands : Data
  pub reads : Data
  pub writes : Data

-- the JSON value of a record of format 1
abbrev pub plain_record : Values → Data
plain_record v =
    object_of ((codes "commands", v.commands) ∷ (codes "reads", v.reads) ∷
    (codes "target", v.target) ∷ (codes "writes", v.writes) ∷ [])

-- the JSON value of a record of format 2 without shared lists
abbrev pub bare_record : Values → Data
bare_record v =
    object_of ((codes "commands", v.commands) ∷ (codes "reads", v.reads) ∷
    (codes "shared", array_of []) ∷ (codes "target", v.target) ∷ (codes "writes", v.writes) ∷ [])

-- the JSON value of a file of format 1
abbrev pub plain_file : Data → Data → List Values → Data
plain_file fixed sources records =
    object_of ((codes "fixed", fixed) ∷ (codes "format", number (unsigned 1)) ∷
    (codes "records", array_of (map plain_record records)) ∷ (codes "sources", sources) ∷ [])

-- the JSON value of a group of format 2 with these goals and records
abbrev pub one_group : List (List ℕ) → List Values → Data
one_group goals records =
    object_of ((codes "goals", array_of (map string goals)) ∷
    (codes "records", array_of (map bare_record records)) ∷ [])

-- the JSON value of a file of format 2 with one group for these goals and no shared lists
abbrev pub grouped_file : List (List ℕ) → Data → Data → List Values → Data
grouped_file goals fixed sources records =
    object_of ((codes "fixed", fixed) ∷ (codes "format", number (unsigned 2)) ∷
    (codes "groups", array_of (one_group goals records ∷ [])) ∷ (codes "lists", object_of []) ∷
    (codes "sources", sources) ∷ [])

-- If the goals are plain paths, both formats give the same book or the same fault.
abbrev pub FormatsAgree : Type 0
FormatsAgree =
    (goals : List (List ℕ)) (fixed sources : Data) (records : List Values) →
    list_all is_plain_path goals ≡ true →
    book_in goals (plain_file fixed sources records) ≡
    book_in goals (grouped_file goals fixed sources records)

-- the name begins with a prefix of the list
abbrev pub Under : List (List ℕ) → List ℕ → Type 0
Under fixed name =
    (prefix : List ℕ) × Has fixed prefix × ((rest : List ℕ) × (name ≡ prefix ++ rest))

-- A name is given exactly if it is a source, is under a fixed prefix, or is a makefile text.
abbrev pub GivenExactly : Type 0
GivenExactly =
    (setting : Setting) (name : List ℕ) → (is_given setting name ≡ true) ↔
    (Has setting.sources name ⊎ (Under setting.fixed name ⊎ Has setting.texts name))

-- A name is editable exactly if it is a source and no makefile text.
abbrev pub EditableExactly : Type 0
EditableExactly =
    (setting : Setting) (name : List ℕ) → (is_editable setting name ≡ true) ↔
    (Has setting.sources name × (¬ Has setting.texts name))

-- Each editable name is given.
abbrev pub EditableIsGiven : Type 0
EditableIsGiven =
    (setting : Setting) (name : List ℕ) → is_editable setting name ≡ true →
    is_given setting name ≡ true

-- the target, the reads and the writes of a record
abbrev pub names_of_record : Record → List (List ℕ)
names_of_record r = r.target ∷ (r.reads ++ r.writes)

-- all names of a book but the fixed prefixes
abbrev pub names_of : Book → List (List ℕ)
names_of book = book.sources ++ flat_map names_of_record book.records

-- All names of a book that was read are plain paths.
abbrev pub NamesReadArePlain : Type 0
NamesReadArePlain =
    (goals : List (List ℕ)) (bytes : List ℕ) (book : Book) → book_from goals bytes ≡ Ok book →
    list_all is_plain_path (names_of book) ≡ true
