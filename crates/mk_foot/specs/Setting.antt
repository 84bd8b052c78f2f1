-- What a build starts from: records, given files, and names that reading the makefile passed over.
use Rattle.std.specs.Prelude.{ℕ, Bool, List, [], find, Option, None, Some}
use Rattle.std.specs.Str.{bytes_eq}
use Rattle.mk_foot.specs.Book.{Record}
use Rattle.mk_lines.specs.Given as given

-- the records, the sources, the names of the makefile texts, the fixed prefixes, and the names that
-- reading the makefile passed over
pub record Setting : Type 0 where
  pub records : List Record
  pub sources : List (List ℕ)
  pub texts : List (List ℕ)
  pub fixed : List (List ℕ)
  pub passed_over : List (List ℕ)

-- the first record of a target
abbrev pub record_for : List Record → List ℕ → Option Record
record_for records name = find (λ (r : Record). bytes_eq name r.target) records

abbrev reads_in : Option Record → List (List ℕ)
reads_in None = []
reads_in (Some r) = r.reads

abbrev writes_in : Option Record → List (List ℕ)
writes_in None = []
writes_in (Some r) = r.writes

-- what the recipe of a target reads, which is nothing without a record
abbrev pub reads : Setting → List ℕ → List (List ℕ)
reads setting name = reads_in (record_for setting.records name)

-- what the recipe of a target writes, which is nothing without a record
abbrev pub writes : Setting → List ℕ → List (List ℕ)
writes setting name = writes_in (record_for setting.records name)

-- a file is given if it is a source, is under a fixed prefix, or is a makefile text
abbrev pub is_given : Setting → List ℕ → Bool
is_given setting name = given.is_given setting.sources setting.fixed setting.texts name

-- a file is editable if it is a source and no makefile text
abbrev pub is_editable : Setting → List ℕ → Bool
is_editable setting name = given.is_editable setting.sources setting.texts name
