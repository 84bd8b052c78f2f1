-- What a footprint file says for some goals, in lists of bytes.
use Rattle.std.specs.Prelude.{ℕ, List, []}

-- what the recipe of a target was recorded to do
pub record Record : Type 0 where
  pub target : List ℕ
  pub commands : List (List ℕ)
  pub reads : List (List ℕ)
  pub writes : List (List ℕ)

-- the prefixes of the names of files that never change, the files that exist before a build, and
-- the records of recipes
pub record Book : Type 0 where
  pub fixed : List (List ℕ)
  pub sources : List (List ℕ)
  pub records : List Record

-- the book without records, sources and fixed prefixes
abbrev pub no_book : Book
no_book = record { fixed = []; sources = []; records = [] }
