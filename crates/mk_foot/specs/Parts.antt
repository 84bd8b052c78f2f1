-- The parts of a footprint file, in lists of bytes.
use Rattle.std.specs.Prelude.{ℕ, List, Option}

-- a record as it stands in the file, with the names of the shared lists that it reads too
pub record RawRecord : Type 0 where
  pub target : List ℕ
  pub commands : List (List ℕ)
  pub reads : List (List ℕ)
  pub writes : List (List ℕ)
  pub shared : List (List ℕ)

-- records for some goals, or for any goals if none are named
pub record Group : Type 0 where
  pub goals : Option (List (List ℕ))
  pub records : List RawRecord

-- a list of files that records share
pub record SharedList : Type 0 where
  pub name : List ℕ
  pub names : List (List ℕ)

-- a whole footprint file; one of format 1 has no shared lists and a single group for any goals
pub record FootprintFile : Type 0 where
  pub fixed : List (List ℕ)
  pub sources : List (List ℕ)
  pub lists : List SharedList
  pub groups : List Group
