-- A file with what is known about it.
use Rattle.std.specs.Prelude.{ℕ, List}
use Rattle.mk_subject.specs.FileInfo.{FileInfo, known_of}
use Rattle.mk_subject.specs.Subject.{Subject, reads_of}
use Rattle.mk_subject.specs.Settled.{unsettled}

-- A file's name and what is known about it.
pub record Target : Type 0 where
  pub file : List ℕ
  pub known : FileInfo

-- The file with what is known about it in this subject.
abbrev pub target_of : Subject → List ℕ → Target
target_of x file = record { file = file; known = known_of x file }

-- The files that the recipe of a node reads and that aren't settled.
abbrev pub unsettled_of : Subject → ℕ → List (List ℕ)
unsettled_of x t = unsettled (known_of x) (reads_of x t)
