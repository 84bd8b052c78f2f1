-- How the writing of a run's outcome ends.
use Rattle.std.specs.Prelude.{◌≡◌, ◌⊎◌, ◌<◌, ℕ, List, [], ◌∷◌, ◌++◌, length, take, codes, Option, Result, Ok, Err}
use Rattle.std.specs.Io.KnownBytes.{Appends}
use Rattle.mkcheck_host.specs.Outcome.{Written, written}
use Rattle.mkcheck_host.specs.declared.ending.Ending.{Ending}
use Rattle.mkcheck_host.specs.declared.ending.Ending.TheVariants.{Complete, WriteFailed}
use Rattle.mkcheck_host.specs.declared.ending.Stop.{Stop}
use Rattle.mkcheck_host.specs.declared.ending.Stop.TheVariants.{Memory, Words}
use Rattle.mkcheck_host.specs.declared.outcome.Outcome.{Outcome}

-- The contents, where they are known, grew by the first bytes of the text, or by all of it.
abbrev pub AppendsSome : Option (List ℕ) → Option (List ℕ) → List ℕ → Type 0
AppendsSome old new text = (n : ℕ) × Appends old new (take n text)

-- The contents, where they are known, grew by the first bytes of the text, but not by all of it.
abbrev pub AppendsPart : Option (List ℕ) → Option (List ℕ) → List ℕ → Type 0
AppendsPart old new text = (n : ℕ) × (n < length text) × Appends old new (take n text)

-- The words as a line.
abbrev pub line_of : List ℕ → List ℕ
line_of words = words ++ 10 ∷ []

-- The line that reports a failed write.
abbrev pub failure_line : List ℕ
failure_line = line_of (codes "write failed")

-- What is written for a run that has no outcome, and its exit status.
abbrev pub said : Stop → Written
said Memory = record { out = []; err = line_of (codes "want of memory"); status = 3 }
said Words =
    record {
      out = [];
      err = line_of (codes "error: a word of the command line is not UTF-8");
      status = 2;
    }

-- What a run has to write, and its exit status.
abbrev pub to_write : Result Outcome Stop → Written
to_write (Ok outcome) = written outcome
to_write (Err stop) = said stop

-- The contents of standard output and standard error before the end and after it, where they are
-- known.
pub record Streams : Type 0 where
  pub out_old : Option (List ℕ)
  pub out_new : Option (List ℕ)
  pub err_old : Option (List ℕ)
  pub err_new : Option (List ℕ)

-- The contents with these values.
abbrev pub streams : Option (List ℕ) → Option (List ℕ) → Option (List ℕ) → Option (List ℕ)
    → Streams
streams out_old out_new err_old err_new =
    record { out_old = out_old; out_new = out_new; err_old = err_old; err_new = err_new }

-- Both texts were written whole.
abbrev pub IsWhole : Streams → Written → Type 0
IsWhole s w = Appends s.out_old s.out_new w.out × Appends s.err_old s.err_new w.err

-- Standard output's text was written in part, and then at most the report of the failed write to
-- standard error.
abbrev pub IsCutAtOutput : Streams → Written → Type 0
IsCutAtOutput s w =
    AppendsPart s.out_old s.out_new w.out × AppendsSome s.err_old s.err_new failure_line

-- Standard output's text was written whole, standard error's in part, and then at most the report
-- of the failed write.
abbrev pub IsCutAtError : Streams → Written → Type 0
IsCutAtError s w =
    Appends s.out_old s.out_new w.out × (middle : Option (List ℕ)) ×
    AppendsPart s.err_old middle w.err × AppendsSome middle s.err_new failure_line

-- Either both texts were written whole, and the exit status is the run's; or a write failed, which
-- standard error reports as far as that could be written.
abbrev pub Ends : Streams → Written → Ending → Type 0
Ends s w (Complete status) = (status ≡ w.status) × IsWhole s w
Ends s w WriteFailed = IsCutAtOutput s w ⊎ IsCutAtError s w

-- The exit status of the process: the run's, or 2 after a failed write.
abbrev pub status_of : Ending → ℕ
status_of (Complete status) = status
status_of WriteFailed = 2
