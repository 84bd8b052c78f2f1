-- How a source is read to its end.
use Rattle.std.specs.Prelude.{◌≡◌, ◌⊎◌, ◌+◌, ℕ, true, List, length, Option}
use Rattle.std.specs.Io.KnownBytes.{Consumes}
use Rattle.mkcheck_host.specs.declared.source.Source.{Source}

-- The most bytes of a file.
abbrev pub max_file : ℕ
max_file = 16777216

-- The most reads: one for each byte, and one for the end.
abbrev pub max_reads : ℕ
max_reads = max_file + 1

-- One byte more than the limit was read.
abbrev pub IsTooLong : Option (List ℕ) → Option (List ℕ) → Type 0
IsTooLong old new = (bs : List ℕ) × (length bs ≡ max_file + 1) × Consumes old new bs

-- A source isn't read to its end because a read failed, no further read is allowed, or it has too
-- many bytes.
abbrev pub GaveUp : {R : Type 0} → (R → Option (List ℕ)) → Source R → Source R → Type 0
GaveUp remaining old new =
    (new.failed ≡ true) ⊎ (new.reads_left ≡ 0) ⊎
    IsTooLong (remaining old.reader) (remaining new.reader)
