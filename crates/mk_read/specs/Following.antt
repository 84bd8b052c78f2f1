-- What the functions that read files return.
use Rattle.std.specs.Prelude.{◌≡◌, ℕ, zero, suc, ◌<◌, ◌≤◌, List, ◌∷◌, Option, None, Some, Result, Ok, Err, if◌then◌else◌}
use Rattle.mk_read.specs.declared.fault.ReadFault.{ReadFault}
use Rattle.mk_read.specs.declared.fault.ReadFault.TheVariants.{Memory, ReadFailed}
use Rattle.mk_read.specs.Files.{Told, text_at}
use Rattle.mk_read.specs.Reading.{Reader, Deeper, reads, reading}
use Rattle.mk_read.specs.State.{State}
use Rattle.mk_read.specs.Steps.{Fails, is_out_of_memory}

-- The reader of these files, whose read with this number fails, if one does.
abbrev pub reader_of : Told → Option ℕ → Reader
reader_of told failing = record { text = text_at told; failing = failing }

-- How the files of include lines are read where this many levels are left; none where no level is
-- left.
abbrev pub below : ℕ → Reader → Deeper
below zero reader = None
below (suc levels) reader = Some (reading levels reader)

-- The failing read, if there is one, comes after the first n reads.
abbrev pub Later : ℕ → Option ℕ → Type 0
Later n None = Unit {0}
Later n (Some k) = n < k

-- A step of reading over a known map, from a state. On success its result is what is defined for
-- each reader whose reads don't fail up to there. `ReadFailed` is what is defined where some later
-- read fails. Another fault is what is defined where no read fails, or out of memory.
abbrev pub Follows : Told → (Reader → Result State ReadFault) → State → Result State ReadFault →
    Type 0
Follows told step old (Ok new) =
    (reads old ≤ reads new) ×
    ((failing : Option ℕ) → Later (reads new) failing → step (reader_of told failing) ≡ Ok new)
Follows told step old (Err (ReadFailed place name)) =
    (k : ℕ) × (reads old < k) × (step (reader_of told (Some k)) ≡ Err (ReadFailed place name))
Follows told step old (Err fault) = Fails fault (step (reader_of told None))

-- The result of reading a whole makefile over a known map. On success it is what is defined where
-- no read fails. `ReadFailed` is what is defined where some read fails. Another fault is what is
-- defined where no read fails, or out of memory.
abbrev pub Answers : {A : Type 0} → Told → (Reader → Result A ReadFault) → Result A ReadFault →
    Type 0
Answers told reads_as (Ok x) = reads_as (reader_of told None) ≡ Ok x
Answers told reads_as (Err (ReadFailed place name)) =
    (k : ℕ) × (reads_as (reader_of told (Some k)) ≡ Err (ReadFailed place name))
Answers told reads_as (Err fault) = Fails fault (reads_as (reader_of told None))

-- The names whose reads failed, before and after a fault: with `ReadFailed` the file that it names
-- is one more, and with any other fault they stay.
abbrev pub NotesFault : List (List ℕ) → List (List ℕ) → ReadFault → Type 0
NotesFault old new (ReadFailed place name) = new ≡ name ∷ old
NotesFault old new fault = new ≡ old

-- The names whose reads failed, before and after a result: with `ReadFailed` the file that it names
-- is one more, and with anything else they stay.
abbrev pub NotesFailure : {A : Type 0} → List (List ℕ) → List (List ℕ) → Result A ReadFault →
    Type 0
NotesFailure old new (Ok x) = new ≡ old
NotesFailure old new (Err fault) = NotesFault old new fault

-- The fault that is returned: each form of out of memory becomes `Memory`.
abbrev pub answered : ReadFault → ReadFault
answered fault = if is_out_of_memory fault then Memory else fault

-- The fault is any but `ReadFailed`.
abbrev pub IsOfText : ReadFault → Type 0
IsOfText (ReadFailed place name) = ⊥
IsOfText fault = Unit {0}
