-- The answer to a request, whatever its command.
use Rattle.std.specs.Prelude.{◌≡◌, ℕ, false, List, ◌∷◌, Option, None, Some, Result, Ok, Err}
use Rattle.mk_read.specs.declared.fault.ReadFault.TheVariants.{ReadFailed}
use Rattle.mk_read.specs.Files.{Told}
use Rattle.mk_read.specs.Following as following
use Rattle.mk_read.specs.Steps.{is_out_of_memory}
use Rattle.mk_core_text.specs.declared.fault.Fault.{Fault}
use Rattle.mk_core_text.specs.declared.fault.Fault.TheVariants.{Read, FileReadFailed, Memory}
use Rattle.mk_core.specs.declared.request.Request.{Request}
use Rattle.mk_core.specs.Ready.{Ready, makefile_for, ready_for}

-- The file, other than a makefile, whose read failed, if the fault is that.
abbrev pub failed_file : Fault → Option (List ℕ)
failed_file (FileReadFailed name) = Some name
failed_file fault = None

-- The file, other than a makefile, whose read failed, if the answer is that fault.
abbrev pub failing_of : {A : Type 0} → Result A Fault → Option (List ℕ)
failing_of (Ok x) = None
failing_of (Err fault) = failed_file fault

-- The command's answer to the prepared request, or the fault of preparing it.
abbrev pub Draws : {A : Type 0} → (Ready → Result A Fault → Type 0) → Result Ready Fault →
    Result A Fault → Type 0
Draws answers (Ok ready) answer = answers ready answer
Draws answers (Err fault) answer = answer ≡ Err fault

-- The answers to a request when the files have these contents: a fault of the makefile comes from
-- reading it, which includes failed reads; anything else is the command's answer to the prepared
-- request, where no file but the one that the answer names fails to be read. Out of memory is
-- always allowed.
abbrev pub Answers : {A : Type 0} → Told → Request → (Ready → Result A Fault → Type 0) →
    Result A Fault → Type 0
Answers files request answers (Err Memory) = Unit {0}
Answers files request answers (Err (Read fault)) =
    (is_out_of_memory fault ≡ false) ×
    following.Answers files (makefile_for request) (Err fault)
Answers files request answers answer =
    Draws answers (ready_for files (failing_of answer) request) answer

-- The names whose reads failed, before and after a fault: with a failed read the file that the
-- fault names is one more, and with any other fault they stay.
abbrev pub NotesFault : List (List ℕ) → List (List ℕ) → Fault → Type 0
NotesFault old new (Read (ReadFailed place name)) = new ≡ name ∷ old
NotesFault old new (FileReadFailed name) = new ≡ name ∷ old
NotesFault old new fault = new ≡ old

-- The names whose reads failed, before and after an answer: with a failed read the file that the
-- fault names is one more, and with any other answer they stay.
abbrev pub NotesFailure : {A : Type 0} → List (List ℕ) → List (List ℕ) → Result A Fault → Type 0
NotesFailure old new (Ok x) = new ≡ old
NotesFailure old new (Err fault) = NotesFault old new fault
