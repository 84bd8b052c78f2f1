-- Faults in words, with why a read failed.
use Rattle.std.specs.Prelude.{ℕ, Bool, true, false, List, [], ◌++◌, codes, if◌then◌else◌}
use Rattle.mk_read.specs.declared.fault.ReadFault.TheVariants.{ReadFailed}
use Rattle.mk_read_files.specs.declared.cause.Cause.{Cause}
use Rattle.mk_read_files.specs.declared.cause.Cause.TheVariants.{Folder, Permission, TooLarge, ReadBefore, Other}
use Rattle.mk_core_text.specs.FaultText.{fault_words}
use Rattle.mk_core_text.specs.declared.fault.Fault.{Fault}
use Rattle.mk_core_text.specs.declared.fault.Fault.TheVariants.{FileReadFailed, Read}

-- What follows a fault in words for this cause.
abbrev pub cause_words : Cause → List ℕ
cause_words Folder = codes ": this one is a folder"
cause_words Permission = codes ": there is no permission to read this one"
cause_words TooLarge = codes ": this one has over 16,777,216 bytes"
cause_words ReadBefore = codes ": this one can be read once only, and was"
cause_words Other = []

-- The fault is a failed read.
abbrev pub is_failed_read : Fault → Bool
is_failed_read (Read (ReadFailed place name)) = true
is_failed_read (FileReadFailed name) = true
is_failed_read fault = false

-- What follows this fault in words, where the last failed read has this cause.
abbrev pub cause_of_fault : Fault → Cause → List ℕ
cause_of_fault fault cause = if is_failed_read fault then cause_words cause else []

-- The text of a fault in words, for a failed read with its cause.
abbrev pub caused_words : Fault → Cause → List ℕ
caused_words fault cause = fault_words fault ++ cause_of_fault fault cause
