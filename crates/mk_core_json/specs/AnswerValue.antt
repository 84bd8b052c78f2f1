-- The JSON values of a yes and of refusals.
use Rattle.std.specs.Prelude.{ℕ, ◌-◌, List, [], ◌∷◌, ◌++◌, codes, length, nat_lt, slice_range, Option, None, Some, if◌then◌else◌}
use Rattle.std.specs.Str.Lossy.{utf8_lossy}
use Rattle.serde_json.specs.Data.{Data, null, number, string, unsigned}
use Rattle.serde_json.specs.Written.{compact_text}
use Rattle.mk_cert_text.specs.Certificate.{Certificate}
use Rattle.mk_cert_text.specs.Writing.{names_value, value_of}
use Rattle.mk_json.specs.Kinds.{object_of}
use Rattle.mk_read.specs.declared.fault.Place.{Place}
use Rattle.mk_read_files.specs.declared.cause.Cause.{Cause}
use Rattle.mk_core_text.specs.Causes.{caused_words}
use Rattle.mk_core_text.specs.FaultText.{fault_text}
use Rattle.mk_core_text.specs.declared.fault.Fault.{Fault}
use Rattle.mk_core_sentences.specs.RefusedLine.{in_file, place_of}
use Rattle.mk_core_json.specs.FaultNames.{fault_name}
use Rattle.mk_core_json.specs.FaultWords.{argument_value, fault_argument, fault_names, fault_word, word_value}

-- What is printed of an answer: its value without spaces, and a newline.
abbrev pub answer_text : Data → List ℕ
answer_text value = compact_text value ++ 10 ∷ []

-- The answer yes: the certificate, and how many recipes were judged and how many files they read.
abbrev pub yes_value : Certificate → (recipes reads : ℕ) → Data
yes_value certificate recipes reads =
    object_of ((codes "answer", string (codes "yes")) ∷
    (codes "certificate", value_of certificate) ∷
    (codes "format", number (unsigned 1)) ∷
    (codes "reads", number (unsigned reads)) ∷
    (codes "recipes", number (unsigned recipes)) ∷ [])

-- The line of a file, or null.
abbrev pub place_value : Option Place → Data
place_value None = null
place_value (Some place) =
    object_of ((codes "file", string place.file) ∷
    (codes "line", number (unsigned place.line)) ∷ [])

-- The line that `-w` prints, without the blanks before it and the newline behind it.
abbrev pub bare_line : List ℕ → List ℕ
bare_line line = if nat_lt (length line) 3 then [] else slice_range line 2 (length line - 1)

-- The line of a file that is shown, or null where there is none.
abbrev pub line_value : List ℕ → Data
line_value [] = null
line_value (b ∷ line) = string (utf8_lossy (bare_line (b ∷ line)))

-- The answer of a refusal: the word of the command line that has the fault, the fault's name, the
-- names in its text, its number, the line of a file that it names, its text in words, for a failed
-- read with its cause, that line as `-w` prints it, its text with numbers, and the word of the
-- makefile that is no name. U+FFFD stands for bytes that aren't UTF-8.
abbrev pub refusal_value : Fault → Cause → (line : List ℕ) → Data
refusal_value fault cause line =
    object_of ((codes "answer", string (codes "refused")) ∷
    (codes "argument", argument_value (fault_argument fault)) ∷
    (codes "format", number (unsigned 1)) ∷
    (codes "name", string ((fault_name fault).1)) ∷
    (codes "names", names_value (fault_names fault)) ∷
    (codes "number", number (unsigned ((fault_name fault).0))) ∷
    (codes "place", place_value (in_file (place_of fault))) ∷
    (codes "sentence", string (utf8_lossy (caused_words fault cause))) ∷
    (codes "source", line_value line) ∷
    (codes "text", string (utf8_lossy (fault_text fault))) ∷
    (codes "word", word_value (fault_word fault)) ∷ [])

-- The refusal of an old build: the same, and that it is the old one. No line of a file is shown.
abbrev pub old_refusal_value : Fault → Cause → Data
old_refusal_value fault cause =
    object_of ((codes "answer", string (codes "refused")) ∷
    (codes "argument", argument_value (fault_argument fault)) ∷
    (codes "build", string (codes "old")) ∷
    (codes "format", number (unsigned 1)) ∷
    (codes "name", string ((fault_name fault).1)) ∷
    (codes "names", names_value (fault_names fault)) ∷
    (codes "number", number (unsigned ((fault_name fault).0))) ∷
    (codes "place", place_value (in_file (place_of fault))) ∷
    (codes "sentence", string (utf8_lossy (caused_words fault cause))) ∷
    (codes "source", null) ∷
    (codes "text", string (utf8_lossy (fault_text fault))) ∷
    (codes "word", word_value (fault_word fault)) ∷ [])
