-- What `since` prints.
use Rattle.std.specs.Prelude.{ℕ, List, [], ◌∷◌, ◌++◌, codes, Option, None, Some}
use Rattle.std.specs.List.{flat_map}
use Rattle.mk_read.specs.declared.fault.ReadFault.TheVariants.{NoMakefile}
use Rattle.mk_read_files.specs.declared.cause.Cause.{Cause}
use Rattle.mk_find.specs.declared.finding.Finding.{Finding}
use Rattle.mk_core_text.specs.Causes.{caused_words}
use Rattle.mk_core_text.specs.FaultText.{fault_text}
use Rattle.mk_core_text.specs.VerdictText.{findings_text}
use Rattle.mk_core_text.specs.declared.fault.Fault.{Fault}
use Rattle.mk_core_text.specs.declared.fault.Fault.TheVariants.{Read}
use Rattle.mk_core_since.specs.declared.outcome.Since.{Since}
use Rattle.mk_core_since.specs.declared.outcome.Since.TheVariants.{Named, No, Unsure, Refused}

-- A line for each name.
abbrev pub names_text : List (List ℕ) → List ℕ
names_text names = flat_map (λ name. name ++ 10 ∷ []) names

-- What standard output gets: the named files alone.
abbrev pub since_output : Since → List ℕ
since_output (Named names) = names_text names
since_output since = []

-- The text, and a line that says that it is about the old build in this folder.
abbrev pub old_message : List ℕ → List ℕ → List ℕ
old_message text folder =
    ((text ++ codes "this is the old build, in ") ++ folder) ++
    codes ": begin with a clean build\n"

-- The text, and a line that says that nothing was kept in this folder.
abbrev pub nothing_kept : List ℕ → List ℕ → List ℕ
nothing_kept text folder =
    ((text ++ codes "there is no makefile of an old build in ") ++ folder) ++
    codes ": mkcheck-record --keep DIR keeps one; begin with a clean build\n"

-- The text of a refusal, and a line that says whose it is.
abbrev pub refused_message : Fault → List ℕ → List ℕ → List ℕ
refused_message (Read (NoMakefile name)) text folder = nothing_kept text folder
refused_message fault text folder = old_message text folder

-- The text of a fault: with numbers, or in words with the cause of a failed read.
abbrev pub said : Option Cause → Fault → List ℕ
said None fault = fault_text fault
said (Some cause) fault = caused_words fault cause

-- The text of findings: with a cause their sentences, else a line for each.
abbrev pub told_findings : Option Cause → List Finding → List ℕ → List ℕ
told_findings None found sentences = findings_text found
told_findings (Some cause) found sentences = sentences

-- What standard error gets: findings or a refusal, and whether they are of the old build. Findings
-- of the new one and refusals are in words where a cause is given.
abbrev pub since_message : List ℕ → Option Cause → Since → List ℕ
since_message folder cause (Named names) = []
since_message folder cause (No found text) = told_findings cause found text.items
since_message folder cause (Unsure found) = old_message (findings_text found) folder
since_message folder cause (Refused fault) =
    refused_message fault (said cause fault ++ 10 ∷ []) folder
