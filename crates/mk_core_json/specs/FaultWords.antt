-- What a fault is about: names, a word that is none, or a word of the command line.
use Rattle.std.specs.Prelude.{ℕ, List, [], ◌∷◌, codes, Option, None, Some, option_to_list, if◌then◌else◌}
use Rattle.std.specs.Str.{bytes_eq}
use Rattle.std.specs.Str.Lossy.{utf8_lossy}
use Rattle.serde_json.specs.Data.{Data, null, number, string, unsigned}
use Rattle.mk_json.specs.Kinds.{object_of}
use Rattle.mk_cert.specs.declared.fault.CertFault.{CertFault}
use Rattle.mk_cert.specs.declared.fault.CertFault.TheVariants.{NoWay, BadWay, Static}
use Rattle.mk_foot.specs.declared.fault.FootFault.{FootFault}
use Rattle.mk_foot.specs.declared.fault.FootFault.TheVariants.{TwoRecords, SourceIsFixed}
use Rattle.mk_graph.specs.declared.fault.GraphFault.{GraphFault}
use Rattle.mk_graph.specs.declared.fault.GraphFault.TheVariants.{Cycle}
use Rattle.mk_infer.specs.declared.fault.InferFault.{InferFault}
use Rattle.mk_infer.specs.declared.fault.InferFault.TheVariants.{BadGoal, GoalIsMember, NoRule, Graph}
use Rattle.mk_read.specs.declared.fault.Place.{Place}
use Rattle.mk_read.specs.declared.fault.ReadFault.{ReadFault}
use Rattle.mk_read.specs.declared.fault.ReadFault.TheVariants.{Macro, BadName, BadMakefileName, ArchiveMember, TwoRecipes, IncludeMissing, ReadFailed, NoMakefile}
use Rattle.mk_core_text.specs.declared.fault.Fault.{Fault}
use Rattle.mk_core_text.specs.declared.fault.Fault.TheVariants.{Read, Infer, Foot, Verify, FileReadFailed, NoFile}
use Rattle.mk_core_json.specs.FindingValue.{names_of}

-- The names of targets and files in the text of a fault of a makefile.
abbrev pub read_names : ReadFault → List (List ℕ)
read_names (BadMakefileName name) = name ∷ []
read_names (TwoRecipes place target) = target ∷ []
read_names (IncludeMissing place name) = name ∷ []
read_names (ReadFailed place name) = name ∷ []
read_names (NoMakefile name) = option_to_list name
read_names fault = []

-- The names in the text of a fault of a graph: those along the cycle.
abbrev pub graph_names : GraphFault → List (List ℕ)
graph_names (Cycle names) = names
graph_names fault = []

-- The names in the text of a fault of goals, of their graph, or of commands.
abbrev pub infer_names : InferFault → List (List ℕ)
infer_names (NoRule name place) = name ∷ []
infer_names (Graph fault place) = graph_names fault
infer_names fault = []

-- The names in the text of a fault of footprints.
abbrev pub foot_names : FootFault → List (List ℕ)
foot_names (TwoRecords target) = target ∷ []
foot_names (SourceIsFixed name) = name ∷ []
foot_names fault = []

-- The names in the text of why a certificate isn't accepted.
abbrev pub verify_names : CertFault → List (List ℕ)
verify_names (NoWay recipe file) = recipe ∷ file ∷ []
verify_names (BadWay recipe file) = recipe ∷ file ∷ []
verify_names (Static found) = names_of found
verify_names fault = []

-- The names of targets and files in the text of a fault, in its order.
abbrev pub fault_names : Fault → List (List ℕ)
fault_names (Read fault) = read_names fault
fault_names (Infer fault) = infer_names fault
fault_names (Foot fault) = foot_names fault
fault_names (Verify fault) = verify_names fault
fault_names (FileReadFailed name) = name ∷ []
fault_names (NoFile name) = name ∷ []
fault_names fault = []

-- The word of the makefile that is no name.
abbrev pub read_word : ReadFault → Option (List ℕ)
read_word (BadName place word) = Some word
read_word (ArchiveMember place word) = Some word
read_word fault = None

-- The word of the makefile that is no name, where that is why.
abbrev pub fault_word : Fault → Option (List ℕ)
fault_word (Read fault) = read_word fault
fault_word fault = None

-- That word, or null. U+FFFD stands for bytes that aren't UTF-8.
abbrev pub word_value : Option (List ℕ) → Data
word_value None = null
word_value (Some word) = string (utf8_lossy word)

-- The word of the command line at this place: of the words of this kind the one with its number.
-- None where the place is a line of a file.
abbrev pub argument_at : (kind : List ℕ) → Place → Option (List ℕ × ℕ)
argument_at kind place = if bytes_eq place.file kind then Some (kind, place.line) else None

-- The word of the command line that has the fault: a goal or a macro operand, by its number among
-- these.
abbrev pub fault_argument : Fault → Option (List ℕ × ℕ)
fault_argument (Infer (BadGoal place)) = argument_at (codes "goal") place
fault_argument (Infer (GoalIsMember place)) = argument_at (codes "goal") place
fault_argument (Read (Macro place fault)) = argument_at (codes "operand") place
fault_argument fault = None

-- That word, or null.
abbrev pub argument_value : Option (List ℕ × ℕ) → Data
argument_value None = null
argument_value (Some (kind, place)) =
    object_of ((codes "kind", string kind) ∷ (codes "number", number (unsigned place)) ∷ [])
