-- Faults of a build in a folder: each file, and the file of each place, as seen from outside.
use Rattle.std.specs.Prelude.{ℕ, List}
use Rattle.std.specs.Option.{option_map}
use Rattle.mk_infer.specs.declared.fault.InferFault.{InferFault}
use Rattle.mk_infer.specs.declared.fault.InferFault.TheVariants as infer
use Rattle.mk_read.specs.declared.fault.Place.{Place}
use Rattle.mk_read.specs.declared.fault.ReadFault.{ReadFault}
use Rattle.mk_read.specs.declared.fault.ReadFault.TheVariants as read
use Rattle.mk_core_text.specs.declared.fault.Fault.{Fault}
use Rattle.mk_core_text.specs.declared.fault.Fault.TheVariants.{Read, Infer, FileReadFailed, NoFile}
use Rattle.mk_core_since.specs.Below.{name_below}

-- The place in the folder.
abbrev pub place_in : List ℕ → Place → Place
place_in folder place = record { file = name_below folder place.file; line = place.line }

-- The fault of a makefile in the folder. A bad name of the makefile stays as it was given.
abbrev pub read_fault_in : List ℕ → ReadFault → ReadFault
read_fault_in folder (read.Line file fault) = read.Line (name_below folder file) fault
read_fault_in folder (read.Macro place fault) = read.Macro (place_in folder place) fault
read_fault_in folder (read.Kind place fault) = read.Kind (place_in folder place) fault
read_fault_in folder (read.StrayCommand place) = read.StrayCommand (place_in folder place)
read_fault_in folder (read.BadName place word) = read.BadName (place_in folder place) word
read_fault_in folder (read.BadMakefileName name) = read.BadMakefileName name
read_fault_in folder (read.ArchiveMember place word) =
    read.ArchiveMember (place_in folder place) word
read_fault_in folder (read.UnknownSpecial place) = read.UnknownSpecial (place_in folder place)
read_fault_in folder (read.SpecialShape place) = read.SpecialShape (place_in folder place)
read_fault_in folder (read.TwoRecipes place target) =
    read.TwoRecipes (place_in folder place) target
read_fault_in folder (read.IncludeMissing place file) =
    read.IncludeMissing (place_in folder place) (name_below folder file)
read_fault_in folder (read.IncludeDepth place) = read.IncludeDepth (place_in folder place)
read_fault_in folder (read.IncludeEmpty place) = read.IncludeEmpty (place_in folder place)
read_fault_in folder (read.ReadFailed place file) =
    read.ReadFailed (option_map (place_in folder) place) (name_below folder file)
read_fault_in folder (read.TooManyFiles place) = read.TooManyFiles (place_in folder place)
read_fault_in folder (read.NoMakefile file) = read.NoMakefile (option_map (name_below folder) file)
read_fault_in folder read.Memory = read.Memory

-- The fault of goals, graph or commands of a makefile in the folder.
abbrev pub infer_fault_in : List ℕ → InferFault → InferFault
infer_fault_in folder (infer.BadGoal place) = infer.BadGoal (place_in folder place)
infer_fault_in folder (infer.GoalIsMember place) = infer.GoalIsMember (place_in folder place)
infer_fault_in folder (infer.InferencePrerequisites place) =
    infer.InferencePrerequisites (place_in folder place)
infer_fault_in folder (infer.Macro place fault) = infer.Macro (place_in folder place) fault
infer_fault_in folder (infer.NoRule name place) =
    infer.NoRule name (option_map (place_in folder) place)
infer_fault_in folder (infer.Graph fault place) =
    infer.Graph fault (option_map (place_in folder) place)
infer_fault_in folder fault = fault

-- The fault of a build in the folder.
abbrev pub fault_in : List ℕ → Fault → Fault
fault_in folder (Read fault) = Read (read_fault_in folder fault)
fault_in folder (Infer fault) = Infer (infer_fault_in folder fault)
fault_in folder (FileReadFailed file) = FileReadFailed (name_below folder file)
fault_in folder (NoFile file) = NoFile (name_below folder file)
fault_in folder fault = fault
