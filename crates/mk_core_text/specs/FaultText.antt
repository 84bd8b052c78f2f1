-- The printed text of a fault.
use Rattle.std.specs.Prelude.{ℕ, List, [], ◌∷◌, ◌++◌, codes, Option, None, Some, option_to_list}
use Rattle.std.specs.List.{flat_map}
use Rattle.std.specs.Option.{option_map, unwrap_or}
use Rattle.std.specs.Fmt.{decimal}
use Rattle.mk_find.specs.Text as finding
use Rattle.mk_cert.specs.declared.fault.CertFault.{CertFault}
use Rattle.mk_cert.specs.declared.fault.CertFault.TheVariants as cert
use Rattle.mk_explain.specs.Explain.{named_sentence}
use Rattle.mk_foot.specs.Keys.{spelling}
use Rattle.mk_foot.specs.declared.fault.FootFault.{FootFault}
use Rattle.mk_foot.specs.declared.fault.FootFault.TheVariants as foot
use Rattle.mk_graph.specs.declared.fault.GraphFault.{GraphFault}
use Rattle.mk_graph.specs.declared.fault.GraphFault.TheVariants as graph
use Rattle.mk_infer.specs.declared.fault.InferFault.{InferFault}
use Rattle.mk_infer.specs.declared.fault.InferFault.TheVariants as infer
use Rattle.mk_lines.specs.declared.fault.LineFault.{LineFault}
use Rattle.mk_lines.specs.declared.fault.LineFault.TheVariants as line
use Rattle.mk_macros.specs.declared.fault.MacroFault.{MacroFault}
use Rattle.mk_macros.specs.declared.fault.MacroFault.TheVariants as macro
use Rattle.mk_read.specs.declared.fault.KindFault.{KindFault}
use Rattle.mk_read.specs.declared.fault.KindFault.TheVariants as kind
use Rattle.mk_read.specs.declared.fault.Place.{Place}
use Rattle.mk_read.specs.declared.fault.ReadFault.{ReadFault}
use Rattle.mk_read.specs.declared.fault.ReadFault.TheVariants as read
use Rattle.mk_cert_text.specs.Keys as key
use Rattle.mk_cert_text.specs.declared.fault.CertTextFault.{CertTextFault}
use Rattle.mk_cert_text.specs.declared.fault.CertTextFault.TheVariants as ways
use Rattle.mk_world.specs.declared.fault.StepFault.{StepFault}
use Rattle.mk_world.specs.declared.fault.StepFault.TheVariants as step
use Rattle.mk_world.specs.declared.plan.PlanFault.{PlanFault}
use Rattle.mk_world.specs.declared.plan.PlanFault.TheVariants as plan
use Rattle.mk_core_text.specs.declared.fault.Fault.{Fault}
use Rattle.mk_core_text.specs.declared.refusal.Form.{Form}
use Rattle.mk_core_text.specs.declared.refusal.Form.TheVariants.{InWords, Numbered}
use Rattle.mk_core_text.specs.declared.fault.Fault.TheVariants.{Read, Infer, Foot, Plan, Certificate, Verify, FileReadFailed, NoFile, Memory}

-- A place as `FILE:LINE`.
abbrev pub place_text : Place → List ℕ
place_text place = place.file ++ 58 ∷ decimal place.line

-- Each word after a space.
abbrev pub words_text : List (List ℕ) → List ℕ
words_text words = flat_map (λ word. 32 ∷ word) words

-- `refused`, the number, the place if there is one, and the words, each after a space.
abbrev pub numbered : ℕ → Option (List ℕ) → List (List ℕ) → List ℕ
numbered number place words =
    codes "refused " ++ (decimal number ++ words_text (option_to_list place ++ words))

-- The place with `: `, if there is one.
abbrev pub place_part : Option (List ℕ) → List ℕ
place_part None = []
place_part (Some place) = place ++ codes ": "

-- `:` and each word after a space, if there are any.
abbrev pub words_part : List (List ℕ) → List ℕ
words_part [] = []
words_part (word ∷ words) = 58 ∷ words_text (word ∷ words)

-- The place, the name, the number in brackets, the words, and the sentence of the fault with this
-- name.
abbrev pub in_words : ℕ → List ℕ → Option (List ℕ) → List (List ℕ) → List ℕ
in_words number name place words =
    place_part place ++
    (name ++
    (codes " (" ++
    (decimal number ++
    (41 ∷ (words_part words ++ (codes ": " ++ unwrap_or (named_sentence name) []))))))

-- The refusal in this form by the fault with this number and this name.
unfoldable pub refusal : Form → ℕ → List ℕ → Option (List ℕ) → List (List ℕ) → List ℕ
refusal Numbered number name place words = numbered number place words
refusal InWords number name place words = in_words number name place words

-- The text that is printed for out of memory.
abbrev pub no_memory : List ℕ
no_memory = codes "want of memory"

-- A refusal with a place and no words.
abbrev pub refusal_at : Form → ℕ → List ℕ → Place → List ℕ
refusal_at form number name place = refusal form number name (Some (place_text place)) []

-- A refusal with a place and one word.
abbrev pub refusal_of : Form → ℕ → List ℕ → Place → List ℕ → List ℕ
refusal_of form number name place word =
    refusal form number name (Some (place_text place)) (word ∷ [])

-- A refusal with a place and a word that is printed only in words.
abbrev pub refusal_about : Form → ℕ → List ℕ → Place → List ℕ → List ℕ
refusal_about Numbered number name place word = refusal_at Numbered number name place
refusal_about InWords number name place word = refusal_of InWords number name place word

-- A refusal with a line of this file and no words.
abbrev pub refusal_in : Form → ℕ → List ℕ → List ℕ → ℕ → List ℕ
refusal_in form number name file first =
    refusal_at form number name (record { file = file; line = first })

-- A refusal with these words and no place.
abbrev pub refusal_with : Form → ℕ → List ℕ → List (List ℕ) → List ℕ
refusal_with form number name words = refusal form number name None words

-- A refusal with these words and with a place, if any, that is printed only in words.
abbrev pub refusal_near : Form → ℕ → List ℕ → Option Place → List (List ℕ) → List ℕ
refusal_near Numbered number name place words = refusal_with Numbered number name words
refusal_near InWords number name place words =
    refusal InWords number name (option_map place_text place) words

-- The text of a fault of a text's lines (1 to 3).
abbrev pub line_fault_text : Form → List ℕ → LineFault → List ℕ
line_fault_text form file (line.NulByte first) = refusal_in form 1 (codes "NulByte") file first
line_fault_text form file (line.LineTooLong first) =
    refusal_in form 2 (codes "LineTooLong") file first
line_fault_text form file (line.TooManyLines first) =
    refusal_in form 3 (codes "TooManyLines") file first
line_fault_text form file line.Memory = no_memory

-- The text of a fault of a macro (11 to 17).
abbrev pub macro_fault_text : Form → Place → MacroFault → List ℕ
macro_fault_text form place macro.BadMacroName = refusal_at form 11 (codes "BadMacroName") place
macro_fault_text form place (macro.Recursive name) =
    refusal_of form 12 (codes "Recursive") place name
macro_fault_text form place macro.Unclosed = refusal_at form 13 (codes "Unclosed") place
macro_fault_text form place macro.TooManyReferences =
    refusal_at form 14 (codes "TooManyReferences") place
macro_fault_text form place macro.ValueTooLong = refusal_at form 15 (codes "ValueTooLong") place
macro_fault_text form place macro.LoneDollar = refusal_at form 16 (codes "LoneDollar") place
macro_fault_text form place macro.MemberMacro = refusal_at form 17 (codes "MemberMacro") place
macro_fault_text form place macro.Memory = no_memory

-- The text of a fault of a line's kind (21 to 25).
abbrev pub kind_fault_text : Form → Place → KindFault → List ℕ
kind_fault_text form place kind.ShellAssign = refusal_at form 21 (codes "ShellAssign") place
kind_fault_text form place kind.ColonAssign = refusal_at form 22 (codes "ColonAssign") place
kind_fault_text form place kind.DoubleColon = refusal_at form 23 (codes "DoubleColon") place
kind_fault_text form place kind.TargetMacro = refusal_at form 24 (codes "TargetMacro") place
kind_fault_text form place kind.NotALine = refusal_at form 25 (codes "NotALine") place
kind_fault_text form place kind.Memory = no_memory

-- The text of a fault of a makefile (1 to 37).
unfoldable pub read_fault_text : Form → ReadFault → List ℕ
read_fault_text form (read.Line file fault) = line_fault_text form file fault
read_fault_text form (read.Macro place fault) = macro_fault_text form place fault
read_fault_text form (read.Kind place fault) = kind_fault_text form place fault
read_fault_text form (read.StrayCommand place) = refusal_at form 26 (codes "StrayCommand") place
read_fault_text form (read.BadName place word) = refusal_about form 27 (codes "BadName") place word
read_fault_text form (read.BadMakefileName name) =
    refusal_with form 27 (codes "BadMakefileName") (name ∷ [])
read_fault_text form (read.ArchiveMember place word) =
    refusal_about form 28 (codes "ArchiveMember") place word
read_fault_text form (read.UnknownSpecial place) = refusal_at form 29 (codes "UnknownSpecial") place
read_fault_text form (read.SpecialShape place) = refusal_at form 30 (codes "SpecialShape") place
read_fault_text form (read.TwoRecipes place target) =
    refusal_of form 31 (codes "TwoRecipes") place target
read_fault_text form (read.IncludeMissing place name) =
    refusal_of form 32 (codes "IncludeMissing") place name
read_fault_text form (read.IncludeDepth place) = refusal_at form 33 (codes "IncludeDepth") place
read_fault_text form (read.IncludeEmpty place) = refusal_at form 34 (codes "IncludeEmpty") place
read_fault_text form (read.ReadFailed place name) =
    refusal form 35 (codes "ReadFailed") (option_map place_text place) (name ∷ [])
read_fault_text form (read.TooManyFiles place) = refusal_at form 36 (codes "TooManyFiles") place
read_fault_text form (read.NoMakefile name) =
    refusal_with form 37 (codes "NoMakefile") (option_to_list name)
read_fault_text form read.Memory = no_memory

-- The text of a fault of a graph (42, 43), which has this place, if any.
abbrev pub graph_fault_text : Form → Option Place → GraphFault → List ℕ
graph_fault_text form place (graph.Cycle names) =
    refusal_near form 42 (codes "Cycle") place names
graph_fault_text form place graph.TooManyNodes = refusal_with form 43 (codes "TooManyNodes") []
graph_fault_text form place graph.Memory = no_memory

-- The text of a fault of goals, of their graph, or of commands (11 to 17, 27, 28, 41 to 45).
unfoldable pub infer_fault_text : Form → InferFault → List ℕ
infer_fault_text form (infer.BadGoal place) = refusal_at form 27 (codes "BadGoal") place
infer_fault_text form (infer.GoalIsMember place) = refusal_at form 28 (codes "GoalIsMember") place
infer_fault_text form (infer.NoRule name place) =
    refusal_near form 41 (codes "NoRule") place (name ∷ [])
infer_fault_text form infer.NoGoal = refusal_with form 44 (codes "NoGoal") []
infer_fault_text form (infer.InferencePrerequisites place) =
    refusal_at form 45 (codes "InferencePrerequisites") place
infer_fault_text form (infer.Macro place fault) = macro_fault_text form place fault
infer_fault_text form (infer.Graph fault place) = graph_fault_text form place fault
infer_fault_text form infer.Memory = no_memory

-- The text of a fault of footprints (51 to 58).
unfoldable pub foot_fault_text : Form → FootFault → List ℕ
foot_fault_text form foot.NotJson = refusal_with form 51 (codes "NotJson") []
foot_fault_text form (foot.Shape key) = refusal_with form 52 (codes "Shape") (spelling key ∷ [])
foot_fault_text form foot.OtherFormat = refusal_with form 53 (codes "OtherFormat") []
foot_fault_text form (foot.TwoRecords target) =
    refusal_with form 54 (codes "TwoRecords") (target ∷ [])
foot_fault_text form (foot.BadName key) =
    refusal_with form 55 (codes "BadFootprintName") (spelling key ∷ [])
foot_fault_text form (foot.SourceIsFixed name) =
    refusal_with form 56 (codes "SourceIsFixed") (name ∷ [])
foot_fault_text form foot.NoGroup = refusal_with form 57 (codes "NoGroup") []
foot_fault_text form foot.NoList = refusal_with form 58 (codes "NoList") []
foot_fault_text form foot.Memory = no_memory

-- A refusal of a line of a plan.
abbrev pub refusal_of_line : Form → ℕ → List ℕ → ℕ → List ℕ
refusal_of_line form number name line =
    refusal_with form number name (codes "line" ∷ decimal line ∷ [])

-- The text of a fault of a plan (69).
abbrev pub plan_fault_text : Form → PlanFault → List ℕ
plan_fault_text form (plan.Line line) = refusal_of_line form 69 (codes "BadPlanLine") line
plan_fault_text form plan.Memory = no_memory

-- The text of a fault of a certificate's text (71, 72).
abbrev pub certificate_fault_text : Form → CertTextFault → List ℕ
certificate_fault_text form ways.NotJson = refusal_with form 71 (codes "CertificateNotJson") []
certificate_fault_text form (ways.Shape k) =
    refusal_with form 72 (codes "CertificateShape") (key.spelling k ∷ [])
certificate_fault_text form ways.Memory = no_memory

-- The text of why a certificate isn't accepted (73 to 76).
abbrev pub verify_fault_text : Form → CertFault → List ℕ
verify_fault_text form cert.OtherGoals = refusal_with form 73 (codes "OtherGoals") []
verify_fault_text form (cert.NoWay recipe file) =
    refusal_with form 74 (codes "NoWay") (recipe ∷ file ∷ [])
verify_fault_text form (cert.BadWay recipe file) =
    refusal_with form 75 (codes "BadWay") (recipe ∷ file ∷ [])
verify_fault_text form (cert.Static found) =
    refusal_with form 76 (codes "Static") (finding.text found ∷ [])
verify_fault_text form cert.Memory = no_memory

-- The text of why a step refuses this line of a plan (59 to 70, 77, 78).
unfoldable pub step_fault_text_in : Form → ℕ → StepFault → List ℕ
step_fault_text_in form line step.ClockSpent = refusal_of_line form 59 (codes "ClockSpent") line
step_fault_text_in form line step.OtherOutcome = refusal_of_line form 60 (codes "OtherOutcome") line
step_fault_text_in form line step.NoMake = refusal_of_line form 61 (codes "NoMake") line
step_fault_text_in form line step.MakeRuns = refusal_of_line form 62 (codes "MakeRuns") line
step_fault_text_in form line step.NotReady = refusal_of_line form 63 (codes "NotReady") line
step_fault_text_in form line step.NoJobFree = refusal_of_line form 64 (codes "NoJobFree") line
step_fault_text_in form line step.OutOfDate = refusal_of_line form 65 (codes "OutOfDate") line
step_fault_text_in form line step.NotRunning = refusal_of_line form 66 (codes "NotRunning") line
step_fault_text_in form line step.NotInFootprint =
    refusal_of_line form 67 (codes "NotInFootprint") line
step_fault_text_in form line step.NotAllDone = refusal_of_line form 68 (codes "NotAllDone") line
step_fault_text_in form line step.PlanLine = refusal_of_line form 69 (codes "PlanLine") line
step_fault_text_in form line step.NotEditable = refusal_of_line form 70 (codes "NotEditable") line
step_fault_text_in form line step.NotAGoal = refusal_of_line form 77 (codes "NotAGoal") line
step_fault_text_in form line step.NotLeftToRun =
    refusal_of_line form 78 (codes "NotLeftToRun") line
step_fault_text_in form line step.Memory = no_memory

-- The text of a fault, without a newline.
unfoldable pub fault_text_in : Form → Fault → List ℕ
fault_text_in form (Read fault) = read_fault_text form fault
fault_text_in form (Infer fault) = infer_fault_text form fault
fault_text_in form (Foot fault) = foot_fault_text form fault
fault_text_in form (Plan fault) = plan_fault_text form fault
fault_text_in form (Certificate fault) = certificate_fault_text form fault
fault_text_in form (Verify fault) = verify_fault_text form fault
fault_text_in form (FileReadFailed name) = refusal_with form 35 (codes "FileReadFailed") (name ∷ [])
fault_text_in form (NoFile name) = refusal_with form 38 (codes "NoFile") (name ∷ [])
fault_text_in form Memory = no_memory

-- The text of why a step refuses this line of a plan, with numbers.
unfoldable pub step_fault_text : ℕ → StepFault → List ℕ
step_fault_text line fault = step_fault_text_in Numbered line fault

-- The text of why a step refuses this line of a plan, in words.
unfoldable pub step_fault_words : ℕ → StepFault → List ℕ
step_fault_words line fault = step_fault_text_in InWords line fault

-- The text of a fault with numbers, without a newline.
unfoldable pub fault_text : Fault → List ℕ
fault_text fault = fault_text_in Numbered fault

-- The text of a fault in words, without a newline.
unfoldable pub fault_words : Fault → List ℕ
fault_words fault = fault_text_in InWords fault
