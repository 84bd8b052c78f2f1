-- The number and the name of a fault, as its printed text has them.
use Rattle.std.specs.Prelude.{ℕ, List, codes}
use Rattle.mk_cert.specs.declared.fault.CertFault.{CertFault}
use Rattle.mk_cert.specs.declared.fault.CertFault.TheVariants as cert
use Rattle.mk_cert_text.specs.declared.fault.CertTextFault.{CertTextFault}
use Rattle.mk_cert_text.specs.declared.fault.CertTextFault.TheVariants as ways
use Rattle.mk_foot.specs.declared.fault.FootFault.{FootFault}
use Rattle.mk_foot.specs.declared.fault.FootFault.TheVariants as foot
use Rattle.mk_graph.specs.declared.fault.GraphFault.{GraphFault}
use Rattle.mk_graph.specs.declared.fault.GraphFault.TheVariants as graph
use Rattle.mk_infer.specs.declared.fault.InferFault.{InferFault}
use Rattle.mk_infer.specs.declared.fault.InferFault.TheVariants as infer
use Rattle.mk_lines.specs.declared.fault.LineFault.{LineFault}
use Rattle.mk_lines.specs.declared.fault.LineFault.TheVariants as line
use Rattle.mk_macros.specs.declared.fault.MacroFault.{MacroFault}
use Rattle.mk_macros.specs.declared.fault.MacroFault.TheVariants as macro
use Rattle.mk_read.specs.declared.fault.KindFault.{KindFault}
use Rattle.mk_read.specs.declared.fault.KindFault.TheVariants as kind
use Rattle.mk_read.specs.declared.fault.ReadFault.{ReadFault}
use Rattle.mk_read.specs.declared.fault.ReadFault.TheVariants as read
use Rattle.mk_world.specs.declared.plan.PlanFault.{PlanFault}
use Rattle.mk_world.specs.declared.plan.PlanFault.TheVariants as plan
use Rattle.mk_core_text.specs.declared.fault.Fault.{Fault}
use Rattle.mk_core_text.specs.declared.fault.Fault.TheVariants.{Read, Infer, Foot, Plan, Certificate, Verify, FileReadFailed, NoFile, Memory}

-- Out of memory is no refusal, and has neither.
abbrev pub no_name : ℕ × List ℕ
no_name = (0, codes "")

-- The number and the name of a fault of a text's lines.
abbrev pub line_name : LineFault → ℕ × List ℕ
line_name (line.NulByte first) = (1, codes "NulByte")
line_name (line.LineTooLong first) = (2, codes "LineTooLong")
line_name (line.TooManyLines first) = (3, codes "TooManyLines")
line_name line.Memory = no_name

-- The number and the name of a fault of a macro.
abbrev pub macro_name : MacroFault → ℕ × List ℕ
macro_name macro.BadMacroName = (11, codes "BadMacroName")
macro_name (macro.Recursive name) = (12, codes "Recursive")
macro_name macro.Unclosed = (13, codes "Unclosed")
macro_name macro.TooManyReferences = (14, codes "TooManyReferences")
macro_name macro.ValueTooLong = (15, codes "ValueTooLong")
macro_name macro.LoneDollar = (16, codes "LoneDollar")
macro_name macro.MemberMacro = (17, codes "MemberMacro")
macro_name macro.Memory = no_name

-- The number and the name of a fault of a line's kind.
abbrev pub kind_name : KindFault → ℕ × List ℕ
kind_name kind.ShellAssign = (21, codes "ShellAssign")
kind_name kind.ColonAssign = (22, codes "ColonAssign")
kind_name kind.DoubleColon = (23, codes "DoubleColon")
kind_name kind.TargetMacro = (24, codes "TargetMacro")
kind_name kind.NotALine = (25, codes "NotALine")
kind_name kind.Memory = no_name

-- The number and the name of a fault of a makefile.
abbrev pub read_name : ReadFault → ℕ × List ℕ
read_name (read.Line file fault) = line_name fault
read_name (read.Macro place fault) = macro_name fault
read_name (read.Kind place fault) = kind_name fault
read_name (read.StrayCommand place) = (26, codes "StrayCommand")
read_name (read.BadName place word) = (27, codes "BadName")
read_name (read.BadMakefileName name) = (27, codes "BadMakefileName")
read_name (read.ArchiveMember place word) = (28, codes "ArchiveMember")
read_name (read.UnknownSpecial place) = (29, codes "UnknownSpecial")
read_name (read.SpecialShape place) = (30, codes "SpecialShape")
read_name (read.TwoRecipes place target) = (31, codes "TwoRecipes")
read_name (read.IncludeMissing place name) = (32, codes "IncludeMissing")
read_name (read.IncludeDepth place) = (33, codes "IncludeDepth")
read_name (read.IncludeEmpty place) = (34, codes "IncludeEmpty")
read_name (read.ReadFailed place name) = (35, codes "ReadFailed")
read_name (read.TooManyFiles place) = (36, codes "TooManyFiles")
read_name (read.NoMakefile name) = (37, codes "NoMakefile")
read_name read.Memory = no_name

-- The number and the name of a fault of a graph.
abbrev pub graph_name : GraphFault → ℕ × List ℕ
graph_name (graph.Cycle names) = (42, codes "Cycle")
graph_name graph.TooManyNodes = (43, codes "TooManyNodes")
graph_name graph.Memory = no_name

-- The number and the name of a fault of goals, of their graph, or of commands.
abbrev pub infer_name : InferFault → ℕ × List ℕ
infer_name (infer.Macro place fault) = macro_name fault
infer_name (infer.Graph fault place) = graph_name fault
infer_name (infer.BadGoal place) = (27, codes "BadGoal")
infer_name (infer.GoalIsMember place) = (28, codes "GoalIsMember")
infer_name (infer.NoRule name place) = (41, codes "NoRule")
infer_name infer.NoGoal = (44, codes "NoGoal")
infer_name (infer.InferencePrerequisites place) = (45, codes "InferencePrerequisites")
infer_name infer.Memory = no_name

-- The number and the name of a fault of footprints.
abbrev pub foot_name : FootFault → ℕ × List ℕ
foot_name foot.NotJson = (51, codes "NotJson")
foot_name (foot.Shape key) = (52, codes "Shape")
foot_name foot.OtherFormat = (53, codes "OtherFormat")
foot_name (foot.TwoRecords target) = (54, codes "TwoRecords")
foot_name (foot.BadName key) = (55, codes "BadFootprintName")
foot_name (foot.SourceIsFixed name) = (56, codes "SourceIsFixed")
foot_name foot.NoGroup = (57, codes "NoGroup")
foot_name foot.NoList = (58, codes "NoList")
foot_name foot.Memory = no_name

-- The number and the name of a fault of a plan.
abbrev pub plan_name : PlanFault → ℕ × List ℕ
plan_name (plan.Line line) = (69, codes "BadPlanLine")
plan_name plan.Memory = no_name

-- The number and the name of a fault of a certificate's text.
abbrev pub certificate_name : CertTextFault → ℕ × List ℕ
certificate_name ways.NotJson = (71, codes "CertificateNotJson")
certificate_name (ways.Shape k) = (72, codes "CertificateShape")
certificate_name ways.Memory = no_name

-- The number and the name of why a certificate isn't accepted.
abbrev pub verify_name : CertFault → ℕ × List ℕ
verify_name cert.OtherGoals = (73, codes "OtherGoals")
verify_name (cert.NoWay recipe file) = (74, codes "NoWay")
verify_name (cert.BadWay recipe file) = (75, codes "BadWay")
verify_name (cert.Static found) = (76, codes "Static")
verify_name cert.Memory = no_name

-- The number and the name of a fault.
abbrev pub fault_name : Fault → ℕ × List ℕ
fault_name (Read fault) = read_name fault
fault_name (Infer fault) = infer_name fault
fault_name (Foot fault) = foot_name fault
fault_name (Plan fault) = plan_name fault
fault_name (Certificate fault) = certificate_name fault
fault_name (Verify fault) = verify_name fault
fault_name (FileReadFailed name) = (35, codes "FileReadFailed")
fault_name (NoFile name) = (38, codes "NoFile")
fault_name Memory = no_name
