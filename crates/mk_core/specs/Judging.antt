-- The answers of commands that judge a build.
use Rattle.std.specs.Prelude.{◌≡◌, ◌⊎◌, false, Result, Err}
use Rattle.mk_subject.specs.NodeRow.{IsFirstFault}
use Rattle.mk_subject.specs.Subject.{Subject, IsSubject, subject_of}
use Rattle.mk_graph.specs.Graph.{Graph, IsGraph}
use Rattle.mk_graph.specs.Serial.{serial_order}
use Rattle.mk_infer.specs.Selection.{Selects}
use Rattle.mk_infer.specs.There.{Exists}
use Rattle.mk_infer.specs.declared.fault.InferFault.{InferFault}
use Rattle.mk_core_text.specs.declared.fault.Fault.{Fault}
use Rattle.mk_core_text.specs.declared.fault.Fault.TheVariants.{Infer}
use Rattle.mk_core.specs.Ready.{Ready, exists}
use Rattle.mk_core.specs.Selected.{DrawsGraph}

-- The files that exist before a make by the footprint file and the makefile alone; no other name is
-- given.
abbrev pub recorded : Ready → Exists
recorded ready = record (exists ready) { any_leaf = false }

-- The subject for a graph of the prepared request.
abbrev pub subject_over : Ready → Graph → Subject
subject_over ready g = subject_of ready.makefile (recorded ready) g ready.setting

-- The answer to a subject if the commands of each node have no fault; else the fault of the first
-- node, in the serial order, whose commands have one.
abbrev pub AnswersTold : {A : Type 0} → (Subject → Result A Fault → Type 0) → Subject →
    Result A Fault → Type 0
AnswersTold judges x answer =
    (IsGraph x.graph × IsSubject x × judges x answer) ⊎
    ((fault : InferFault) × IsFirstFault x (serial_order x.graph) fault ×
    (answer ≡ Err (Infer fault)))

-- The graph is the one selected by the footprint file and the makefile, and the answer is the one
-- to its subject, or the fault of the selection.
abbrev pub AnswersJudged : {A : Type 0} → (Subject → Result A Fault → Type 0) → Ready →
    Result A Fault → Type 0
AnswersJudged judges ready answer =
    (selected : Result Graph InferFault) ×
    Selects ready.makefile (recorded ready) ready.goals selected ×
    DrawsGraph (λ g answer. AnswersTold judges (subject_over ready g) answer) selected answer
