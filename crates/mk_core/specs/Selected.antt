-- The answer of a command to the graph that is selected for the goals.
use Rattle.std.specs.Prelude.{◌≡◌, false, Result, Ok, Err}
use Rattle.mk_graph.specs.Graph.{Graph}
use Rattle.mk_infer.specs.Selection.{Selects}
use Rattle.mk_infer.specs.Steps.{is_out_of_memory}
use Rattle.mk_infer.specs.declared.fault.InferFault.{InferFault}
use Rattle.mk_core_text.specs.declared.fault.Fault.{Fault}
use Rattle.mk_core_text.specs.declared.fault.Fault.TheVariants.{Infer}
use Rattle.mk_core.specs.Ready.{Ready, exists}

-- The command's answer to the graph, or the fault of the selection. Out of memory doesn't count as
-- a selection.
abbrev pub DrawsGraph : {A : Type 0} → (Graph → Result A Fault → Type 0) →
    Result Graph InferFault → Result A Fault → Type 0
DrawsGraph answers (Ok g) answer = answers g answer
DrawsGraph answers (Err fault) answer =
    (is_out_of_memory fault ≡ false) × (answer ≡ Err (Infer fault))

-- The command's answer to the graph that is selected for the goals, or the fault of the selection.
abbrev pub AnswersSelected : {A : Type 0} → (Ready → Graph → Result A Fault → Type 0) →
    Ready → Result A Fault → Type 0
AnswersSelected answers ready answer =
    (selected : Result Graph InferFault) ×
    Selects ready.makefile (exists ready) ready.goals selected ×
    DrawsGraph (answers ready) selected answer
