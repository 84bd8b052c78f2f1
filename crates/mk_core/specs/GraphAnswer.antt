-- The answer of the command `graph`.
use Rattle.std.specs.Prelude.{◌≡◌, ℕ, Bool, false, List, Result, Ok, Err}
use Rattle.mk_graph.specs.Graph.{Graph}
use Rattle.mk_infer.specs.Selection.{Selects}
use Rattle.mk_infer.specs.Steps.{is_out_of_memory}
use Rattle.mk_infer.specs.declared.fault.InferFault.{InferFault}
use Rattle.mk_core_text.specs.declared.fault.Fault.{Fault}
use Rattle.mk_core_text.specs.declared.fault.Fault.TheVariants.{Infer}
use Rattle.mk_core_text.specs.GraphText.{graph_text, shown_lines}
use Rattle.mk_core.specs.Ready.{Ready, exists}
use Rattle.mk_core.specs.Steps.{as_fault}

-- The text of the graph, with commands if they are asked for, or the fault of the selection. Out of
-- memory doesn't count as a selection.
abbrev pub Prints : Bool → Ready → Result Graph InferFault → Result (List ℕ) InferFault → Type 0
Prints asked ready (Ok g) text =
    text ≡ graph_text (shown_lines asked ready.makefile (exists ready)) g
Prints asked ready (Err fault) text = (is_out_of_memory fault ≡ false) × (text ≡ Err fault)

-- The text of the graph that is selected for the goals.
abbrev pub PrintsSelected : Bool → Ready → Result (List ℕ) InferFault → Type 0
PrintsSelected asked ready text =
    (selected : Result Graph InferFault) ×
    Selects ready.makefile (exists ready) ready.goals selected ×
    Prints asked ready selected text

-- The same, with its fault as one of a request.
abbrev pub AnswersGraph : Bool → Ready → Result (List ℕ) Fault → Type 0
AnswersGraph asked ready answer =
    (text : Result (List ℕ) InferFault) × PrintsSelected asked ready text ×
    (answer ≡ as_fault Infer text)
