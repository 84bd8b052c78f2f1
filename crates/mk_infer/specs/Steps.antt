-- Results in sequence: the first fault is the result.
use Rattle.std.specs.Prelude.{Bool, true, false, Result, Ok, Err}
use Rattle.mk_graph.specs.declared.fault.GraphFault.{GraphFault}
use Rattle.mk_graph.specs.declared.fault.GraphFault.TheVariants as graph
use Rattle.mk_macros.specs.declared.fault.MacroFault.{MacroFault}
use Rattle.mk_macros.specs.declared.fault.MacroFault.TheVariants as macro
use Rattle.mk_read.specs.declared.fault.Place.{Place}
use Rattle.mk_read.specs.Reading.{Makefile}
use Rattle.mk_infer.specs.Needed.{place_of_graph}
use Rattle.mk_infer.specs.declared.fault.InferFault.{InferFault}
use Rattle.mk_infer.specs.declared.fault.InferFault.TheVariants.{Macro, Graph, Memory}
pub use Rattle.mk_lines.specs.Results.{◌>>=◌}
use Rattle.mk_lines.specs.Results as results

-- the fault is out of memory, at any depth
abbrev pub is_out_of_memory : InferFault → Bool
is_out_of_memory Memory = true
is_out_of_memory (Macro place macro.Memory) = true
is_out_of_memory (Graph graph.Memory place) = true
is_out_of_memory fault = false

-- a fault of a macro becomes one at this place
abbrev pub at_place : {A : Type 0} → Place → Result A MacroFault → Result A InferFault
at_place place (Ok x) = Ok x
at_place place (Err fault) = Err (Macro place fault)

-- a fault of the graph of this makefile becomes one of goals; out of memory stays `Memory`
abbrev pub of_graph : Makefile → GraphFault → InferFault
of_graph m graph.Memory = Memory
of_graph m fault = Graph fault (place_of_graph m fault)

-- the fault is the defined one, or out of memory
abbrev pub Fails : {Y : Type 0} → InferFault → Result Y InferFault → Type 0
Fails = results.Fails Memory

-- A call returned what is defined, seen by `view`, or ran out of memory.
abbrev pub Gives : {X Y : Type 0} → (X → Y) → Result X InferFault → Result Y InferFault → Type 0
Gives = results.Gives Memory
