-- What is answered where a plan is run.
use Rattle.std.proofs.Common.{ℕ, List, Result, Ok, Err, inl, inr, refl}
use Rattle.mk_graph.specs.Graph as value
use Rattle.mk_infer.specs.declared.fault.InferFault.{InferFault}
use Rattle.mk_read.specs.Files.{Told}
use Rattle.mk_core_text.specs.declared.fault.Fault.{Fault}
use Rattle.mk_core.specs.Ready.{Ready, exists}
use Rattle.mk_core.specs.Simulation.{Simulation}
use Rattle.mk_core.specs.Steps.{of_infer}
use Rattle.mk_core.specs.Views.{RunsTextOver, Selected, SimulatesOver}
use Rattle.mk_core.proofs.Faults.{by_infer}

module _ (files : Told) (plan : List ℕ) (ready : Ready) where
  -- the goals have no graph
  pub no_graph : (fault : InferFault) → Selected (exists ready) ready (Err fault) → SimulatesOver files plan ready (Err (of_infer fault))
  no_graph fault s = by_infer (λ f. SimulatesOver files plan ready (Err f)) fault (inl refl) (λ settled. inr (Err fault, s settled, (settled, refl)))

  -- they have one, and the plan is run
  pub over_graph : (g : value.Graph) → Selected (exists ready) ready (Ok g) → (answer : Result Simulation Fault) → RunsTextOver files plan g ready.setting answer → SimulatesOver files plan ready answer
  over_graph g s answer (inl k) = inl k
  over_graph g s answer (inr h) = inr (Ok g, s, h)
