-- Steps that are all allowed, taken in turn.
use Rattle.std.proofs.Common.{◌≡◌, List, Result, Ok, Err, refl, sym, ap, ◌∙◌, inl, inr, ◌⊎◌}
use Rattle.mk_graph.specs.Graph.{Graph}
use Rattle.mk_build.specs.Setting.{Setting}
use Rattle.mk_build.specs.World.{World}
use Rattle.mk_build.specs.Steps.{Step, IsLegal, after, after_all}
use Rattle.mk_world.specs.declared.fault.StepFault.{StepFault}
use Rattle.mk_world.specs.declared.fault.StepFault.TheVariants.{Memory}
use Rattle.mk_world.specs.Running.{TakesInTurn, ends, takes, refused}
use Rattle.mk_world.proofs.Fronts.{not_refused}

-- they are all taken, unless memory runs out
all_taken : (g : Graph) (s : Setting) (old new : World) (steps : List Step) (r : Result (Unit {0}) StepFault) → IsLegal g s old steps → TakesInTurn g s old new steps r → (r ≡ Err Memory) ⊎ ((r ≡ Ok tt) × (new ≡ after_all g s old steps))
all_taken g s old new steps r legal ends = inr (refl, refl)
all_taken g s old new steps r legal (takes {next = one} {steps = others} allowed more) = all_taken g s (after g s old one) new others r legal.1 more
all_taken g s old new steps r legal (refused (inl memory)) = inl (ap (λ f. Err f) memory)
all_taken g s old new steps r legal (refused {next = one} {fault = fault} (inr fails)) = absurd (not_refused g s old one fault legal.0 fails)

apart : (fault : StepFault) → let ok : Result (Unit {0}) StepFault = Ok tt in ok ≡ Err fault → ⊥
apart fault e = cc

same_fault : (a b : StepFault) → let one : Result (Unit {0}) StepFault = Err a in one ≡ Err b → a ≡ b
same_fault a b e = cc

module _ (g : Graph) (s : Setting) (old new : World) (steps : List Step) (r : Result (Unit {0}) StepFault) (legal : IsLegal g s old steps) (taken : TakesInTurn g s old new steps r) where
  -- where memory doesn't run out, the world is what they leave
  pub all_leave : r ≡ Ok tt → new ≡ after_all g s old steps
  all_leave is = elim (all_taken g s old new steps r legal taken) [ inl memory ↦ absurd (apart Memory (sym is ∙ memory)) | inr all ↦ all.1 ]

  -- and no other fault is answered
  pub no_fault : (fault : StepFault) → r ≡ Err fault → ¬ (fault ≡ Memory) → ⊥
  no_fault fault is other = elim (all_taken g s old new steps r legal taken) [ inl memory ↦ other (same_fault fault Memory (sym is ∙ memory)) | inr all ↦ apart fault (sym all.0 ∙ is) ]
