-- Traces by behaviours don't depend on what footprints say is read.
use Rattle.std.proofs.Common.{◌≡◌, List, [], ◌∷◌, true, false, refl, sym, ◌∙◌, ap, subst}
use Rattle.mk_graph.specs.Graph.{Graph}
use Rattle.mk_build.specs.Setting.{FileName, Setting}
use Rattle.mk_build.specs.World.{World, Idle, Busy}
use Rattle.mk_build.specs.Steps.{Step, Edit, Make, Begin, Look, Put, End, Break, Pass, Stop, EndMake}
use Rattle.mk_build_behaviours.specs.Behaviours.{Behaviours}
use Rattle.mk_build_behaviours.specs.StepsBy.{AllowedBy, after_by, IsLegalBy, after_all_by, IsUndisturbed, AreUndisturbed}
use Rattle.mk_build_behaviours.specs.CoherentBy.{with_reads}

module _ (g : Graph) (s : Setting) (b : Behaviours) (footprints : FileName → List FileName) where
  -- the setting with other reads
  abbrev other : Setting
  other = with_reads s footprints

  -- a step that is allowed is allowed
  allowed : (w : World) (step : Step) → AllowedBy g s b w step → AllowedBy g other b w step
  allowed (Idle d) (Edit f c) may = may
  allowed (Idle d) (Make jobs goals) may = may
  allowed (Idle d) (Begin t) may = absurd may
  allowed (Idle d) (Look t f) may = absurd may
  allowed (Idle d) (Put t f c) may = absurd may
  allowed (Idle d) (End t) may = absurd may
  allowed (Idle d) (Break t removed) may = absurd may
  allowed (Idle d) (Pass n) may = absurd may
  allowed (Idle d) Stop may = absurd may
  allowed (Idle d) EndMake may = absurd may
  allowed (Busy m d) (Edit f c) may = absurd may
  allowed (Busy m d) (Make jobs goals) may = absurd may
  allowed (Busy m d) (Begin t) may = may
  allowed (Busy m d) (Look t f) may = may
  allowed (Busy m d) (Put t f c) may = may
  allowed (Busy m d) (End t) may = record { runs = may.runs; seen = may.seen; put = may.put; agrees = may.agrees }
  allowed (Busy m d) (Break t true) may = may
  allowed (Busy m d) (Break t false) may = may
  allowed (Busy m d) (Pass n) may = may
  allowed (Busy m d) Stop may = may
  allowed (Busy m d) EndMake may = may

  -- and leaves the same world
  leaves : (w : World) (step : Step) → after_by g other w step ≡ after_by g s w step
  leaves (Idle d) (Edit f c) = refl
  leaves (Idle d) (Make jobs goals) = refl
  leaves (Idle d) (Begin t) = refl
  leaves (Idle d) (Look t f) = refl
  leaves (Idle d) (Put t f c) = refl
  leaves (Idle d) (End t) = refl
  leaves (Idle d) (Break t removed) = refl
  leaves (Idle d) (Pass n) = refl
  leaves (Idle d) Stop = refl
  leaves (Idle d) EndMake = refl
  leaves (Busy m d) (Edit f c) = refl
  leaves (Busy m d) (Make jobs goals) = refl
  leaves (Busy m d) (Begin t) = refl
  leaves (Busy m d) (Look t f) = refl
  leaves (Busy m d) (Put t f c) = refl
  leaves (Busy m d) (End t) = refl
  leaves (Busy m d) (Break t removed) = refl
  leaves (Busy m d) (Pass n) = refl
  leaves (Busy m d) Stop = refl
  leaves (Busy m d) EndMake = refl

  -- and is undisturbed if it was
  still : (w : World) (step : Step) → IsUndisturbed g s b w step → IsUndisturbed g other b w step
  still (Idle d) (Edit f c) calm = calm
  still (Idle d) (Make jobs goals) calm = calm
  still (Idle d) (Begin t) calm = calm
  still (Idle d) (Look t f) calm = calm
  still (Idle d) (Put t f c) calm = calm
  still (Idle d) (End t) calm = calm
  still (Idle d) (Break t removed) calm = calm
  still (Idle d) (Pass n) calm = calm
  still (Idle d) Stop calm = calm
  still (Idle d) EndMake calm = calm
  still (Busy m d) (Edit f c) calm = calm
  still (Busy m d) (Make jobs goals) calm = calm
  still (Busy m d) (Begin t) calm = calm
  still (Busy m d) (Look t f) calm = calm
  still (Busy m d) (Put t f c) calm = calm
  still (Busy m d) (End t) calm = calm
  still (Busy m d) (Break t removed) calm = calm
  still (Busy m d) (Pass n) calm = calm
  still (Busy m d) Stop calm = calm
  still (Busy m d) EndMake calm = calm

  -- so are traces
  pub legal_with : (w : World) (steps : List Step) → IsLegalBy g s b w steps → IsLegalBy g other b w steps
  legal_with w [] legal = tt
  legal_with w (first ∷ steps) legal = (allowed w first legal.0, subst (λ (k : World). IsLegalBy g other b k steps) (sym (leaves w first)) (legal_with (after_by g s w first) steps legal.1))

  pub still_with : (w : World) (steps : List Step) → AreUndisturbed g s b w steps → AreUndisturbed g other b w steps
  still_with w [] calm = tt
  still_with w (first ∷ steps) calm = (still w first calm.0, subst (λ (k : World). AreUndisturbed g other b k steps) (sym (leaves w first)) (still_with (after_by g s w first) steps calm.1))

  pub leaves_with : (w : World) (steps : List Step) → after_all_by g other w steps ≡ after_all_by g s w steps
  leaves_with w [] = refl
  leaves_with w (first ∷ steps) = ap (λ (k : World). after_all_by g other k steps) (leaves w first) ∙ leaves_with (after_by g s w first) steps
