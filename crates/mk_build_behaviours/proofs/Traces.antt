-- Traces in which footprints are present at the begin of each make: each make is right, and none disturbs a recipe.
use Rattle.std.proofs.Common.{ℕ, List, [], ◌∷◌}
use Rattle.mk_graph.specs.Graph.{Graph, IsGraph}
use Rattle.mk_build.specs.Setting.{Setting}
use Rattle.mk_build.specs.World.{Disk, Making, World, Idle, Busy}
use Rattle.mk_build.specs.Clean.{Contents, given_contents}
use Rattle.mk_build.specs.Steps.{Step, Edit, Make, Begin, Look, Put, End, Break, Pass, Stop, EndMake}
use Rattle.mk_build.specs.BuildLaws.{IsInside}
use Rattle.mk_build.specs.Right.{AreSound, HaveNoRace, HaveWays}
use Rattle.mk_build_behaviours.specs.Behaviours.{Behaviours}
use Rattle.mk_build_behaviours.specs.CleanBy.{IsRightBy}
use Rattle.mk_build_behaviours.specs.StepsBy.{AllowedBy, after_by, IsLegalBy, after_all_by, IsUndisturbed, AreUndisturbed}
use Rattle.mk_build_behaviours.specs.CoherentBy.{without_reads, IsCoherentBy}
use Rattle.mk_build_behaviours.specs.BehaviourLaws.{IsPresentAt, StayPresent}
use Rattle.mk_build_behaviours.proofs.CleanContents.{IsClean}
use Rattle.mk_build_behaviours.proofs.Following.{Follows, follow, undisturbed}
use Rattle.mk_build_behaviours.proofs.Present.{all_nodes, all_recipes, build, is_clean, begins, right_of}
use Rattle.mk_build_behaviours.proofs.Keeping.{reads_none, IsKept, keep}
use Rattle.mk_build_behaviours.proofs.Coherence.{other_reads, coherent_is_kept, coherent_in}

-- footprints that are sound are so without their reads
pub sound_without_reads : (g : Graph) (s : Setting) → AreSound g s → AreSound g (without_reads s)
sound_without_reads g s sound = record {
  target = sound.target;
  one_writer = sound.one_writer;
  not_given = sound.not_given;
  not_phony = sound.not_phony;
  not_own = λ t f read. absurd (reads_none g s t f read);
  known = λ t f read. absurd (reads_none g s t f read);
  not_loose = sound.not_loose;
}

module _ (g : Graph) (s : Setting) (b : Behaviours) (graph : IsGraph g) (sound : AreSound g s) (no_race : HaveNoRace g s) (ways : HaveWays g s) where
  -- A make in progress follows one of today's world, over some clean contents.
  record Goes (m : Making) (d : Disk) : Type 0 where
    given : Contents
    clean : Contents
    is : IsClean g s b given clean (all_nodes g graph)
    follows : Follows g s b graph sound no_race ways given clean (all_nodes g graph) is (all_recipes g graph s sound) m d

  -- in a world
  abbrev GoesIn : World → Type 0
  GoesIn (Idle d) = Unit {0}
  GoesIn (Busy m d) = Goes m d

  -- a make that begins, if footprints are present
  goes_first : (d : Disk) (jobs : ℕ) (goals : List ℕ) → IsKept g s b (Idle d) → AllowedBy g s b (Idle d) (Make jobs goals) → IsPresentAt g s b (Idle d) (Make jobs goals) → GoesIn (after_by g s (Idle d) (Make jobs goals))
  goes_first d jobs goals kept may present =
      let coherent : IsCoherentBy g s b d = coherent_in g s b (Idle d) kept in
      record {
        given = given_contents s d;
        clean = (build g s b graph sound no_race ways d coherent present jobs goals may.1).0;
        is = is_clean g s b graph sound no_race ways d coherent present jobs goals may.1;
        follows = begins g s b graph sound no_race ways d coherent present jobs goals may.1;
      }

  -- a step inside of one
  goes_on : (m : Making) (d : Disk) (step : Step) → IsInside step → Goes m d → AllowedBy g s b (Busy m d) step → GoesIn (after_by g s (Busy m d) step)
  goes_on m d (Edit f c) inside goes may = absurd inside
  goes_on m d (Make jobs goals) inside goes may = absurd inside
  goes_on m d (Begin t) inside goes may = record { given = goes.given; clean = goes.clean; is = goes.is; follows = follow g s b graph sound no_race ways goes.given goes.clean (all_nodes g graph) goes.is (all_recipes g graph s sound) m d goes.follows (Begin t) inside may }
  goes_on m d (Look t f) inside goes may = record { given = goes.given; clean = goes.clean; is = goes.is; follows = follow g s b graph sound no_race ways goes.given goes.clean (all_nodes g graph) goes.is (all_recipes g graph s sound) m d goes.follows (Look t f) inside may }
  goes_on m d (Put t f c) inside goes may = record { given = goes.given; clean = goes.clean; is = goes.is; follows = follow g s b graph sound no_race ways goes.given goes.clean (all_nodes g graph) goes.is (all_recipes g graph s sound) m d goes.follows (Put t f c) inside may }
  goes_on m d (End t) inside goes may = record { given = goes.given; clean = goes.clean; is = goes.is; follows = follow g s b graph sound no_race ways goes.given goes.clean (all_nodes g graph) goes.is (all_recipes g graph s sound) m d goes.follows (End t) inside may }
  goes_on m d (Break t removed) inside goes may = record { given = goes.given; clean = goes.clean; is = goes.is; follows = follow g s b graph sound no_race ways goes.given goes.clean (all_nodes g graph) goes.is (all_recipes g graph s sound) m d goes.follows (Break t removed) inside may }
  goes_on m d (Pass n) inside goes may = record { given = goes.given; clean = goes.clean; is = goes.is; follows = follow g s b graph sound no_race ways goes.given goes.clean (all_nodes g graph) goes.is (all_recipes g graph s sound) m d goes.follows (Pass n) inside may }
  goes_on m d Stop inside goes may = absurd inside
  goes_on m d EndMake inside goes may = absurd inside

  -- each step
  goes_after : (w : World) (step : Step) → IsKept g s b w → GoesIn w → IsPresentAt g s b w step → AllowedBy g s b w step → GoesIn (after_by g s w step)
  goes_after (Idle d) (Edit f c) kept goes present may = tt
  goes_after (Idle d) (Make jobs goals) kept goes present may = goes_first d jobs goals kept may present
  goes_after (Idle d) (Begin t) kept goes present may = absurd may
  goes_after (Idle d) (Look t f) kept goes present may = absurd may
  goes_after (Idle d) (Put t f c) kept goes present may = absurd may
  goes_after (Idle d) (End t) kept goes present may = absurd may
  goes_after (Idle d) (Break t removed) kept goes present may = absurd may
  goes_after (Idle d) (Pass t) kept goes present may = absurd may
  goes_after (Idle d) Stop kept goes present may = absurd may
  goes_after (Idle d) EndMake kept goes present may = absurd may
  goes_after (Busy m d) (Edit f c) kept goes present may = absurd may
  goes_after (Busy m d) (Make jobs goals) kept goes present may = absurd may
  goes_after (Busy m d) (Begin t) kept goes present may = goes_on m d (Begin t) tt goes may
  goes_after (Busy m d) (Look t f) kept goes present may = goes_on m d (Look t f) tt goes may
  goes_after (Busy m d) (Put t f c) kept goes present may = goes_on m d (Put t f c) tt goes may
  goes_after (Busy m d) (End t) kept goes present may = goes_on m d (End t) tt goes may
  goes_after (Busy m d) (Break t removed) kept goes present may = goes_on m d (Break t removed) tt goes may
  goes_after (Busy m d) (Pass n) kept goes present may = goes_on m d (Pass n) tt goes may
  goes_after (Busy m d) Stop kept goes present may = tt
  goes_after (Busy m d) EndMake kept goes present may = tt

  -- none disturbs a recipe
  idle_is_still : (d : Disk) (step : Step) → IsUndisturbed g s b (Idle d) step
  idle_is_still d (Edit f c) = tt
  idle_is_still d (Make jobs goals) = tt
  idle_is_still d (Begin t) = tt
  idle_is_still d (Look t f) = tt
  idle_is_still d (Put t f c) = tt
  idle_is_still d (End t) = tt
  idle_is_still d (Break t removed) = tt
  idle_is_still d (Pass n) = tt
  idle_is_still d Stop = tt
  idle_is_still d EndMake = tt

  still : (w : World) (step : Step) → GoesIn w → AllowedBy g s b w step → IsUndisturbed g s b w step
  still (Idle d) step goes may = idle_is_still d step
  still (Busy m d) step goes may = undisturbed g s b graph sound no_race ways goes.given goes.clean (all_nodes g graph) goes.is (all_recipes g graph s sound) m d goes.follows step may

  -- nor do traces
  all_still : (w : World) (steps : List Step) → IsKept g s b w → GoesIn w → StayPresent g s b w steps → IsLegalBy g s b w steps → AreUndisturbed g s b w steps
  all_still w [] kept goes present legal = tt
  all_still w (first ∷ steps) kept goes present legal =
      let calm = still w first goes legal.0 in
      (calm, all_still (after_by g s w first) steps (keep g s b graph (sound_without_reads g s sound) w first kept legal.0 calm) (goes_after w first kept goes present.0 legal.0) present.1 legal.1)

  -- they end in a make that goes so, or in none
  all_go : (w : World) (steps : List Step) → IsKept g s b w → GoesIn w → StayPresent g s b w steps → IsLegalBy g s b w steps → GoesIn (after_all_by g s w steps)
  all_go w [] kept goes present legal = goes
  all_go w (first ∷ steps) kept goes present legal =
      all_go (after_by g s w first) steps (keep g s b graph (sound_without_reads g s sound) w first kept legal.0 (still w first goes legal.0)) (goes_after w first kept goes present.0 legal.0) present.1 legal.1

  -- in which its goals are built at its end
  right_in : (w : World) → GoesIn w → IsRightBy g s b w
  right_in (Idle d) goes = tt
  right_in (Busy m d) goes = right_of g s b graph sound no_race ways goes.given goes.clean goes.is m d goes.follows

  module _ (d : Disk) (coherent : IsCoherentBy g s b d) (steps : List Step) (legal : IsLegalBy g s b (Idle d) steps) (present : StayPresent g s b (Idle d) steps) where
    kept : IsKept g s b (Idle d)
    kept = coherent_is_kept g s b d (other_reads g s b (λ target. []) [] d coherent)

    pub present_traces_are_right : IsRightBy g s b (after_all_by g s (Idle d) steps)
    present_traces_are_right = right_in (after_all_by g s (Idle d) steps) (all_go (Idle d) steps kept tt present legal)

    pub present_traces_are_undisturbed : AreUndisturbed g s b (Idle d) steps
    present_traces_are_undisturbed = all_still (Idle d) steps kept tt present legal
