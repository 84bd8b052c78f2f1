-- An accepted build is right across sources.
use Rattle.std.proofs.Common.{subst}
use Rattle.mk_graph.specs.Graph.{Graph, IsGraph}
use Rattle.mk_build.specs.Setting.{Setting}
use Rattle.mk_build.specs.World.{World}
use Rattle.mk_build.specs.Right.{AreSound, HaveNoRace, HaveWays}
use Rattle.mk_build_behaviours.specs.CoherentBy.{without_reads, HasCoherentDiskBy}
use Rattle.mk_build_behaviours.specs.BehaviourLaws.{StartIsCoherentBy, CoherenceIsKeptBy, PresentFootprintsSuffice, PresentMakesAreUndisturbed}
use Rattle.mk_build_behaviours.proofs.Keeping.{reads_none}
use Rattle.mk_core_lasting.specs.Lasting.{IsLasting}

-- what recipes write is sound, whatever they read
writes_are_sound : (g : Graph) (s : Setting) → AreSound g s → AreSound g (without_reads s)
writes_are_sound g s sound = record {
  target = sound.target;
  one_writer = sound.one_writer;
  not_given = sound.not_given;
  not_phony = sound.not_phony;
  not_own = λ t f read. absurd (reads_none g s t f read);
  known = λ t f read. absurd (reads_none g s t f read);
  not_loose = sound.not_loose;
}

-- the disk is coherent whenever the footprints are present
pub lasting : StartIsCoherentBy → CoherenceIsKeptBy → PresentFootprintsSuffice → PresentMakesAreUndisturbed → (g : Graph) (s : Setting) → IsGraph g → AreSound g s → HaveNoRace g s → HaveWays g s → IsLasting g s
lasting starts keeps suffices still g s graph sound no_race ways b d now past start legal undisturbed leaves present jobs goals steps inside make =
    let writes = writes_are_sound g s sound in
    let coherent = subst (λ (w : World). HasCoherentDiskBy g s b w) leaves (keeps g s b graph writes d past (starts g s b writes d start) legal undisturbed) in
    (suffices g s b graph sound no_race ways now coherent present jobs goals steps inside make, still g s b graph sound no_race ways now coherent present jobs goals steps inside make)
