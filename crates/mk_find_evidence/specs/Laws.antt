-- Laws about evidence.
use Rattle.std.specs.Prelude.{List, map}
use Rattle.mk_subject.specs.Subject.{Subject, IsSubject, footprints}
use Rattle.mk_find.specs.declared.finding.Finding.{Finding}
use Rattle.mk_graph.specs.Graph.{IsGraph}
use Rattle.mk_build.specs.World.{Disk, IsFirstDisk}
use Rattle.mk_world.specs.NamedStep.{Step}
use Rattle.mk_world.specs.Steps.{step_of}
use Rattle.mk_find_evidence.specs.Shown.{IsReported, IsRaceOrStale, HasStamps, ShowsFrom}

-- If there are enough stamps, each race and each stale read among the findings has steps that show
-- it from the first disk.
abbrev pub ReportedIsShown : Type 0
ReportedIsShown =
    (x : Subject) (finding : Finding) → IsGraph x.graph → IsSubject x → IsReported x finding →
    IsRaceOrStale finding → HasStamps x →
    (d : Disk) → IsFirstDisk x.graph (footprints x.setting) d →
    (steps : List Step) × ShowsFrom x d finding (map (step_of x.graph) steps)
