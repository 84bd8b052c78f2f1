-- Laws of builds whose recipes behave as trees.
use Rattle.std.specs.Prelude.{◌≡◌, ℕ, List, [], ◌∷◌}
use Rattle.mk_graph.specs.Graph.{Graph, IsGraph}
use Rattle.mk_build.specs.Setting.{FileName, Setting}
use Rattle.mk_build.specs.World.{Disk, World, Idle, IsStartDisk}
use Rattle.mk_build.specs.Steps.{Step, Make}
use Rattle.mk_build.specs.BuildLaws.{AreInside}
use Rattle.mk_build.specs.Right.{AreSound, HaveNoRace, HaveWays}
use Rattle.mk_build_behaviours.specs.Behaviours.{Behaviours}
use Rattle.mk_build_behaviours.specs.CleanBy.{IsRightBy, ArePresent}
use Rattle.mk_build_behaviours.specs.StepsBy.{after_by, IsLegalBy, after_all_by, AreUndisturbed}
use Rattle.mk_build_behaviours.specs.CoherentBy.{with_reads, without_reads, IsCoherentBy, HasCoherentDiskBy}

-- What recipes write is sound, whatever they read.
abbrev pub AreWritesSound : Graph → Setting → Type 0
AreWritesSound g s = AreSound g (without_reads s)

-- If what recipes write is sound, a start disk is coherent.
abbrev pub StartIsCoherentBy : Type 0
StartIsCoherentBy =
    (g : Graph) (s : Setting) (b : Behaviours) → AreWritesSound g s → (d : Disk) → IsStartDisk s d →
    IsCoherentBy g s b d

-- If what recipes write is sound, each trace in which no file that a recipe reads changes before
-- the end of its run keeps a disk coherent. No footprint says what is read, and no read needs a
-- way.
abbrev pub CoherenceIsKeptBy : Type 0
CoherenceIsKeptBy =
    (g : Graph) (s : Setting) (b : Behaviours) → IsGraph g → AreWritesSound g s →
    (d : Disk) (steps : List Step) → IsCoherentBy g s b d → IsLegalBy g s b (Idle d) steps →
    AreUndisturbed g s b (Idle d) steps → HasCoherentDiskBy g s b (after_all_by g s (Idle d) steps)

-- Present footprints suffice. If footprints are present and sound, there is no race, and each read
-- of a file that can change has a way, then a make of any part of the goals from a coherent disk
-- builds those goals, if it ends. What recipes read when they last ran doesn't matter.
abbrev pub PresentFootprintsSuffice : Type 0
PresentFootprintsSuffice =
    (g : Graph) (s : Setting) (b : Behaviours) → IsGraph g → AreSound g s → HaveNoRace g s →
    HaveWays g s → (d : Disk) → IsCoherentBy g s b d → ArePresent g s b d →
    (jobs : ℕ) (goals : List ℕ) (steps : List Step) → AreInside steps →
    IsLegalBy g s b (Idle d) (Make jobs goals ∷ steps) →
    IsRightBy g s b (after_all_by g s (Idle d) (Make jobs goals ∷ steps))

-- Such a make disturbs no recipe, so it keeps the disk coherent.
abbrev pub PresentMakesAreUndisturbed : Type 0
PresentMakesAreUndisturbed =
    (g : Graph) (s : Setting) (b : Behaviours) → IsGraph g → AreSound g s → HaveNoRace g s →
    HaveWays g s → (d : Disk) → IsCoherentBy g s b d → ArePresent g s b d →
    (jobs : ℕ) (goals : List ℕ) (steps : List Step) → AreInside steps →
    IsLegalBy g s b (Idle d) (Make jobs goals ∷ steps) →
    AreUndisturbed g s b (Idle d) (Make jobs goals ∷ steps)

-- If the step begins a make, the footprints are present then.
abbrev pub IsPresentAt : Graph → Setting → Behaviours → World → Step → Type 0
IsPresentAt g s b (Idle d) (Make jobs goals) = ArePresent g s b d
IsPresentAt g s b world other = Unit {0}

-- The footprints are present whenever one of these steps begins a make.
abbrev pub StayPresent : Graph → Setting → Behaviours → World → List Step → Type 0
StayPresent g s b world [] = Unit {0}
StayPresent g s b world (step ∷ steps) =
    IsPresentAt g s b world step × StayPresent g s b (after_by g s world step) steps

-- The same of traces: if footprints are present whenever a make begins, then each trace from a
-- coherent disk is right, with any edits, makes, stops and recipes that broke off.
abbrev pub PresentTracesAreRight : Type 0
PresentTracesAreRight =
    (g : Graph) (s : Setting) (b : Behaviours) → IsGraph g → AreSound g s → HaveNoRace g s →
    HaveWays g s → (d : Disk) (steps : List Step) → IsCoherentBy g s b d →
    IsLegalBy g s b (Idle d) steps → StayPresent g s b (Idle d) steps →
    IsRightBy g s b (after_all_by g s (Idle d) steps)

-- In such a trace no file that a recipe reads changes before the end of its run, so it keeps the
-- disk coherent.
abbrev pub PresentTracesAreUndisturbed : Type 0
PresentTracesAreUndisturbed =
    (g : Graph) (s : Setting) (b : Behaviours) → IsGraph g → AreSound g s → HaveNoRace g s →
    HaveWays g s → (d : Disk) (steps : List Step) → IsCoherentBy g s b d →
    IsLegalBy g s b (Idle d) steps → StayPresent g s b (Idle d) steps →
    AreUndisturbed g s b (Idle d) steps

-- Each make is right, whatever was before: take any trace from a coherent disk in which no file
-- that a recipe reads changes before the end of its run. If these footprints are present and sound
-- now, there is no race, and each read of a file that can change has a way, then a make from the
-- disk that the trace leaves builds its goals, if it ends.
abbrev pub EachMakeIsRight : Type 0
EachMakeIsRight =
    (g : Graph) (s : Setting) (b : Behaviours) → IsGraph g → AreWritesSound g s →
    (d now : Disk) (past : List Step) → IsCoherentBy g s b d → IsLegalBy g s b (Idle d) past →
    AreUndisturbed g s b (Idle d) past → after_all_by g s (Idle d) past ≡ Idle now →
    (footprints : FileName → List FileName) → AreSound g (with_reads s footprints) →
    HaveNoRace g (with_reads s footprints) → HaveWays g (with_reads s footprints) →
    ArePresent g (with_reads s footprints) b now →
    (jobs : ℕ) (goals : List ℕ) (steps : List Step) → AreInside steps →
    IsLegalBy g (with_reads s footprints) b (Idle now) (Make jobs goals ∷ steps) →
    IsRightBy g (with_reads s footprints) b
    (after_all_by g (with_reads s footprints) (Idle now) (Make jobs goals ∷ steps))

-- What footprints say is read decides nothing of traces and of coherent disks: with other reads a
-- coherent disk is coherent, and a trace is one, leaves the same world, and disturbs no recipe if
-- it didn't.
abbrev pub ReadsDecideNothing : Type 0
ReadsDecideNothing =
    (g : Graph) (s : Setting) (b : Behaviours) (footprints : FileName → List FileName) →
    ((d : Disk) → IsCoherentBy g s b d → IsCoherentBy g (with_reads s footprints) b d) ×
    ((world : World) (steps : List Step) → IsLegalBy g s b world steps →
    IsLegalBy g (with_reads s footprints) b world steps ×
    (after_all_by g (with_reads s footprints) world steps ≡ after_all_by g s world steps) ×
    (AreUndisturbed g s b world steps →
    AreUndisturbed g (with_reads s footprints) b world steps))
