-- That a part of a graph is built as the whole graph is.
use Rattle.std.specs.Prelude.{◌≡◌, ℕ, List, [], ◌∷◌, map, Bool}
use Rattle.mk_graph.specs.Membership.{Has}
use Rattle.mk_graph.specs.Graph.{Graph, IsGraph}
use Rattle.mk_build.specs.Setting.{FileName, Setting, name}
use Rattle.mk_build.specs.World.{Disk, Idle, IsStartDisk}
use Rattle.mk_build.specs.Steps.{Step, Edit, Make, Begin, Look, Put, End, Break, Pass, Stop, EndMake, IsLegal, disk_after}
use Rattle.mk_infer.specs.Laws.{IsPartOf}

-- Both steps are the same by names, the first over the first graph, the second over the second.
pub data IsSameStep (h g : Graph) : Step → Step → Type 0 where
  edits : {f : FileName} {c : ℕ} → IsSameStep h g (Edit f c) (Edit f c)
  makes : {jobs : ℕ} {goals others : List ℕ} → map (name h) goals ≡ map (name g) others →
      IsSameStep h g (Make jobs goals) (Make jobs others)
  begins : {t k : ℕ} → name h t ≡ name g k → IsSameStep h g (Begin t) (Begin k)
  looks : {t k : ℕ} {f : FileName} → name h t ≡ name g k → IsSameStep h g (Look t f) (Look k f)
  puts : {t k : ℕ} {f : FileName} {c : ℕ} → name h t ≡ name g k →
      IsSameStep h g (Put t f c) (Put k f c)
  ends : {t k : ℕ} → name h t ≡ name g k → IsSameStep h g (End t) (End k)
  breaks : {t k : ℕ} {removed : Bool} → name h t ≡ name g k →
      IsSameStep h g (Break t removed) (Break k removed)
  passes : {t k : ℕ} → name h t ≡ name g k → IsSameStep h g (Pass t) (Pass k)
  stops : IsSameStep h g Stop Stop
  ends_make : IsSameStep h g EndMake EndMake

-- Both lists have the same steps by names.
abbrev pub AreSameSteps : Graph → Graph → List Step → List Step → Type 0
AreSameSteps h g [] [] = Unit {0}
AreSameSteps h g (step ∷ steps) (other ∷ others) =
    IsSameStep h g step other × AreSameSteps h g steps others
AreSameSteps h g steps others = ⊥

-- Each goal of the first graph is a goal of the second.
abbrev pub HasItsGoalsIn : Graph → Graph → Type 0
HasItsGoalsIn h g =
    (n : ℕ) → Has h.goals n → (k : ℕ) × Has g.goals k × (name h n ≡ name g k)

-- Both disks have the same files and the same clock.
abbrev pub HaveSameFiles : Disk → Disk → Type 0
HaveSameFiles d e = ((f : FileName) → d.files f ≡ e.files f) × (d.clock ≡ e.clock)

-- Each trace over a part of a graph, with some of its goals, is by names a trace over the whole
-- graph, and leaves the same files.
abbrev pub PartsBuildAlike : Type 0
PartsBuildAlike =
    (h g : Graph) (s : Setting) → IsGraph h → IsGraph g → IsPartOf h g → HasItsGoalsIn h g →
    (d : Disk) (steps : List Step) → IsStartDisk s d → IsLegal h s (Idle d) steps →
    (others : List Step) × AreSameSteps h g steps others × IsLegal g s (Idle d) others ×
    HaveSameFiles (disk_after h s d steps) (disk_after g s d others)
