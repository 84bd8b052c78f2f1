-- What it means that steps show a finding.
use Rattle.std.specs.Prelude.{◌≡◌, ℕ, ◌+◌, ◌*◌, List, [], ◌∷◌, ◌++◌, map, ◌⊎◌}
use Rattle.mk_graph.specs.Membership.{Has}
use Rattle.mk_graph.specs.Graph.{Graph}
use Rattle.mk_graph.specs.Serial.{serial_order}
use Rattle.mk_build.specs.Setting.{FileName, Setting, IsNumberOf, writings}
use Rattle.mk_build.specs.World.{Disk, World, Idle, Busy, IsFirstDisk, HasStampsFor}
use Rattle.mk_build.specs.Steps as model
use Rattle.mk_build.specs.Stale.{stale_history, ShowsStale, IsLaterThanAll}
use Rattle.mk_world.specs.NamedStep.{Step}
use Rattle.mk_world.specs.Steps.{step_of}
use Rattle.mk_subject.specs.Subject.{Subject, footprints}
use Rattle.mk_find.specs.declared.finding.Finding.{Finding}
use Rattle.mk_find.specs.declared.finding.Finding.TheVariants.{Race, Stale}
use Rattle.mk_find.specs.Findings.{AreFindings}

-- The node is done in the make in progress.
abbrev pub IsDoneIn : World → ℕ → Type 0
IsDoneIn (Idle d) n = ⊥
IsDoneIn (Busy m d) n = Has m.done n

-- From this disk the steps are legal, and the last of them begins t while o isn't done.
pub record EndsInRace (g : Graph) (s : Setting) (d : Disk) (o t : ℕ) (steps : List model.Step) :
    Type 0 where
  pub before : List model.Step
  pub last : steps ≡ before ++ model.Begin t ∷ []
  pub legal : model.IsLegal g s (Idle d) steps
  pub not_done : ¬ (IsDoneIn (model.after_all g s (Idle d) before) o)

-- From this disk the steps are legal: a make of all goals with one job, an edit of the file if it
-- is editable, and the same make again, in which t and all recipes that it carries, directly or
-- over others, are passed; at the end the file is newer than each file that t writes.
pub record EndsStale (g : Graph) (s : Setting) (d : Disk) (t : ℕ) (f : FileName)
    (steps : List model.Step) : Type 0 where
  pub first : List model.Step
  pub edit : List model.Step
  pub second : List model.Step
  pub parts : steps ≡ stale_history g first edit second
  pub shows : ShowsStale g s t f d first edit second
  pub legal : model.IsLegal g s (Idle d) steps
  pub later : IsLaterThanAll g s (model.disk_after g s d steps) f t

-- From this disk the steps show the finding, which is a race or a stale read.
abbrev pub ShowsFrom : Subject → Disk → Finding → List model.Step → Type 0
ShowsFrom x d (Race recipe writer f) steps =
    (o t : ℕ) × IsNumberOf x.graph writer o × IsNumberOf x.graph recipe t ×
    EndsInRace x.graph (footprints x.setting) d o t steps
ShowsFrom x d (Stale recipe f) steps =
    (t : ℕ) × IsNumberOf x.graph recipe t ×
    EndsStale x.graph (footprints x.setting) d t f steps
ShowsFrom x d other steps = ⊥

-- The steps show the finding from the first disk of the world.
abbrev pub Shows : Subject → Finding → List Step → Type 0
Shows x finding steps =
    (d : Disk) → IsFirstDisk x.graph (footprints x.setting) d →
    ShowsFrom x d finding (map (step_of x.graph) steps)

-- From the first disk of the world, the last of the steps begins t while o isn't done.
abbrev pub ShowsRace : Subject → (o t : ℕ) → List Step → Type 0
ShowsRace x o t steps =
    (d : Disk) → IsFirstDisk x.graph (footprints x.setting) d →
    EndsInRace x.graph (footprints x.setting) d o t (map (step_of x.graph) steps)

-- From the first disk of the world, the steps show that the read of the file by t is stale.
abbrev pub ShowsStaleRead : Subject → ℕ → FileName → List Step → Type 0
ShowsStaleRead x t f steps =
    (d : Disk) → IsFirstDisk x.graph (footprints x.setting) d →
    EndsStale x.graph (footprints x.setting) d t f (map (step_of x.graph) steps)

-- The finding is a race or a stale read.
abbrev pub IsRaceOrStale : Finding → Type 0
IsRaceOrStale (Race recipe writer f) = Unit {0}
IsRaceOrStale (Stale recipe f) = Unit {0}
IsRaceOrStale other = ⊥

-- On the first disk there are enough stamps left for two writings of each file that a recipe writes
-- and one edit.
abbrev pub HasStamps : Subject → Type 0
HasStamps x =
    (d : Disk) → IsFirstDisk x.graph (footprints x.setting) d →
    HasStampsFor d (2 * writings x.graph (footprints x.setting) (serial_order x.graph) + 1)

-- No steps show the finding: it is neither a race nor a stale read, or there are too few stamps.
abbrev pub IsNotShown : Subject → Finding → Type 0
IsNotShown x finding = (¬ (IsRaceOrStale finding)) ⊎ (¬ (HasStamps x))

-- The finding is one of those of the build.
pub record IsReported (x : Subject) (finding : Finding) : Type 0 where
  pub all : List Finding
  pub told : AreFindings x all
  pub one : Has all finding
