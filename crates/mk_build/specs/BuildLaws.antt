-- Laws of builds: of traces, and of accepted builds. A trace is a legal list of steps.
use Rattle.std.specs.Prelude.{◌≡◌, ℕ, suc, ◌+◌, ◌*◌, ◌<◌, List, [], ◌∷◌, ◌++◌, length, reverse, true, Some}
use Rattle.mk_graph.specs.Membership.{Has}
use Rattle.mk_graph.specs.Graph.{Graph, node, HasNoCycle, IsGraph, IsSound}
use Rattle.mk_build.specs.Setting.{FileName, Setting, IsNumberOf, reads, writes, writings}
use Rattle.mk_build.specs.World.{Outcome, Disk, Making, World, Idle, Busy, IsStartDisk, IsFirstDisk, HasStampsFor, HoldJust}
use Rattle.mk_graph.specs.Schedules.{CanStart, IsSchedule, IsPart, Before}
use Rattle.mk_build.specs.Steps.{Step, Make, Begin, Look, Put, End, Break, Pass, Stop, Ready, make_of, IsLegal, after_all, disk_after}
use Rattle.mk_build.specs.Clean.{Contents, given_contents, clean_build}
use Rattle.mk_graph.specs.Serial.{order_from}
use Rattle.mk_build.specs.SerialMake.{RunsSerially, one_make}
use Rattle.mk_build.specs.NodeByNode.{MakesAll}
use Rattle.mk_build.specs.ScheduleMake.{until_begin, MakesSchedule, RunsAlone}
use Rattle.mk_build.specs.Overlap.{RunTogether, overlapping}
use Rattle.mk_build.specs.EmptyInputs.{ShowsNotBefore}
use Rattle.mk_build.specs.Ways.{Way, CanChange}
use Rattle.mk_build.specs.Stale.{Chain, stale_history, ShowsStale, IsLaterThanAll}
use Rattle.mk_build.specs.Right.{AreSound, HaveNoRace, HaveWays, IsRightAt, IsRight}

-- The first disk of a world is a start disk.
abbrev pub FirstIsAStart : Type 0
FirstIsAStart = (g : Graph) (s : Setting) (d : Disk) → IsFirstDisk g s d → IsStartDisk s d

-- If the clean build of a part of the goals has a value and there are stamps for all its writes,
-- then the serial make of that part is legal and leaves what the clean build gives. It has one job,
-- runs each recipe of the serial order whole, passes the other nodes, and ends.
abbrev pub SerialMakeIsLegal : Type 0
SerialMakeIsLegal =
    (g : Graph) (s : Setting) (outcomes : List Outcome) (d : Disk) (goals : List ℕ)
    (clean : Contents) →
    HasNoCycle g → IsPart goals g.goals → IsStartDisk s d →
    clean_build g s outcomes (given_contents s d) goals ≡ Some clean →
    HasStampsFor d (writings g s (order_from g goals)) →
    (steps : List Step) ×
    RunsSerially g s outcomes (given_contents s d) (order_from g goals) steps clean ×
    IsLegal g s (Idle d) (one_make goals steps) ×
    HoldJust (disk_after g s d (one_make goals steps)) clean

-- If t is ready in the make in progress, then o is done in it.
abbrev pub IsDoneWhenReady : Graph → (o t : ℕ) → World → Type 0
IsDoneWhenReady g o t (Idle d) = Unit {0}
IsDoneWhenReady g o t (Busy m d) = Ready g m t → Has m.done o

-- If o runs before t, which has a recipe, then o is done whenever t is ready, in each trace over
-- any build inputs.
abbrev pub BeforeHoldsInHistories : Type 0
BeforeHoldsInHistories =
    (g : Graph) (o t : ℕ) → (node g t).recipe ≡ true → Before g o t →
    (s : Setting) (d : Disk) (steps : List Step) → IsLegal g s (Idle d) steps →
    IsDoneWhenReady g o t (after_all g s (Idle d) steps)

-- Two ready recipes may begin one after the other, whatever else runs, if there are jobs for both.
abbrev pub ReadyRecipesRunTogether : Type 0
ReadyRecipesRunTogether =
    (g : Graph) (s : Setting) (m : Making) (d : Disk) (a b : ℕ) →
    Ready g m a → Ready g m b → ¬ (a ≡ b) → (node g a).recipe ≡ true → (node g b).recipe ≡ true →
    suc (length m.running) < m.jobs →
    IsLegal g s (Busy m d) (Begin a ∷ Begin b ∷ [])

-- Recipes overlap: take a start disk, a make with at least two jobs, and a schedule whose recipes
-- have run whole. Two recipes that can then start may both begin, and then read, write and end in
-- any interleaving of their steps, if there are enough stamps.
abbrev pub RecipesOverlap : Type 0
RecipesOverlap =
    (g : Graph) (s : Setting) (d : Disk) (jobs : ℕ) (goals ns : List ℕ) (before : List Step) →
    IsStartDisk s d → 1 < jobs → IsPart goals g.goals → IsSchedule g goals ns →
    MakesAll g s (Busy (make_of jobs goals) d) (reverse ns) before →
    (a b : ℕ) → ¬ (a ≡ b) → (node g a).recipe ≡ true → (node g b).recipe ≡ true →
    CanStart g goals ns a → CanStart g goals ns b →
    (puts_a puts_b : List ℕ) → length puts_a ≡ length (writes g s a) →
    length puts_b ≡ length (writes g s b) →
    HasStampsFor d (writings g s (reverse ns) + (length (writes g s a) + length (writes g s b))) →
    (between : List Step) → RunTogether g s a puts_a b puts_b between →
    IsLegal g s (Idle d) (overlapping jobs goals before a b between)

-- A make is in progress and no recipe runs.
abbrev pub NothingRuns : World → Type 0
NothingRuns (Idle d) = ⊥
NothingRuns (Busy m d) = m.running ≡ []

-- Whenever no recipe runs in a make of a trace, the make may be stopped, which changes no file, and
-- a make of any part of the goals may begin.
abbrev pub MakesCanBeStopped : Type 0
MakesCanBeStopped =
    (g : Graph) (s : Setting) (d : Disk) (steps : List Step) → IsLegal g s (Idle d) steps →
    NothingRuns (after_all g s (Idle d) steps) →
    (jobs : ℕ) (goals : List ℕ) → 0 < jobs → IsPart goals g.goals →
    IsLegal g s (Idle d) (steps ++ (Stop ∷ Make jobs goals ∷ [])) ×
    (disk_after g s d (steps ++ Stop ∷ []) ≡ disk_after g s d steps)

-- Any schedule can be run over any build inputs: a make of a part of the goals with one job that
-- runs the schedule's recipes whole, passes its other nodes, and then begins a recipe t that can
-- start is legal, if there are enough stamps. Then t alone runs and exactly the schedule's nodes
-- are done. The footprints need not be sound.
abbrev pub SchedulesRun : Type 0
SchedulesRun =
    (g : Graph) (s : Setting) (d : Disk) (goals ns : List ℕ) (t : ℕ) (steps : List Step) →
    IsStartDisk s d → IsPart goals g.goals → IsSchedule g goals ns →
    CanStart g goals ns t → (node g t).recipe ≡ true →
    HasStampsFor d (writings g s (reverse ns)) →
    MakesSchedule g s d goals ns steps →
    IsLegal g s (Idle d) (until_begin goals steps t) ×
    RunsAlone ns t (after_all g s (Idle d) (until_begin goals steps t))

-- For each list of nodes there are steps that make them.
abbrev pub ScheduleHistoryExists : Type 0
ScheduleHistoryExists =
    (g : Graph) (s : Setting) (d : Disk) (goals ns : List ℕ) →
    (steps : List Step) × MakesSchedule g s d goals ns steps

-- The step is taken by a node inside a make.
abbrev pub IsInside : Step → Type 0
IsInside (Begin t) = Unit {0}
IsInside (Look t f) = Unit {0}
IsInside (Put t f c) = Unit {0}
IsInside (End t) = Unit {0}
IsInside (Break t removed) = Unit {0}
IsInside (Pass n) = Unit {0}
IsInside other = ⊥

-- All steps are taken by nodes inside a make.
abbrev pub AreInside : List Step → Type 0
AreInside [] = Unit {0}
AreInside (step ∷ steps) = IsInside step × AreInside steps

-- If footprints are sound and there is no race, then one make of any part of the goals from a start
-- disk builds those goals, if it ends, with any number of jobs and any overlap of recipes. Recipes
-- may break off.
abbrev pub OneBuildIsRight : Type 0
OneBuildIsRight =
    (g : Graph) (s : Setting) → IsGraph g → AreSound g s → HaveNoRace g s →
    (d : Disk) (jobs : ℕ) (goals : List ℕ) (steps : List Step) → IsStartDisk s d → AreInside steps →
    IsLegal g s (Idle d) (Make jobs goals ∷ steps) →
    IsRightAt g s (after_all g s (Idle d) (Make jobs goals ∷ steps))

-- If footprints are sound, there is no race, and each read of a file that can change has a way,
-- then every trace is right: after each finished make, with any number of jobs, in any order of
-- steps, after any edits, makes, stops and recipes that broke off, its goals are built.
abbrev pub AcceptedIsRight : Type 0
AcceptedIsRight =
    (g : Graph) (s : Setting) → IsGraph g → AreSound g s → HaveNoRace g s → HaveWays g s →
    IsRight g s

-- If o doesn't run before t, a trace shows it: over the empty build inputs, a make with one job
-- begins t while o isn't done.
abbrev pub NotBeforeIsShown : Type 0
NotBeforeIsShown =
    (g : Graph) (o t : ℕ) → IsGraph g → ¬ (Before g o t) →
    (goals ns : List ℕ) × ShowsNotBefore g o t goals ns

-- If footprints are sound, a read of a file that can change has no way, and there are enough
-- stamps, then these steps are legal: make all goals, edit the file if it is editable, and make all
-- goals again without the recipe and those that it reaches by carrying. At the end the file is
-- later than all files that the recipe wrote. There may be races.
abbrev pub StaleIsShown : Type 0
StaleIsShown =
    (g : Graph) (s : Setting) → IsGraph g → AreSound g s →
    (t : ℕ) (f : FileName) → Has (reads g s t) f → CanChange s f → ¬ (Way g s f t) →
    (d : Disk) → IsStartDisk s d → HasStampsFor d (2 * writings g s (order_from g g.goals) + 1) →
    (first edit second : List Step) → ShowsStale g s t f d first edit second →
    IsLegal g s (Idle d) (stale_history g first edit second) ×
    IsLaterThanAll g s (disk_after g s d (stale_history g first edit second)) f t

-- For each read there are steps of the form that `StaleIsShown` needs.
abbrev pub StaleHistoryExists : Type 0
StaleHistoryExists =
    (g : Graph) (s : Setting) → IsGraph g → AreSound g s →
    (t : ℕ) (f : FileName) → Has (reads g s t) f →
    (d : Disk) → (first edit second : List Step) × ShowsStale g s t f d first edit second

-- If a chain of carried recipes leads from t to n, and n has a way for f, then t has a way for f.
abbrev pub WaysGoOverChains : Type 0
WaysGoOverChains =
    (g : Graph) (s : Setting) (t n : ℕ) (f : FileName) → Chain g s t n → Way g s f n → Way g s f t

-- Two nodes with the same name are the same node.
abbrev pub NamesHaveOneNumber : Type 0
NamesHaveOneNumber =
    (g : Graph) → IsSound g → (f : FileName) (n m : ℕ) → IsNumberOf g f n → IsNumberOf g f m → n ≡ m
