-- Coherent disks: each recipe on them must run, or is as its last whole run left it. Makes keep
-- disks coherent, and are right on them, whatever made them so.
use Rattle.std.specs.Prelude.{◌≡◌, ℕ, ◌<◌, ◌≤◌, List, [], Option, Some, None, map, true, ◌⊎◌}
use Rattle.mk_graph.specs.Membership.{Has}
use Rattle.mk_graph.specs.Graph.{Graph, node, prerequisites}
use Rattle.mk_build.specs.Setting.{FileName, Setting, name, reads, writes}
use Rattle.mk_build.specs.World.{Disk, World, Idle, Busy, content, HasStamp, WasWrittenAfter, outcome}
use Rattle.mk_build.specs.Steps.{MustRun}
use Rattle.mk_build.specs.Ways.{CanChange, Carries}

-- A whole run of a recipe: the clocks at its begin and at its end, and what it saw in each file.
pub record LastRun : Type 0 where
  pub began : ℕ
  pub ended : ℕ
  pub saw : FileName → Option ℕ

-- The file is missing: a recipe writes it, and it isn't there.
abbrev pub IsMissing : Graph → Setting → Disk → FileName → Type 0
IsMissing g s d f = (d.files f ≡ None) × ((o : ℕ) × Has (writes g s o) f)

-- The recipe is bound to run: it must run, or it must once a missing direct prerequisite is
-- written.
abbrev pub IsBoundToRun : Graph → Setting → Disk → ℕ → Type 0
IsBoundToRun g s d t =
    MustRun g d t ⊎ ((p : ℕ) × Has (prerequisites g t) p × IsMissing g s d (name g p))

-- The files that the recipe writes contain the known outcome of what this run saw, and were last
-- written during it.
pub record HoldOutcome (g : Graph) (s : Setting) (run : LastRun) (d : Disk) (t : ℕ) : Type 0 where
  pub written : List ℕ
  pub known : outcome d.known t (map run.saw (reads g s t)) ≡ Some written
  pub holds : map (content d) (writes g s t) ≡ map (λ c. Some c) written
  pub during : (f : FileName) (stamp : ℕ) → Has (writes g s t) f → HasStamp d f stamp →
      (run.began < stamp) × (stamp ≤ run.ended)

-- The file still contains this, or it can change and was written after this clock, or it is
-- missing.
abbrev pub ContainsOrChanged : Graph → Setting → Disk → FileName → Option ℕ → (clock : ℕ) → Type 0
ContainsOrChanged g s d f saw clock =
    (content d f ≡ saw) ⊎ (CanChange s f × WasWrittenAfter d f clock) ⊎ IsMissing g s d f

-- The recipe is as this run left it: its files contain the outcome of what the run saw, and each
-- file that the recipe reads contains what the run saw or has changed since.
abbrev pub IsAsLeft : Graph → Setting → LastRun → Disk → ℕ → Type 0
IsAsLeft g s run d t =
    HoldOutcome g s run d t ×
    ((f : FileName) → Has (reads g s t) f → ContainsOrChanged g s d f (run.saw f) run.ended)

-- The disk is coherent while these recipes run: no stamp is later than the clock; each other recipe
-- is bound to run, or is as its last whole run left it; and where one recipe writes a direct
-- prerequisite of another, its last run ended no later than the other's, or began after it.
pub record IsCoherentWhile (g : Graph) (s : Setting) (running : List ℕ) (d : Disk) : Type 0 where
  pub last : ℕ → LastRun
  pub stamped : (f : FileName) (stamp : ℕ) → HasStamp d f stamp → stamp ≤ d.clock
  pub came : (t : ℕ) → ((last t).began ≤ (last t).ended) × ((last t).ended ≤ d.clock)
  pub left : (t : ℕ) → (node g t).recipe ≡ true → ¬ (Has running t) → IsBoundToRun g s d t ⊎
      IsAsLeft g s (last t) d t
  pub apart : (o t : ℕ) → Carries g s t o → ((last o).ended ≤ (last t).ended) ⊎ ((last t).ended ≤
      (last o).began)

-- The disk is coherent, with no recipe running.
abbrev pub IsCoherent : Graph → Setting → Disk → Type 0
IsCoherent g s d = IsCoherentWhile g s [] d

-- The disk of this world is coherent while the recipes of its make run.
abbrev pub HasCoherentDisk : Graph → Setting → World → Type 0
HasCoherentDisk g s (Idle d) = IsCoherent g s d
HasCoherentDisk g s (Busy m d) = IsCoherentWhile g s m.running d
