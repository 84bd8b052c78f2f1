-- Coherent disks of builds whose recipes behave as trees. What today's sources make a recipe read
-- doesn't matter for them, only what its last run read.
use Rattle.std.specs.Prelude.{◌≡◌, ℕ, ◌<◌, ◌≤◌, List, [], Some, map, true, ◌⊎◌}
use Rattle.mk_graph.specs.Membership.{Has}
use Rattle.mk_graph.specs.Graph.{Graph, node}
use Rattle.mk_build.specs.Setting.{FileName, Setting, writes}
use Rattle.mk_build.specs.World.{Disk, World, Idle, Busy, content, HasStamp}
use Rattle.mk_build.specs.Ways.{Carries}
use Rattle.mk_build.specs.Coherent.{LastRun, IsBoundToRun, ContainsOrChanged}
use Rattle.mk_build_behaviours.specs.Behaviours.{Behaviours, behaviour, path, result}

-- The setting with these reads in its footprints. What recipes write and which files are given
-- stays.
abbrev pub with_reads : Setting → (FileName → List FileName) → Setting
with_reads s footprints = record s { reads = footprints }

-- The setting without reads, whose footprints say only what recipes write.
abbrev pub without_reads : Setting → Setting
without_reads s = with_reads s (λ target. [])

-- The recipe is as this run left it: its files contain the result of what the run saw and were last
-- written during it, and each file on the run's path contains what the run saw or has changed
-- since.
pub record IsAsLeftBy (g : Graph) (s : Setting) (b : Behaviours) (run : LastRun) (d : Disk)
    (t : ℕ) : Type 0 where
  pub holds : map (content d) (writes g s t) ≡ map (λ c. Some c) (result (behaviour g b t) run.saw)
  pub during : (f : FileName) (stamp : ℕ) → Has (writes g s t) f → HasStamp d f stamp →
      (run.began < stamp) × (stamp ≤ run.ended)
  pub saw : (f : FileName) → Has (path (behaviour g b t) run.saw) f →
      ContainsOrChanged g s d f (run.saw f) run.ended

-- The disk is coherent while these recipes run: no stamp is later than the clock; each other recipe
-- is bound to run, or is as its last whole run left it; and where one recipe writes a direct
-- prerequisite of another, its last run ended no later than the other's, or began after it.
pub record IsCoherentWhileBy (g : Graph) (s : Setting) (b : Behaviours) (running : List ℕ)
    (d : Disk) : Type 0 where
  pub last : ℕ → LastRun
  pub stamped : (f : FileName) (stamp : ℕ) → HasStamp d f stamp → stamp ≤ d.clock
  pub came : (t : ℕ) → ((last t).began ≤ (last t).ended) × ((last t).ended ≤ d.clock)
  pub left : (t : ℕ) → (node g t).recipe ≡ true → ¬ (Has running t) → IsBoundToRun g s d t ⊎
      IsAsLeftBy g s b (last t) d t
  pub apart : (o t : ℕ) → Carries g s t o → ((last o).ended ≤ (last t).ended) ⊎ ((last t).ended ≤
      (last o).began)

-- The disk is coherent, with no recipe running.
abbrev pub IsCoherentBy : Graph → Setting → Behaviours → Disk → Type 0
IsCoherentBy g s b d = IsCoherentWhileBy g s b [] d

-- The disk of this world is coherent while the recipes of its make run.
abbrev pub HasCoherentDiskBy : Graph → Setting → Behaviours → World → Type 0
HasCoherentDiskBy g s b (Idle d) = IsCoherentBy g s b d
HasCoherentDiskBy g s b (Busy m d) = IsCoherentWhileBy g s b m.running d
