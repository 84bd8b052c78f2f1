-- Which files are on the disks of a build, and what a make selects there.
use Rattle.std.specs.Prelude.{◌≡◌, ◌⊎◌, ℕ, List, Some, true, false}
use Rattle.mk_lines.specs.Names.{begins_with_any}
use Rattle.mk_graph.specs.Graph.{Graph}
use Rattle.mk_graph.specs.Membership.{Has, IsWithin}
use Rattle.mk_build.specs.Setting.{FileName, Setting, is_given, writes}
use Rattle.mk_build.specs.Steps.{Step, IsLegal, disk_after}
use Rattle.mk_build.specs.World.{Disk, File, Idle, IsStartDisk}
use Rattle.mk_infer.specs.Laws.{IsPartOf, IsSelectedAlike}
use Rattle.mk_subject.specs.Subject.{Subject, footprints}

-- The file is on the disk.
abbrev pub IsOn : Disk → FileName → Type 0
IsOn d f = (file : File) × (d.files f ≡ Some file)

-- The file is given, or a recipe of the graph writes it.
abbrev pub IsKnown : Graph → Setting → FileName → Type 0
IsKnown g s f = (is_given s f ≡ true) ⊎ ((t : ℕ) × Has (writes g s t) f)

-- The files are on the disk, and none is under a fixed prefix.
abbrev pub AreThere : Subject → Disk → List FileName → Type 0
AreThere x d files =
    (f : FileName) → Has files f → IsOn d f × (begins_with_any x.setting.fixed f ≡ false)

-- A make that reads the makefile again, on whatever disk a trace from a start disk leaves, selects
-- this graph for the goals, with the same inferred prerequisites and commands, whichever files on
-- that disk count as present. Sources, makefile texts and targets always do, and files under fixed
-- prefixes never.
abbrev pub IsSelectedAnew : Subject → List (List ℕ) → Graph → Type 0
IsSelectedAnew x goals g =
    (d : Disk) (steps : List Step) → IsStartDisk (footprints x.setting) d →
    IsLegal x.graph (footprints x.setting) (Idle d) steps → (files : List FileName) →
    AreThere x (disk_after x.graph (footprints x.setting) d steps) files →
    IsSelectedAlike x.makefile x.there goals g files

-- Each list of goals from among these has a graph of its own that such a make selects, and each of
-- its nodes is one of the whole graph, but for its number.
abbrev pub PartsAreSelectedAnew : Subject → List (List ℕ) → Type 0
PartsAreSelectedAnew x goals =
    (some : List (List ℕ)) → IsWithin some goals →
    (h : Graph) × IsPartOf h x.graph × IsSelectedAnew x some h
