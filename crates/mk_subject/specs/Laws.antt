-- Laws about subjects: their writes, the paths of their recipes, and their goals.
use Rattle.std.specs.Prelude.{◌≡◌, ℕ, List, ◌↔◌, map, Ok}
use Rattle.mk_read.specs.Reading.{Makefile}
use Rattle.mk_cert_text.specs.declared.certificate.Finish.{Finish}
use Rattle.mk_graph.specs.Membership.{Has}
use Rattle.mk_graph.specs.Graph.{Graph, IsGraph}
use Rattle.mk_build.specs.Setting.{FileName, Setting}
use Rattle.mk_build.specs.Ways.{Way}
use Rattle.mk_build.specs.Setting as build
use Rattle.mk_infer.specs.Selection.{Selects}
use Rattle.mk_infer.specs.There.{Exists}
use Rattle.mk_subject.specs.Subject.{Subject, writes_of, all_writes}
use Rattle.mk_subject.specs.Paths.{IsPath}

-- `all_writes` has each file that a recipe of the graph writes, and no other.
abbrev pub AllWritesExactly : Type 0
AllWritesExactly =
    (x : Subject) → IsGraph x.graph → (f : List ℕ) → Has (all_writes x) f ↔
    ((t : ℕ) × Has (writes_of x t) f)

-- A recipe has a way to a file exactly if there is a path from it to the file.
abbrev pub PathsAreWays : Type 0
PathsAreWays =
    (g : Graph) (s : Setting) (f : FileName) (t : ℕ) →
    Way g s f t ↔ ((finish : Finish) × (others : List ℕ) × IsPath g s f finish t others)

-- The selected graph has the goals that were asked for, by name, in their order.
abbrev pub SelectedGoals : Type 0
SelectedGoals =
    (m : Makefile) (e : Exists) (goals : List (List ℕ)) (g : Graph) → Selects m e goals (Ok g) →
    map (build.name g) g.goals ≡ goals
