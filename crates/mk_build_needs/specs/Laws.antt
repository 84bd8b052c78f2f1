-- Laws of what nodes need.
use Rattle.std.specs.Prelude.{◌≡◌, ℕ, ◌<◌, Bool, List, ◌++◌, length, None, Some, Vec, ◌↔◌}
use Rattle.std.specs.declared.alloc.Global.{Global}
use Rattle.mk_graph.specs.declared.node.Node.{Node}
use Rattle.mk_graph.specs.Membership.{Has}
use Rattle.mk_graph.specs.Graph.{Graph, prerequisites, HasPath, IsGraph}
use Rattle.mk_graph.specs.Progress.{row}
use Rattle.mk_build.specs.Right.{AreSound, HaveNoRace}
use Rattle.mk_build.specs.Setting.{FileName, Setting}
use Rattle.mk_build_needs.specs.Extending.{Extends, amended}
use Rattle.mk_build_needs.specs.Needs.{more_needs, needs, IsNeeded}
use Rattle.mk_build_needs.specs.NeedsGraph.{with_prerequisites, needs_graph, IsFirstCycle}

-- The list of a node's needs has exactly the nodes that it needs.
abbrev pub NeedsAreThese : Type 0
NeedsAreThese =
    (g : Graph) (s : Setting) → IsGraph g → (n o : ℕ) → Has (needs g s n) o ↔ IsNeeded g s n o

-- A graph with more prerequisites, recipes and nodes, with other phony nodes and with other goals
-- extends the graph.
abbrev pub AmendedExtends : Type 0
AmendedExtends =
    (g : Graph) (more : ℕ → List ℕ) (recipe phony : ℕ → Bool) (others : List Node)
    (goals : List ℕ) →
    Extends g (amended g more recipe phony others goals)

-- If a path of needs leads from a node to itself, then no graph that extends this one has sound
-- footprints and no race.
abbrev pub CycleCannotBeMended : Type 0
CycleCannotBeMended =
    (g h : Graph) (s : Setting) → IsGraph g → IsGraph h → Extends g h → AreSound h s →
    HaveNoRace h s → (n : ℕ) → ¬ (HasPath (needs_graph g s) n n)

-- If needs have a first cycle, then no graph that extends this one has sound footprints and no
-- race.
abbrev pub FirstCycleCannotBeMended : Type 0
FirstCycleCannotBeMended =
    (g h : Graph) (s : Setting) (names : List FileName) → IsGraph g →
    IsFirstCycle (needs_graph g s) (Some names) → IsGraph h → Extends g h → AreSound h s →
    ¬ (HaveNoRace h s)

-- If needs have no first cycle, then no path of needs leads from a node to itself.
abbrev pub NoCycleIsMissed : Type 0
NoCycleIsMissed =
    (g : Graph) (s : Setting) → IsGraph g → IsFirstCycle (needs_graph g s) None → (n : ℕ) →
    ¬ (HasPath (needs_graph g s) n n)

-- Rows that hold what each node needs beside its direct prerequisites give the graph of needs.
abbrev pub RowsGiveNeeds : Type 0
RowsGiveNeeds =
    (g : Graph) (s : Setting) (rows : List (Vec ℕ Global)) →
    ((n : ℕ) → n < length g.nodes → row rows n ≡ more_needs g s n) →
    with_prerequisites g (λ n. prerequisites g n ++ row rows n) ≡ needs_graph g s
