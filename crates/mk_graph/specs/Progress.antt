-- The state of the code's walk: the marks of nodes, and how it ended.
use Rattle.std.specs.Prelude.{◌≡◌, ℕ, ◌<◌, List, [], length, map, slice_index_or, Option, Some, None, Vec, reverse}
use Rattle.std.specs.List.{flat_map}
use Rattle.std.specs.declared.alloc.Global.{Global}
use Rattle.mk_graph.specs.declared.node.Node.{Node}
use Rattle.mk_graph.specs.declared.walk.Mark.{Mark}
use Rattle.mk_graph.specs.declared.walk.Mark.TheVariants.{New, UnderWay, Finished}
use Rattle.mk_graph.specs.declared.walk.End.{End}
use Rattle.mk_graph.specs.declared.walk.End.TheVariants.{Order, Cycle}
use Rattle.mk_graph.specs.Membership.{Has}
use Rattle.mk_graph.specs.Walk.{WalkEnd, Through, Closes}

-- The row of a node, empty if there is no such node.
abbrev pub row : List (Vec ℕ Global) → ℕ → List ℕ
row rows n = slice_index_or (map (λ (r : Vec ℕ Global). r.items) rows) n []

-- The rows are the prerequisites of the nodes, in the order of their groups.
abbrev pub ArePrerequisiteRows : List (Vec ℕ Global) → List Node → Type 0
ArePrerequisiteRows rows nodes =
    map (λ (r : Vec ℕ Global). r.items) rows ≡
    map (λ (n : Node). flat_map (λ group. group) n.groups) nodes

-- Each number in a row is the number of a row.
abbrev pub AreRows : List (Vec ℕ Global) → Type 0
AreRows rows = (n p : ℕ) → Has (row rows n) p → p < length rows

-- What a mark says about a node: it is neither under way nor finished, it is under way, or it is
-- finished.
abbrev pub IsMark : Mark → (under finished : List ℕ) → ℕ → Type 0
IsMark New under finished n = ¬ (Has under n) × ¬ (Has finished n)
IsMark UnderWay under finished n = Has under n
IsMark Finished under finished n = Has finished n

-- Each node has the mark that fits it.
abbrev pub AreMarks : List Mark → (under finished : List ℕ) → Type 0
AreMarks marks under finished =
    (n : ℕ) → n < length marks → IsMark (slice_index_or marks n New) under finished n

-- The end of a walk that found this path, or else finished these nodes, the last one first.
abbrev pub ending : Option (Vec ℕ Global) → List ℕ → WalkEnd
ending None finished = Through finished
ending (Some path) finished = Closes path.items

-- The `WalkEnd` for an `End` of the code.
abbrev pub walk_end : End → WalkEnd
walk_end (Order order) = Through (reverse order.items)
walk_end (Cycle path) = Closes path.items
