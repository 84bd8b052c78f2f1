-- The records of the nodes of a graph.
use Rattle.std.specs.Prelude.{◌≡◌, All, List, map, Option}
use Rattle.mk_lines.specs.Names.{once}
use Rattle.mk_foot.specs.Book.{Record}
use Rattle.mk_foot.specs.Setting as foot
use Rattle.mk_graph.specs.declared.node.Node.{Node}
use Rattle.mk_graph.specs.Graph.{Graph}
use Rattle.mk_subject.specs.NodeRow.{reads_in}

-- A graph and the footprints.
pub record Recorded : Type 0 where
  pub graph : Graph
  pub setting : foot.Setting

-- The value with this graph and these footprints.
abbrev pub recorded_of : Graph → foot.Setting → Recorded
recorded_of g s = record { graph = g; setting = s }

-- The record of each node, at its number.
abbrev pub records_for : Graph → foot.Setting → List (Option Record)
records_for g s = map (λ (n : Node). foot.record_for s.records n.name) g.nodes

-- None of these records lists a read twice.
abbrev pub HaveDistinctReads : List (Option Record) → Type 0
HaveDistinctReads records = All (λ recorded. once (reads_in recorded) ≡ reads_in recorded) records
