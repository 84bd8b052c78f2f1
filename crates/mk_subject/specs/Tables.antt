-- The tables of a subject.
use Rattle.std.specs.Prelude.{◌≡◌, ℕ, ◌<◌, List, [], length, slice_index_or, Ok}
use Rattle.mk_graph.specs.Graph.{IsGraph}
use Rattle.mk_infer.specs.Commands.{Commands}
use Rattle.mk_subject.specs.Subject.{Subject, commands_of, reads_of, writes_of}
use Rattle.mk_subject.specs.NodeRow.{NodeRow, AreRows}
use Rattle.mk_subject.specs.FileInfo.{FileInfo, AreFiles, StandAt, all_names, known_of}
use Rattle.mk_subject.specs.Target.{unsettled_of}

-- The graph is valid, the commands of each node have no fault, and each table holds what its name
-- says of this subject.
pub record AreTables (x : Subject) (entries : List NodeRow) (names : List (List ℕ))
    (files : List (List ℕ)) (known : List FileInfo) (nodes : List ℕ)
    (writes reads unsettled : List (List ℕ)) : Type 0 where
  pub is_graph : IsGraph x.graph
  pub told : (n : ℕ) → n < length x.graph.nodes → (found : Commands) × (commands_of x n ≡ Ok found)
  pub entries_held : AreRows x entries
  pub names_held : names ≡ all_names x
  pub files_held :
      AreFiles (known_of x) (all_names x) (writes_of x) (reads_of x) files known nodes writes reads
  pub unsettled_held : (t : ℕ) → StandAt files (slice_index_or unsettled t []) (unsettled_of x t)
