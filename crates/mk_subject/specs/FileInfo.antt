-- What is looked up for files.
use Rattle.std.specs.Prelude.{◌≡◌, ℕ, Bool, ◌||◌, List, [], map, slice_get, slice_index_or, Some}
use Rattle.std.specs.Borrow.{Bor}
use Rattle.mk_lines.specs.Names.{has_name, number_of}
use Rattle.mk_read.specs.Reading.{Makefile}
use Rattle.mk_foot.specs.Setting as foot
use Rattle.mk_graph.specs.declared.node.Node.{Node}
use Rattle.mk_subject.specs.NodeRow.{writers_of}
use Rattle.mk_subject.specs.Subject.{Subject}

-- The writers of a file, whether it is given, whether it is editable, whether it is given, phony or
-- passed over as missing, and the number of the node with its name.
pub record FileInfo : Type 0 where
  pub writers : List ℕ
  pub given : Bool
  pub editable : Bool
  pub taken : Bool
  pub number : ℕ

-- Whether a file is given, phony, or passed over as missing when the makefile was read.
abbrev pub taken_by : Makefile → foot.Setting → List ℕ → Bool
taken_by makefile setting file =
    foot.is_given setting file ||
    (has_name makefile.phony file || has_name setting.passed_over file)

-- What is known about a file, from the makefile, the setting, the writers of each file, and the
-- names of all nodes.
abbrev pub known_by : Makefile → foot.Setting → (List ℕ → List ℕ) → List (List ℕ) → List ℕ →
    FileInfo
known_by makefile setting writers names file =
    record {
      writers = writers file;
      given = foot.is_given setting file;
      editable = foot.is_editable setting file;
      taken = taken_by makefile setting file;
      number = number_of names file;
    }

-- The names of all nodes, each at its number.
abbrev pub all_names : Subject → List (List ℕ)
all_names x = map (λ (n : Node). n.name) x.graph.nodes

-- What is known about a file of the subject.
abbrev pub known_of : Subject → List ℕ → FileInfo
known_of x = known_by x.makefile x.setting (writers_of x) (all_names x)

-- `known` holds what is known about each file, in the order of the names.
abbrev pub AreKnown : (List ℕ → FileInfo) → List (Bor (List ℕ)) → List FileInfo → Type 0
AreKnown known_of names known = known ≡ map (λ name. known_of name.now) names

-- The names at these places of a list are those of the files, in the same order.
abbrev pub StandAt : (names : List (List ℕ)) → List ℕ → List (List ℕ) → Type 0
StandAt names places files = map (λ place. slice_get names place) places ≡ map Some files

-- `known` holds what is known about each of the names, and the places are right: `nodes` has that
-- of each node's name, `writes` and `reads`, at each node's number, those of the files that it
-- writes and reads.
pub record AreFiles (known_of : List ℕ → FileInfo) (node_names : List (List ℕ))
    (writes_of reads_of : ℕ → List (List ℕ)) (names : List (List ℕ)) (known : List FileInfo)
    (nodes : List ℕ) (writes reads : List (List ℕ)) : Type 0 where
  pub known_held : known ≡ map known_of names
  pub nodes_held : StandAt names nodes node_names
  pub writes_held : (t : ℕ) → StandAt names (slice_index_or writes t []) (writes_of t)
  pub reads_held : (t : ℕ) → StandAt names (slice_index_or reads t []) (reads_of t)
