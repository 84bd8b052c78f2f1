-- What is looked up for the nodes of a subject.
use Rattle.std.specs.Prelude.{◌≡◌, ◌⊎◌, ℕ, Bool, true, false, not, ◌&&◌, bytes_eq, ◌<◌, List, [], ◌∷◌, All, filter, length, map, slice_index, Option, None, Some, is_some, Ok, Err, if◌then◌else◌}
use Rattle.mk_lines.specs.Names.{has_name, once}
use Rattle.mk_foot.specs.Book.{Record}
use Rattle.mk_graph.specs.declared.node.Node.{Node}
use Rattle.mk_graph.specs.Graph.{node}
use Rattle.mk_graph.specs.Serial.{serial_order}
use Rattle.mk_infer.specs.Commands.{Commands}
use Rattle.mk_infer.specs.declared.fault.InferFault.{InferFault}
use Rattle.mk_infer.specs.declared.fault.InferFault.TheVariants.{Memory}
use Rattle.mk_infer.specs.Inference.{choice}
use Rattle.mk_infer.specs.Laws.{with_more}
use Rattle.mk_subject.specs.Subject.{Subject, name_of, writes_of, record_of, commands_of, all_writes}

-- Whether two lists of lines are equal.
abbrev pub lines_eq : List (List ℕ) → List (List ℕ) → Bool
lines_eq [] [] = true
lines_eq [] (y ∷ ys) = false
lines_eq (x ∷ xs) [] = false
lines_eq (x ∷ xs) (y ∷ ys) = bytes_eq x y && lines_eq xs ys

-- Whether there is a record and its commands differ from these lines.
abbrev pub has_others : Option Record → List (List ℕ) → Bool
has_others None lines = false
has_others (Some r) lines = not (lines_eq r.commands lines)

-- The commands of a node, from what its entry stores: those of the record if there is one with the
-- same commands, else the entry's own.
abbrev pub lines_with : Option Record → Bool → List (List ℕ) → List (List ℕ)
lines_with None others own = own
lines_with (Some r) others own = if others then own else r.commands

-- The files that a record lists as read; none without a record.
abbrev pub reads_in : Option Record → List (List ℕ)
reads_in None = []
reads_in (Some r) = r.reads

-- The files that a record lists as written; none without a record.
abbrev pub writes_in : Option Record → List (List ℕ)
writes_in None = []
writes_in (Some r) = r.writes

-- Whether a recipe has a record, isn't phony, and doesn't write its target.
abbrev pub is_unwritten : Node → Option Record → Bool
is_unwritten node recorded =
    node.recipe && (is_some recorded &&
    (not node.phony && not (has_name (writes_in recorded) node.name)))

-- A node with its number, its record, its commands, whether the record has other commands, whether
-- the recipe fails to write its target, and its inferred prerequisite before any recipe has written
-- files and after all have.
pub record NodeRow : Type 0 where
  pub number : ℕ
  pub node : Node
  pub recorded : Option Record
  pub commands : Commands
  pub others : Bool
  pub unwritten : Bool
  pub chosen : Option (List ℕ)
  pub chosen_after : Option (List ℕ)

-- The inferred prerequisite of a node after all recipes have written their files.
abbrev pub choice_after : Subject → ℕ → Option (List ℕ)
choice_after x n = choice x.makefile (with_more x.there (all_writes x)) (name_of x n)

-- The inferred prerequisite of the node is the same before any recipe has written files and after
-- all have.
abbrev pub StaysChosen : Subject → ℕ → Type 0
StaysChosen x n = choice_after x n ≡ choice x.makefile x.there (name_of x n)

-- The entry holds what is so of the node with its number, and its record lists no read twice.
pub record IsRow (x : Subject) (e : NodeRow) : Type 0 where
  pub same_node : e.node ≡ node x.graph e.number
  pub same_record : e.recorded ≡ record_of x e.number
  pub distinct : once (reads_in e.recorded) ≡ reads_in e.recorded
  pub same_commands : commands_of x e.number ≡ Ok e.commands
  pub same_others : e.others ≡ has_others e.recorded e.commands.lines
  pub same_unwritten : e.unwritten ≡ is_unwritten e.node e.recorded
  pub same_choice : e.chosen ≡ choice x.makefile x.there (name_of x e.number)
  pub same_choice_after : e.chosen_after ≡ choice_after x e.number

-- The entries are right, and for these nodes in this order.
pub record AreEntriesOf (x : Subject) (order : List ℕ) (entries : List NodeRow) : Type 0 where
  pub in_order : map (λ (e : NodeRow). e.number) entries ≡ order
  pub right : All (IsRow x) entries

-- The entries are right, one for each node in the serial order.
abbrev pub AreRows : Subject → List NodeRow → Type 0
AreRows x entries = AreEntriesOf x (serial_order x.graph) entries

-- The files that the node's recipe reads; none without a recipe.
abbrev pub row_reads : NodeRow → List (List ℕ)
row_reads e = if e.node.recipe then reads_in e.recorded else []

-- The files that the node's recipe writes; none without a recipe.
abbrev pub row_writes : NodeRow → List (List ℕ)
row_writes e = if e.node.recipe then writes_in e.recorded else []

-- The nodes that write a file, in the serial order.
abbrev pub writers_of : Subject → List ℕ → List ℕ
writers_of x f = filter (λ o. has_name (writes_of x o) f) (serial_order x.graph)

-- The fault is that of the first of these nodes whose commands have one.
pub record IsFirstFault (x : Subject) (order : List ℕ) (fault : InferFault) : Type 0 where
  pub place : ℕ
  pub within : place < length order
  pub here : commands_of x (slice_index order place) ≡ Err fault
  pub before : (k : ℕ) → k < place →
      (found : Commands) × (commands_of x (slice_index order k) ≡ Ok found)

-- The fault is out of memory, or that of the first node in the serial order whose commands have
-- one.
abbrev pub IsFaultOf : Subject → InferFault → Type 0
IsFaultOf x fault = (fault ≡ Memory) ⊎ IsFirstFault x (serial_order x.graph) fault
