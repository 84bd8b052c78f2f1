-- Laws of the names that goals reach, of their graph, and of written files that count as present.
use Rattle.std.specs.Prelude.{◌≡◌, ◌<◌, ℕ, false, List, [], ◌∷◌, ◌++◌, ◌↔◌, length, map, Option, Some, Result, Ok, Err}
use Rattle.mk_graph.specs.Membership.{Has, IsDistinct, IsWithin}
use Rattle.mk_graph.specs.Graph.{Graph, IsSound, node}
use Rattle.mk_read.specs.Names.{has_name}
use Rattle.mk_read.specs.Reading.{Makefile}
use Rattle.mk_infer.specs.declared.fault.InferFault.{InferFault}
use Rattle.mk_infer.specs.declared.fault.InferFault.TheVariants.{Memory}
use Rattle.mk_infer.specs.Commands.{Commands, commands}
use Rattle.mk_infer.specs.Inference.{choice}
use Rattle.mk_infer.specs.Ends.{left_to_do}
use Rattle.mk_infer.specs.Selection.{Selects, graph_of, needs}
use Rattle.mk_infer.specs.There.{Exists}
use Rattle.mk_infer.specs.Walk.{Meets}

-- the name is a goal, or a prerequisite of a name that the goals reach
pub data Reaches (needs : List ℕ → List (List ℕ)) (goals : List (List ℕ)) : List ℕ → Type 0 where
  goal : {name : List ℕ} → Has goals name → Reaches needs goals name
  onward : {name word : List ℕ} → Reaches needs goals name → Has (needs name) word →
      Reaches needs goals word

-- A walk visits exactly the names that the goals reach, each once.
abbrev pub MeetsWhatIsReached : Type 0
MeetsWhatIsReached =
    (needs : List ℕ → List (List ℕ)) (goals all : List (List ℕ)) → Meets needs [] goals all →
    IsDistinct all × ((name : List ℕ) → Has all name ↔ Reaches needs goals name)

-- All walks from the same goals visit the same names in the same order.
abbrev pub WalkIsOne : Type 0
WalkIsOne =
    (needs : List ℕ → List (List ℕ)) (goals one other : List (List ℕ)) → Meets needs [] goals one →
    Meets needs [] goals other → one ≡ other

-- the answer isn't `Memory`
abbrev pub IsSettled : Result Graph InferFault → Type 0
IsSettled (Err Memory) = ⊥
IsSettled answer = Unit {0}

-- Goals have at most one answer that isn't `Memory`.
abbrev pub SelectionIsOne : Type 0
SelectionIsOne =
    (m : Makefile) (e : Exists) (goals : List (List ℕ)) (one other : Result Graph InferFault) →
    IsSettled one → IsSettled other → Selects m e goals one → Selects m e goals other → one ≡ other

-- the same files, with these extra names that count as present
abbrev pub with_more : Exists → List (List ℕ) → Exists
with_more e names = record e { more = names }

-- the goals reach the name if no extra name is present
abbrev pub IsReached : Makefile → Exists → List (List ℕ) → List ℕ → Type 0
IsReached m e goals name = Reaches (needs m (with_more e [])) goals name

-- each reached name has the same inferred prerequisite whether none or all of the written files are
-- present
abbrev pub ChoicesStay : Makefile → Exists → List (List ℕ) → List (List ℕ) → Type 0
ChoicesStay m e goals writes =
    (name : List ℕ) → IsReached m e goals name →
    choice m (with_more e []) name ≡ choice m (with_more e writes) name

-- If each reached name has the same inferred prerequisite whether none or all of the written files
-- are present, any part of the written files gives the same graph and the same commands.
abbrev pub WritesChangeNothing : Type 0
WritesChangeNothing =
    (m : Makefile) (e : Exists) (goals writes part : List (List ℕ)) →
    ((name : List ℕ) → Has part name → Has writes name) → ChoicesStay m e goals writes
    → ((answer : Result Graph InferFault) → Selects m (with_more e []) goals answer ↔
    Selects m (with_more e part) goals answer) ×
    ((name : List ℕ) → IsReached m e goals name →
    commands m (with_more e []) name ≡ commands m (with_more e part) name)

-- There is a walk from any goals.
abbrev pub WalkExists : Type 0
WalkExists = (m : Makefile) (e : Exists) (goals : List (List ℕ))
    → (all : List (List ℕ)) × Meets (needs m e) [] goals all

-- Any goals have an answer that isn't `Memory`.
abbrev pub SelectionExists : Type 0
SelectionExists = (m : Makefile) (e : Exists) (goals : List (List ℕ))
    → (answer : Result Graph InferFault) × IsSettled answer × Selects m e goals answer

-- A name that has an inferred prerequisite still has one, perhaps another, if more names are
-- present.
abbrev pub MoreTakesNoChoiceAway : Type 0
MoreTakesNoChoiceAway = (m : Makefile) (e : Exists) (few many : List (List ℕ)) → IsWithin few many
    → (name found : List ℕ) → choice m (with_more e few) name ≡ Some found
    → (other : List ℕ) × (choice m (with_more e many) name ≡ Some other)

-- the inferred prerequisite of a node if these written files are present
abbrev pub node_choice : Makefile → Exists → Graph → ℕ → List (List ℕ) → Option (List ℕ)
node_choice m e g n writes = choice m (with_more e writes) (node g n).name

-- the commands of a node if these written files are present
abbrev pub node_commands : Makefile → Exists → Graph → ℕ → List (List ℕ) →
    Result Commands InferFault
node_commands m e g n writes = commands m (with_more e writes) (node g n).name

-- each node has the same inferred prerequisite whether none or all of the written files are present
abbrev pub NodesKeepTheirChoices : Makefile → Exists → List (List ℕ) → Graph → Type 0
NodesKeepTheirChoices m e writes g = (n : ℕ) → n < length g.nodes
    → node_choice m e g n [] ≡ node_choice m e g n writes

-- With this part of the written files present, the goals have this graph, and its nodes have the
-- same inferred prerequisites and commands as with none.
pub record IsSelectedAlike (m : Makefile) (e : Exists) (goals : List (List ℕ)) (g : Graph)
    (part : List (List ℕ)) : Type 0 where
  pub selected : Selects m (with_more e part) goals (Ok g)
  pub choices : (n : ℕ) → n < length g.nodes → node_choice m e g n part ≡ node_choice m e g n []
  pub same_commands : (n : ℕ) → n < length g.nodes →
      node_commands m e g n part ≡ node_commands m e g n []

-- any part of the written files gives the goals this graph, and its nodes the same inferred
-- prerequisites and commands
abbrev pub StaysSelected : Makefile → Exists → List (List ℕ) → List (List ℕ) → Graph → Type 0
StaysSelected m e writes goals g = (part : List (List ℕ)) → IsWithin part writes
    → IsSelectedAlike m e goals g part

-- If each node keeps its inferred prerequisite, any part of the written files gives the same graph.
abbrev pub GraphStaysSelected : Type 0
GraphStaysSelected = (m : Makefile) (e : Exists) (writes goals : List (List ℕ)) (g : Graph)
    → Selects m (with_more e []) goals (Ok g) → NodesKeepTheirChoices m e writes g
    → StaysSelected m e writes goals g

-- the names in the groups of a node
abbrev pub names_in_groups : Graph → ℕ → List (List (List ℕ))
names_in_groups g n = map (map (λ p. (node g p).name)) (node g n).groups

-- two nodes of two graphs are the same up to the numbering of nodes
pub record IsSameNode (g : Graph) (n : ℕ) (h : Graph) (k : ℕ) : Type 0 where
  pub name : (node g n).name ≡ (node h k).name
  pub groups : names_in_groups g n ≡ names_in_groups h k
  pub recipe : (node g n).recipe ≡ (node h k).recipe
  pub phony : (node g n).phony ≡ (node h k).phony

-- each node of the first graph is one of the second
abbrev pub IsPartOf : Graph → Graph → Type 0
IsPartOf g h = (n : ℕ) → n < length g.nodes
    → (k : ℕ) × (k < length h.nodes) × IsSameNode g n h k

-- If each node keeps its inferred prerequisite, any of the goals, in any order, have a graph of
-- their own that any part of the written files gives too, and that is part of the whole graph.
abbrev pub PartsStaySelected : Type 0
PartsStaySelected = (m : Makefile) (e : Exists) (writes goals some : List (List ℕ)) (g : Graph)
    → Selects m (with_more e []) goals (Ok g) → NodesKeepTheirChoices m e writes g
    → IsWithin some goals
    → (h : Graph) × IsPartOf h g × StaysSelected m e writes some h

-- There is a walk of any names after any names were visited.
abbrev pub WalkGoesOn : Type 0
WalkGoesOn = (m : Makefile) (e : Exists) (met names : List (List ℕ))
    → (all : List (List ℕ)) × Meets (needs m e) met names all

-- A walk has less left to do after it visited a new name.
abbrev pub NewNamesLeaveLess : Type 0
NewNamesLeaveLess =
    (m : Makefile) (e : Exists) (met names : List (List ℕ)) (name : List ℕ) →
    has_name met name ≡ false
    → left_to_do m e (met ++ name ∷ []) (needs m e name ++ names) <
    left_to_do m e met (name ∷ names)

-- The graph of the names that a walk from the goals visits is sound, as the constructor of graphs
-- requires.
abbrev pub HandedGraphIsSound : Type 0
HandedGraphIsSound =
    (m : Makefile) (e : Exists) (goals all : List (List ℕ)) → Meets (needs m e) [] goals all →
    IsSound (graph_of m e goals all)
