-- Laws of graphs, of walks and of the serial order.
use Rattle.std.specs.Prelude.{◌≡◌, ℕ, List, [], ◌∷◌, ◌++◌, not, filter, ◌↔◌}
use Rattle.mk_graph.specs.Membership.{Has, has, IsDistinct}
use Rattle.mk_graph.specs.Graph.{Graph, prerequisites, Reached, HasPath, HasNoCycle, IsSound}
use Rattle.mk_graph.specs.Walk.{WalkEnd, Through, Closes}
use Rattle.mk_graph.specs.Build.{WalksAll}
use Rattle.mk_graph.specs.Serial.{order_from, serial_from, serial_order}

-- In a graph without cycles the serial order contains exactly the nodes that the goals reach, each
-- once.
abbrev pub SerialReachesEachOnce : Type 0
SerialReachesEachOnce =
    (g : Graph) → HasNoCycle g →
    IsDistinct (serial_order g) × ((n : ℕ) → Has (serial_order g) n ↔ Reached g n)

-- p is before each occurrence of n in the order.
abbrev pub StandsBefore : List ℕ → ℕ → ℕ → Type 0
StandsBefore order p n = (front back : List ℕ) → order ≡ front ++ n ∷ back → Has front p

-- In a graph without cycles the serial order puts each prerequisite before its node.
abbrev pub PrerequisitesComeFirst : Type 0
PrerequisitesComeFirst =
    (g : Graph) → HasNoCycle g →
    (n p : ℕ) → Has (prerequisites g n) p → StandsBefore (serial_order g) p n

-- The nodes of an order that aren't in the other order.
abbrev pub beside : List ℕ → List ℕ → List ℕ
beside other order = filter (λ n. not (has other n)) order

-- In a graph without cycles the serial order of `first ++ others` is that of `first` followed by
-- the rest of that of `others`.
abbrev pub GoalsDecideWhatComesFirst : Type 0
GoalsDecideWhatComesFirst =
    (g : Graph) → HasNoCycle g → (first others : List ℕ) →
    serial_from g (first ++ others) ≡
    serial_from g first ++ beside (serial_from g first) (serial_from g others)

-- In a graph without cycles the serial order of one node is the serial order of its prerequisites
-- followed by the node.
abbrev pub SerialOrderOfOne : Type 0
SerialOrderOfOne =
    (g : Graph) → HasNoCycle g → (n : ℕ) →
    serial_from g (n ∷ []) ≡ serial_from g (prerequisites g n) ++ n ∷ []

-- The serial order of all goals is the serial order of the graph.
abbrev pub OrderOfAllGoals : Type 0
OrderOfAllGoals = (g : Graph) → order_from g g.goals ≡ serial_order g

-- The walk of a sound graph has an end.
abbrev pub WalkHasAnEnd : Type 0
WalkHasAnEnd = (g : Graph) → IsSound g → (end : WalkEnd) × WalksAll g end

-- The walk of a graph has at most one end.
abbrev pub WalkHasOneEnd : Type 0
WalkHasOneEnd = (g : Graph) (one other : WalkEnd) → WalksAll g one → WalksAll g other → one ≡ other

-- The path goes from the first node to the second, and each node on it is a direct prerequisite of
-- the one before.
pub data GoesAlong (g : Graph) : ℕ → ℕ → List ℕ → Type 0 where
  step : {n p : ℕ} → Has (prerequisites g n) p → GoesAlong g n p (n ∷ p ∷ [])
  further : {n m p : ℕ} {path : List ℕ} → GoesAlong g n m path → Has (prerequisites g m) p →
      GoesAlong g n p (path ++ p ∷ [])

-- A path along prerequisites of reached nodes that ends where it begins.
pub record IsCycle (g : Graph) (path : List ℕ) : Type 0 where
  pub first : ℕ
  pub along : GoesAlong g first first path
  pub reached : (n : ℕ) → Has path n → Reached g n
  pub leads : HasPath g first first

-- A path that the walk closes is a cycle.
abbrev pub ClosesOnlyCycles : Type 0
ClosesOnlyCycles = (g : Graph) (path : List ℕ) → WalksAll g (Closes path) → IsCycle g path

-- If the walk of a sound graph completes, no path leads from a node to itself.
abbrev pub ComesThroughWithoutCycles : Type 0
ComesThroughWithoutCycles =
    (g : Graph) (finished : List ℕ) → IsSound g → WalksAll g (Through finished) →
    (n : ℕ) → ¬ (HasPath g n n)

-- If a graph has heights as in `HasNoCycle`, no path leads from a node to itself.
abbrev pub HeightsForbidCycles : Type 0
HeightsForbidCycles = (g : Graph) → HasNoCycle g → (n : ℕ) → ¬ (HasPath g n n)

-- If no path leads from a node of a sound graph to itself, the graph has heights as in
-- `HasNoCycle`.
abbrev pub NoCycleGivesHeights : Type 0
NoCycleGivesHeights = (g : Graph) → IsSound g → ((n : ℕ) → ¬ (HasPath g n n)) → HasNoCycle g
