-- Laws of schedules: the serial order is one, whether a node runs before another one is decided,
-- and more nodes are wanted and can start as more are done.
use Rattle.std.specs.Prelude.{◌≡◌, ℕ, List, reverse, true, ◌⊎◌}
use Rattle.mk_graph.specs.Membership.{Has, IsWithin}
use Rattle.mk_graph.specs.Graph.{Graph, node, HasNoCycle, IsGraph}
use Rattle.mk_graph.specs.Serial.{order_from}
use Rattle.mk_graph.specs.Schedules.{Wanted, CanStart, IsSchedule, IsPart, Before}

-- In a graph without cycles the serial order of any part of the goals is a schedule for that part.
abbrev pub SerialOrderIsASchedule : Type 0
SerialOrderIsASchedule =
    (g : Graph) → HasNoCycle g →
    (goals : List ℕ) → IsPart goals g.goals → IsSchedule g goals (reverse (order_from g goals))

-- If o runs before t in all makes of all goals, then o runs before t in makes of any part of the
-- goals.
abbrev pub AllGoalsSuffice : Type 0
AllGoalsSuffice =
    (g : Graph) (o t : ℕ) →
    ((node g t).recipe ≡ true → (ns : List ℕ) → IsPart g.goals g.goals → IsSchedule g g.goals ns →
    CanStart g g.goals ns t → Has ns o) →
    Before g o t

-- For any two nodes of a graph, one runs before the other or it doesn't.
abbrev pub BeforeIsDecided : Type 0
BeforeIsDecided = (g : Graph) (o t : ℕ) → IsGraph g → Before g o t ⊎ (¬ (Before g o t))

-- A wanted node stays wanted as more nodes are done, and in makes of more goals.
abbrev pub WantedGrows : Type 0
WantedGrows =
    (g : Graph) (goals all done more : List ℕ) → IsWithin goals all → IsWithin done more →
    (n : ℕ) → Wanted g goals done n → Wanted g all more n

-- A node that can start can still start as more nodes are done, as long as it isn't done itself.
abbrev pub CanStartStays : Type 0
CanStartStays =
    (g : Graph) (goals all done more : List ℕ) → IsWithin goals all → IsWithin done more →
    (n : ℕ) → ¬ (Has more n) → CanStart g goals done n → CanStart g all more n
