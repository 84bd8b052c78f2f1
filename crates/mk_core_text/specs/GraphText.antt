-- The printed text of a graph.
use Rattle.std.specs.Prelude.{ℕ, Bool, List, [], ◌∷◌, ◌++◌, codes, Result, Ok, if◌then◌else◌}
use Rattle.std.specs.List.{flat_map}
use Rattle.mk_graph.specs.Graph.{Graph, node}
use Rattle.mk_graph.specs.Serial.{serial_order}
use Rattle.mk_infer.specs.Commands.{commands}
use Rattle.mk_infer.specs.There.{Exists}
use Rattle.mk_infer.specs.declared.fault.InferFault.{InferFault}
use Rattle.mk_read.specs.Reading.{Makefile}
use Rattle.mk_infer.specs.Steps.{◌>>=◌}

-- Each name after a space.
abbrev pub names_text : Graph → List ℕ → List ℕ
names_text g ns = flat_map (λ n. 32 ∷ (node g n).name) ns

-- `.WAIT` and the names of each group.
abbrev pub waits_text : Graph → List (List ℕ) → List ℕ
waits_text g groups = flat_map (λ group. codes " .WAIT" ++ names_text g group) groups

-- The names of the groups, with `.WAIT` between groups.
abbrev pub groups_text : Graph → List (List ℕ) → List ℕ
groups_text g [] = []
groups_text g (group ∷ groups) = names_text g group ++ waits_text g groups

-- The line of a node: its name, whether it has a recipe and is phony, and its groups.
abbrev pub node_text : Graph → ℕ → List ℕ
node_text g n =
    (node g n).name ++ ((if (node g n).recipe then codes " recipe" else [])
    ++ ((if (node g n).phony then codes " phony" else [])
    ++ (58 ∷ (groups_text g (node g n).groups ++ 10 ∷ []))))

-- Each command after a tab, on a line of its own.
abbrev pub commands_text : List (List ℕ) → List ℕ
commands_text lines = flat_map (λ line. 9 ∷ (line ++ 10 ∷ [])) lines

-- The line of the goals.
abbrev pub goals_text : Graph → List ℕ
goals_text g = codes "goals" ++ (names_text g g.goals ++ 10 ∷ [])

-- The expanded commands of a name, or none unless they are asked for.
abbrev pub shown_lines : Bool → Makefile → Exists → List ℕ → Result (List (List ℕ)) InferFault
shown_lines asked m e name =
    if asked then (commands m e name >>= λ c. Ok c.lines) else Ok []

-- The line of a node followed by its commands, or the fault of expanding these.
abbrev pub shown_node : (List ℕ → Result (List (List ℕ)) InferFault) → Graph → ℕ
    → Result (List ℕ) InferFault
shown_node lines_for g n =
    lines_for (node g n).name >>= λ lines. Ok (node_text g n ++ commands_text lines)

-- The nodes in this order, or the first fault of expanding their commands.
unfoldable pub nodes_text : (List ℕ → Result (List (List ℕ)) InferFault) → Graph → List ℕ →
    Result (List ℕ) InferFault
nodes_text lines_for g [] = Ok []
nodes_text lines_for g (n ∷ ns) = do
  text ← shown_node lines_for g n
  rest ← nodes_text lines_for g ns
  Ok (text ++ rest)

-- The goals on a line, then the nodes in serial order.
abbrev pub graph_text : (List ℕ → Result (List (List ℕ)) InferFault) → Graph
    → Result (List ℕ) InferFault
graph_text lines_for g =
    nodes_text lines_for g (serial_order g) >>= λ nodes. Ok (goals_text g ++ nodes)
