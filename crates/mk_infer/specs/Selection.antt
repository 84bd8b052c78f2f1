-- The graph of the names that goals reach.
use Rattle.std.specs.Prelude.{◌≡◌, ℕ, Bool, not, ◌||◌, List, [], ◌∷◌, ◌++◌, map, find, take, option_to_list, Option, None, Some, Result, Ok, Err, if◌then◌else◌}
use Rattle.mk_graph.specs.declared.fault.GraphFault.TheVariants as graph
use Rattle.mk_graph.specs.declared.node.Node.{Node}
use Rattle.mk_graph.specs.Graph.{Graph, max_nodes}
use Rattle.mk_graph.specs.Build.{Builds}
use Rattle.mk_read.specs.Names.{has_name}
use Rattle.mk_read.specs.Needs.{groups, in_first}
use Rattle.mk_read.specs.Reading.{Makefile}
use Rattle.mk_read.specs.Rules.{has_some}
use Rattle.mk_infer.specs.declared.fault.InferFault.{InferFault}
use Rattle.mk_infer.specs.declared.fault.InferFault.TheVariants.{NoRule, Graph as Refused, Memory}
use Rattle.mk_lines.specs.Names.{number_of}
use Rattle.mk_infer.specs.Targets.{is_target, words_for, prerequisites_of, have_text}
use Rattle.mk_infer.specs.There.{Exists, is_given}
use Rattle.mk_infer.specs.Inference.{choice, chosen_commands}
use Rattle.mk_infer.specs.Needed.{needing_place, place_of_graph}
use Rattle.mk_infer.specs.Walk.{Meets}

-- the prerequisites of a name, the inferred one first
abbrev pub needs : Makefile → Exists → List ℕ → List (List ℕ)
needs m e name = option_to_list (choice m e name) ++ prerequisites_of m name

-- the groups with the inferred prerequisite put first: into the first group, or as a group of its
-- own if nothing runs in parallel
abbrev pub with_choice : Bool → Option (List ℕ) → List (List (List ℕ)) → List (List (List ℕ))
with_choice not_parallel None groups = groups
with_choice not_parallel (Some name) groups =
    if not_parallel then (name ∷ []) ∷ groups else in_first name groups

-- the prerequisites of a name, in groups
abbrev pub groups_of : Makefile → Exists → List ℕ → List (List (List ℕ))
groups_of m e name =
    with_choice m.not_parallel (choice m e name) (groups m.not_parallel (words_for m name))

-- the numbers of the names in groups
abbrev pub in_node_numbers : List (List ℕ) → List (List (List ℕ)) → List (List ℕ)
in_node_numbers all groups = map (map (number_of all)) groups

-- the node of a name, with its prerequisites numbered by their place in the list of all names
abbrev pub node_of : Makefile → Exists → List (List ℕ) → List ℕ → Node
node_of m e all name =
    record {
      name = name;
      groups = in_node_numbers all (groups_of m e name);
      recipe = have_text (chosen_commands m e name);
      phony = has_name m.phony name;
    }

-- the graph of these names, each numbered by its place
abbrev pub graph_of : Makefile → Exists → List (List ℕ) → List (List ℕ) → Graph
graph_of m e goals all =
    record { nodes = map (node_of m e all) all; goals = map (number_of all) goals }

-- nothing makes the name: it is no target, has no inference rule, isn't phony and isn't given
abbrev pub is_lacking : Makefile → Exists → List ℕ → Bool
is_lacking m e name =
    not (e.any_leaf ||
    (is_target m name ||
    (has_some (choice m e name) || (has_name m.phony name || is_given e name))))

-- the first name that nothing makes, among as many names as a graph may have
abbrev pub lacking : Makefile → Exists → List (List ℕ) → Option (List ℕ)
lacking m e all = find (is_lacking m e) (take max_nodes all)

-- the graph is built, or refused with a fault other than `Memory`
abbrev pub Built : Makefile → Graph → Result Graph InferFault → Type 0
Built m handed (Ok g) = Builds handed (Ok g)
Built m handed (Err (Refused graph.Memory place)) = ⊥
Built m handed (Err (Refused fault place)) =
    Builds handed (Err fault) × (place ≡ place_of_graph m fault)
Built m handed (Err fault) = ⊥

-- `NoRule` (41) if nothing makes a name, else the graph is built or refused
abbrev pub BuiltUnless : Makefile → Option (List ℕ) → Graph → Result Graph InferFault → Type 0
BuiltUnless m (Some name) handed answer = answer ≡ Err (NoRule name (needing_place m name))
BuiltUnless m None handed answer = Built m handed answer

-- The answer for the goals is the graph of the names that a walk from them visits, or its first
-- fault; or it is `Memory`, of which nothing is said.
abbrev pub Selects : Makefile → Exists → List (List ℕ) → Result Graph InferFault → Type 0
Selects m e goals (Err Memory) = Unit {0}
Selects m e goals answer =
    (all : List (List ℕ)) × Meets (needs m e) [] goals all ×
    BuiltUnless m (lacking m e all) (graph_of m e goals all) answer
