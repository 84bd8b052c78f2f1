-- What a walk from goals visited, and the nodes of its names.
use Rattle.std.specs.Prelude.{◌≡◌, ℕ, ◌+◌, Bool, true, false, ◌||◌, not, List, [], ◌∷◌, map, take, if◌then◌else◌}
use Rattle.mk_graph.specs.Graph.{max_nodes}
use Rattle.mk_graph.specs.declared.node.Node.{Node}
use Rattle.mk_read.specs.Names.{has_name}
use Rattle.mk_read.specs.Reading.{Makefile}
use Rattle.mk_read.specs.Rules.{has_some}
use Rattle.mk_read.specs.Needs.{groups}
use Rattle.mk_infer.specs.Selection.{needs, in_node_numbers, with_choice}
use Rattle.mk_infer.specs.Table.{words_in}
use Rattle.mk_infer.specs.Targets.{have_text, is_target}
use Rattle.mk_infer.specs.There.{Exists, is_given}
use Rattle.mk_infer.specs.Walk.{Meets}
use Rattle.mk_infer.specs.Choosing.{ResolvedRule, resolved_rule}

-- a group isn't empty
abbrev pub has_numbers : List ℕ → Bool
has_numbers [] = false
has_numbers (n ∷ ns) = true

-- the number is put first: into the first group, or in a group of its own if `apart` is true
abbrev pub with_number : Bool → ℕ → List (List ℕ) → List (List ℕ)
with_number apart number [] = (number ∷ []) ∷ []
with_number apart number (group ∷ groups) =
    if apart then (number ∷ []) ∷ (group ∷ groups) else (number ∷ group) ∷ groups

-- a name that a walk visited, and what makes it
pub record VisitedName : Type 0 where
  pub name : List ℕ
  pub making : ResolvedRule

-- the name with what makes it
abbrev pub met_of : Makefile → Exists → List ℕ → VisitedName
met_of m e name = record { name = name; making = resolved_rule m e name }

-- the names that a walk visited, and what makes as many of them as a graph may have
pub record Walked : Type 0 where
  pub names : List (List ℕ)
  pub met : List VisitedName

-- The names are the first of those that a walk from the goals visits, at most one more than a graph
-- may have.
pub record IsWalked (m : Makefile) (e : Exists) (goals : List (List ℕ))
    (walked : Walked) : Type 0 where
  pub all : List (List ℕ)
  pub walk : Meets (needs m e) [] goals all
  pub front : walked.names ≡ take (max_nodes + 1) all
  pub made : walked.met ≡ map (met_of m e) (take max_nodes all)

-- nothing makes a name that was visited: it has no commands, is no target, has no inference rule,
-- isn't phony and isn't given
abbrev pub lacks : Makefile → Exists → VisitedName → Bool
lacks m e met =
    not (has_some met.making.commands ||
    (e.any_leaf ||
    (is_target m met.name ||
    (has_some met.making.choice || (has_name m.phony met.name || is_given e met.name)))))

-- the node of a name that was visited
abbrev pub node_with : Makefile → List (List ℕ) → VisitedName → Node
node_with m all met = record {
  name = met.name;
  groups =
      in_node_numbers all (with_choice m.not_parallel met.making.choice
      (groups m.not_parallel (words_in met.making.rules)));
  recipe = have_text met.making.commands;
  phony = has_name m.phony met.name;
}
