-- Goals of a graph by their places.
use Rattle.std.proofs.Common.{◌≡◌, ◌∙◌, ◌+◌, ◌<◌, ◌&&◌, ℕ, true, false, List, length, get_or, take, sym, ap, subst}
use Rattle.std.specs.List.{list_all}
use Rattle.std.proofs.lemmas.List.{get_or_default}
use Rattle.std.proofs.lemmas.List.Folds.{list_all_at, list_all_more}
use Rattle.mk_lemmas.proofs.Members.{Has-get_or}
use Rattle.mk_lines.specs.Names.{has_name}
use Rattle.mk_graph.specs.declared.node.Node.{Node}
use Rattle.mk_graph.specs.Membership.{Has}
use Rattle.mk_graph.specs.Graph.{Graph, IsGraph, no_node}
use Rattle.mk_build.specs.Setting.{name}
use Rattle.mk_world_plan.specs.PlanText.{are_all_named}

-- a goal is the number of a node
pub goal_low : (g : Graph) (goals : List ℕ) (i : ℕ) → IsGraph g → goals ≡ g.goals → i < length goals → get_or goals i 0 < length g.nodes
goal_low g goals i is same lt = is.sound.goals (get_or goals i 0) (subst (λ (l : List ℕ). Has l (get_or goals i 0)) same (Has-get_or goals i 0 lt))

-- the name of the node at a number
pub name_at : (g : Graph) (nodes : List Node) (n : ℕ) (v : Node) → nodes ≡ g.nodes → n < length nodes → (get_or nodes n v).name ≡ name g n
name_at g nodes n v is lt = ap (λ (w : Node). w.name) (get_or_default nodes n v no_node lt ∙ ap (λ (l : List Node). get_or l n no_node) is)

-- one goal that isn't named settles it
pub one_lacks : (g : Graph) (names : List (List ℕ)) (goals : List ℕ) (i : ℕ) → goals ≡ g.goals → i < length goals → has_name names (name g (get_or goals i 0)) ≡ false → false ≡ are_all_named g names
one_lacks g names goals i same lt lacks = sym (ap (list_all (λ n. has_name names (name g n))) (sym same) ∙ list_all_at (λ n. has_name names (name g n)) goals i 0 lt lacks)

-- one goal more is named
pub one_named : (g : Graph) (names : List (List ℕ)) (goals : List ℕ) (i : ℕ) → i < length goals → has_name names (name g (get_or goals i 0)) ≡ true → list_all (λ n. has_name names (name g n)) (take i goals) ≡ true → list_all (λ n. has_name names (name g n)) (take (i + 1) goals) ≡ true
one_named g names goals i lt has old = list_all_more (λ n. has_name names (name g n)) goals i 0 lt ∙ (ap (λ b. b && has_name names (name g (get_or goals i 0))) old ∙ has)
