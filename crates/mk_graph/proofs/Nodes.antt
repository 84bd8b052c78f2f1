-- Which numbers are nodes of a graph.
use Rattle.std.proofs.Common.{◌≡◌, ℕ, ◌<◌, true, length, ⊎_elim, sym, ◌∙◌, ap}
use Rattle.std.proofs.lemmas.Bool.{cases_lt, true≢false}
use Rattle.std.proofs.lemmas.List.{get_or_past}
use Rattle.mk_graph.specs.declared.node.Node.{Node}
use Rattle.mk_graph.specs.Graph.{Graph, IsGraph, Reached, goal, onward, node, no_node}

-- What has a recipe is a node.
pub recipe_is_node : (g : Graph) (n : ℕ) → (node g n).recipe ≡ true → n < length g.nodes
recipe_is_node g n recipe =
    ⊎_elim (λ lt. lt) (λ past. let none : node g n ≡ no_node = get_or_past g.nodes n no_node past in absurd (true≢false (sym recipe ∙ ap (λ (v : Node). v.recipe) none))) (cases_lt n (length g.nodes))

-- What goals reach is a node.
pub reached_is_node : (g : Graph) → IsGraph g → (n : ℕ) → Reached g n → n < length g.nodes
reached_is_node g is n (goal h) = is.sound.goals n h
reached_is_node g is n (onward {n = m} more h) = is.sound.edges m n h
