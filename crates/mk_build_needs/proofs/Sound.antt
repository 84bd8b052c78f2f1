-- A graph with further prerequisites is sound.
use Rattle.std.proofs.Common.{◌≡◌, ℕ, ◌<◌, List, ◌++◌, length, map, inl, inr, ⊎_elim, sym, ap, subst, ◌∙◌, arith}
use Rattle.std.proofs.lemmas.List.{ext_get_or, length-map}
use Rattle.mk_lemmas.proofs.Members.{Has-cases, Has-from_then, Has-left, Has-right}
use Rattle.mk_lemmas.proofs.Lists.{get_or-map_default}
use Rattle.mk_graph.proofs.Nodes.{recipe_is_node}
use Rattle.mk_graph.specs.declared.node.Node.{Node}
use Rattle.mk_graph.specs.Membership.{Has, IsDistinct}
use Rattle.mk_graph.specs.Graph.{Graph, node, no_node, prerequisites, Reached, goal, onward, IsSound, IsGraph}
use Rattle.mk_graph.proofs.Acyclic.{is_node}
use Rattle.mk_graph.specs.Laws.{ComesThroughWithoutCycles}
use Rattle.mk_build.specs.Setting.{FileName, Setting, name, writes}
use Rattle.mk_build_needs.specs.Laws.{NeedsAreThese, NoCycleIsMissed}
use Rattle.mk_build_needs.specs.Needs.{more_needs}
use Rattle.mk_build_needs.specs.NeedsGraph.{with_prerequisites, needs_graph}
use Rattle.mk_build_needs.proofs.Graphs.{node_is, prerequisites_are, count_is, prerequisites_within}

abbrev name_of : Node → List ℕ
name_of one = one.name

abbrev pub graph_of : List Node → List ℕ → Graph
graph_of nodes goals = record { nodes = nodes; goals = goals }

-- a graph from its parts
pub handed_is : (g : Graph) (given : ℕ → List ℕ) (nodes : List Node) (goals : List ℕ) → nodes ≡ (with_prerequisites g given).nodes → goals ≡ g.goals → graph_of nodes goals ≡ with_prerequisites g given
handed_is g given nodes goals e e' = ap (λ (l : List Node). graph_of l goals) e ∙ ap (λ (l : List ℕ). graph_of (with_prerequisites g given).nodes l) e'

module _ (g : Graph) (graph : IsGraph g) (more : ℕ → List ℕ) (within : (n p : ℕ) → Has (more n) p → p < length g.nodes) where
  abbrev given : ℕ → List ℕ
  given n = prerequisites g n ++ more n

  abbrev other : Graph
  other = with_prerequisites g given

  -- the names stay
  names_stay : map name_of g.nodes ≡ map name_of other.nodes
  names_stay =
      let many = length-map g.nodes name_of in
      let count = count_is g given in
      ext_get_or (name_of no_node) (map name_of g.nodes) (map name_of other.nodes)
      (let others = length-map other.nodes name_of in omega arith)
      (λ i low. get_or-map_default name_of g.nodes i no_node ∙ (ap name_of (sym (node_is g given i (omega arith))) ∙ sym (get_or-map_default name_of other.nodes i no_node)))

  -- each node that is reached is still reached
  still_reached : (n : ℕ) → Reached g n → Reached other n
  still_reached n (goal h) = goal h
  still_reached n (onward {n = m} reached h) =
      onward (still_reached m reached) (subst (λ (l : List ℕ). Has l n) (sym (prerequisites_are g given m (is_node g m n h))) (Has-left (prerequisites g m) (more m) n h))

  -- a prerequisite is a node
  edges_within : (n p : ℕ) → Has (prerequisites other n) p → p < length other.nodes
  edges_within n p h =
      let low : p < length g.nodes = ⊎_elim (graph.sound.edges n p) (within n p) (Has-cases (prerequisites g n) (more n) p (prerequisites_within g given n p h).1) in
      subst (λ k. p < k) (sym (count_is g given)) low

  pub sound_with : IsSound other
  sound_with = record {
    names = subst (λ (l : List (List ℕ)). IsDistinct l) names_stay graph.sound.names;
    goals = λ n h. subst (λ k. n < k) (sym (count_is g given)) (graph.sound.goals n h);
    edges = edges_within;
    reached = λ n low. still_reached n (graph.sound.reached n (subst (λ k. n < k) (count_is g given) low));
  }

-- what writes a file is a node
writer_is_node : (g : Graph) (s : Setting) (o : ℕ) (f : FileName) → Has (writes g s o) f → o < length g.nodes
writer_is_node g s o f write = recipe_is_node g o (Has-from_then (node g o).recipe (s.writes (name g o)) f write).0

-- what a node needs is a node
pub needed_is_node : NeedsAreThese → (g : Graph) (s : Setting) → IsGraph g → (n o : ℕ) → Has (more_needs g s n) o → o < length g.nodes
needed_is_node these g s graph n o h =
    elim ((these g s graph n o).0 (Has-right (prerequisites g n) (more_needs g s n) o h)) [
      | inl given ↦ graph.sound.edges n o given
      | inr (inl (f, read, write, differ)) ↦ writer_is_node g s o f write
      | inr (inr (none, write)) ↦ writer_is_node g s o (name g n) write
    ]

pub no_cycle_is_missed : NeedsAreThese → ComesThroughWithoutCycles → NoCycleIsMissed
no_cycle_is_missed these through g s graph (finished, walk) n =
    through (needs_graph g s) finished (sound_with g graph (more_needs g s) (needed_is_node these g s graph)) walk n
