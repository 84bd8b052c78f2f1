-- A graph with other prerequisites: its nodes, and what they need.
use Rattle.std.proofs.Common.{◌≡◌, ◌∙◌, ℕ, ◌<◌, List, [], ◌∷◌, length, ⊎_elim, ap, subst, append-nil, arith}
use Rattle.std.specs.List.{flat_map}
use Rattle.std.proofs.lemmas.Bool.{cases_lt}
use Rattle.std.proofs.lemmas.List.{get_or_past}
use Rattle.std.proofs.lemmas.List.FromFn.{get_or-map-range_with_len, length-map-range_with_len}
use Rattle.mk_graph.specs.declared.node.Node.{Node}
use Rattle.mk_graph.specs.Graph.{Graph, no_node, node, prerequisites}
use Rattle.mk_graph.specs.Membership.{Has}
use Rattle.mk_build_needs.specs.NeedsGraph.{with_prerequisites}

module _ (g : Graph) (given : ℕ → List ℕ) where
  -- the node with these prerequisites
  abbrev changed : ℕ → Node
  changed n = record (node g n) { groups = given n ∷ [] }

  pub node_is : (n : ℕ) → n < length g.nodes → node (with_prerequisites g given) n ≡ changed n
  node_is n low = get_or-map-range_with_len changed 0 (length g.nodes) n n no_node low (omega arith)

  pub count_is : length (with_prerequisites g given).nodes ≡ length g.nodes
  count_is = length-map-range_with_len changed 0 (length g.nodes)

  -- a node has the given prerequisites
  pub needs_are : (n : ℕ) → n < length g.nodes → prerequisites (with_prerequisites g given) n ≡ given n
  needs_are n low = ap (λ (v : Node). flat_map (λ (group : List ℕ). group) v.groups) (node_is n low) ∙ append-nil (given n)

  -- and nothing else has any
  pub prerequisites_within : (n p : ℕ) → Has (prerequisites (with_prerequisites g given) n) p → (n < length g.nodes) × Has (given n) p
  prerequisites_within n p h =
      ⊎_elim (λ low. (low, subst (λ (l : List ℕ). Has l p) (needs_are n low) h))
      (λ past. let none : node (with_prerequisites g given) n ≡ no_node = get_or_past (with_prerequisites g given).nodes n no_node (let count = count_is in omega arith) in
      absurd (subst (λ (v : Node). Has (flat_map (λ (group : List ℕ). group) v.groups) p) none h)) (cases_lt n (length g.nodes))
