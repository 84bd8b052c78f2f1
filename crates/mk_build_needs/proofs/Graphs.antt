-- Graphs with other prerequisites, and which numbers are those of nodes.
use Rattle.std.proofs.Common.{◌≡◌, ℕ, zero, suc, ◌+◌, ◌<◌, ◌≤◌, List, [], ◌∷◌, ◌++◌, length, map, ⊎_elim, refl, sym, ap, subst, ◌∙◌, append-nil, arith}
use Rattle.std.specs.List.{flat_map, range_with_len}
use Rattle.std.proofs.lemmas.Bool.{cases_lt}
use Rattle.std.proofs.lemmas.List.{get_or_past}
use Rattle.std.proofs.lemmas.List.FromFn.{length-map-range_with_len, get_or-map-range_with_len, map-range_with_len_more}
use Rattle.mk_graph.specs.declared.node.Node.{Node}
use Rattle.mk_graph.specs.Membership.{Has}
use Rattle.mk_graph.specs.Graph.{Graph, node, no_node, prerequisites, HasPath, one, then}
use Rattle.mk_graph.specs.Progress.{row}
use Rattle.mk_build_needs.specs.NeedsGraph.{with_prerequisites}
use Rattle.mk_build_needs.specs.Laws.{RowsGiveNeeds}

module _ (g : Graph) (given : ℕ → List ℕ) where
  -- the node with these prerequisites
  abbrev pub changed : ℕ → Node
  changed n = record (node g n) { groups = given n ∷ [] }

  pub node_is : (n : ℕ) → n < length g.nodes → node (with_prerequisites g given) n ≡ changed n
  node_is n low = get_or-map-range_with_len changed 0 (length g.nodes) n n no_node low (omega arith)

  -- a node has the given prerequisites
  pub prerequisites_are : (n : ℕ) → n < length g.nodes → prerequisites (with_prerequisites g given) n ≡ given n
  prerequisites_are n low = ap (λ (v : Node). flat_map (λ (group : List ℕ). group) v.groups) (node_is n low) ∙ append-nil (given n)

  pub count_is : length (with_prerequisites g given).nodes ≡ length g.nodes
  count_is = length-map-range_with_len changed 0 (length g.nodes)

  -- and nothing else has any
  pub prerequisites_within : (n p : ℕ) → Has (prerequisites (with_prerequisites g given) n) p → (n < length g.nodes) × Has (given n) p
  prerequisites_within n p h =
      ⊎_elim (λ low. (low, subst (λ (l : List ℕ). Has l p) (prerequisites_are n low) h))
      (λ past. let none : node (with_prerequisites g given) n ≡ no_node = get_or_past (with_prerequisites g given).nodes n no_node (let count = count_is in omega arith) in
      absurd (subst (λ (v : Node). Has (flat_map (λ (group : List ℕ). group) v.groups) p) none h)) (cases_lt n (length g.nodes))

  -- one more node stands behind those before it
  pub one_node_more : (n : ℕ) (before after : List Node) (last : Node) → before ≡ map changed (range_with_len 0 n) → last ≡ changed n → after ≡ before ++ last ∷ [] → after ≡ map changed (range_with_len 0 (n + 1))
  one_node_more n before after last are is e =
      e ∙ (ap (λ (l : List Node). l ++ last ∷ []) are ∙ (ap (λ (v : Node). map changed (range_with_len 0 n) ++ v ∷ []) is ∙ sym (map-range_with_len_more changed 0 n n (omega arith))))

  -- a path begins at a node
  pub path_begins : (n m : ℕ) → HasPath (with_prerequisites g given) n m → n < length g.nodes
  path_begins n m (one {p} h) = (prerequisites_within n p h).0
  path_begins n m (then {m = k} path h) = path_begins n k path

-- functions that agree on a range of numbers give the same list
same_on_range : {A : Type 0} (f k : ℕ → A) (a n : ℕ) → ((i : ℕ) → a ≤ i → i < a + n → f i ≡ k i) → map f (range_with_len a n) ≡ map k (range_with_len a n)
same_on_range f k a zero same = refl
same_on_range f k a (suc n) same =
    ap (λ x. x ∷ map f (range_with_len (a + 1) n)) (same a (omega arith) (omega arith))
    ∙ ap (λ (l : List _). k a ∷ l) (same_on_range f k (a + 1) n (λ i low high. same i (omega arith) (omega arith)))

-- the prerequisites of nodes alone count
pub same_graph : (g : Graph) (given other : ℕ → List ℕ) → ((n : ℕ) → n < length g.nodes → given n ≡ other n) → with_prerequisites g given ≡ with_prerequisites g other
same_graph g given other same =
    ap (λ (l : List Node). record { nodes = l; goals = g.goals })
    (same_on_range (changed g given) (changed g other) 0 (length g.nodes)
    (λ i low high. ap (λ (l : List ℕ). record (node g i) { groups = l ∷ [] }) (same i (omega arith))))

pub rows_give_needs : RowsGiveNeeds
rows_give_needs g s rows same = same_graph g (λ n. prerequisites g n ++ row rows n) _ (λ n low. ap (λ (l : List ℕ). prerequisites g n ++ l) (same n low))
