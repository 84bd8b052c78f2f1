-- What the rows of prerequisites are, and what the walk over them means for the graph.
use Rattle.std.proofs.Common.{◌≡◌, ℕ, ◌<◌, ◌≤◌, List, [], length, map, get_or, reverse, All, Vec, sym, ap, subst, ◌∙◌, arith}
use Rattle.std.specs.declared.alloc.Global.{Global}
use Rattle.std.specs.List.{flat_map}
use Rattle.std.proofs.lemmas.List.{length-map}
use mathlib.Core.Path.{fun_ext}
use Rattle.mk_lemmas.proofs.Members.{All-from_Has}
use Rattle.mk_lemmas.proofs.Lists.{get_or-map_default}
use Rattle.mk_graph.specs.declared.node.Node.{Node}
use Rattle.mk_graph.specs.Membership.{Has}
use Rattle.mk_graph.specs.Graph.{Graph, no_node, prerequisites, IsSound, IsGraph}
use Rattle.mk_graph.specs.Walk.{WalkEnd, Through, Closes, Walks}
use Rattle.mk_graph.specs.declared.walk.End.{End}
use Rattle.mk_graph.specs.Progress.{row, AreRows, walk_end}
use Rattle.mk_graph.specs.Build.{WalksAll}
use Rattle.mk_graph.specs.Serial.{serial_order}
use Rattle.mk_graph.proofs.Walks.{holds_closes}
use Rattle.mk_graph.proofs.Acyclic.{no_cycle}
use Rattle.mk_graph.proofs.SerialOrder.{serial_is}

-- the prerequisites of a node
abbrev pub joined_groups : Node → List ℕ
joined_groups node = flat_map (λ group. group) node.groups

module _ (g : Graph) (rows : List (Vec ℕ Global)) (are : map (λ (r : Vec ℕ Global). r.items) rows ≡ map joined_groups g.nodes) where
  -- a row is what its node needs
  pub rows_are : row rows ≡ prerequisites g
  rows_are = fun_ext (λ n. ap (λ (l : List (List ℕ)). get_or l n []) are ∙ get_or-map_default joined_groups g.nodes n no_node)

  -- there are as many rows as nodes
  pub rows_length : length rows ≡ length g.nodes
  rows_length = sym (length-map rows (λ (r : Vec ℕ Global). r.items)) ∙ ap (λ (l : List (List ℕ)). length l) are ∙ length-map g.nodes joined_groups

  -- rows of a sound graph hold numbers of rows
  pub rows_within : IsSound g → AreRows rows
  rows_within sound n p h =
      let low = sound.edges n p (subst (λ (f : ℕ → List ℕ). Has (f n) p) rows_are h) in
      let same = rows_length in
      omega arith

  -- a walk over the rows is one of the graph
  pub walks_graph : (end : WalkEnd) → Walks (row rows) [] [] g.goals end → WalksAll g end
  walks_graph end w = subst (λ (f : ℕ → List ℕ). Walks f [] [] g.goals end) rows_are w

-- a sound graph of few nodes that is walked through is one, and the walk's order is its serial order
pub is_graph : (g : Graph) (order : List ℕ) → IsSound g → length g.nodes ≤ 4096 → WalksAll g (Through (reverse order)) → IsGraph g × (order ≡ serial_order g)
is_graph g order sound few w =
    let acyclic = no_cycle g (reverse order) sound w in
    (record { sound = sound; few = few; no_cycle = acyclic }, serial_is g order acyclic w)

-- the nodes of a closed path are nodes
pub path_within : (g : Graph) (path : List ℕ) → IsSound g → WalksAll g (Closes path) → All (λ n. n < length g.nodes) path
path_within g path sound w = All-from_Has (λ n. n < length g.nodes) path (holds_closes (prerequisites g) (λ n. n < length g.nodes) (λ n p low need. sound.edges n p need) w (λ n u. absurd u) sound.goals)

-- what the walk over the rows says of the graph
pub walked : (g : Graph) (rows now : List (Vec ℕ Global)) (nodes : List Node) (goals : List ℕ) (end : End)
    (it : End) → now ≡ rows → map (λ (r : Vec ℕ Global). r.items) rows ≡ map joined_groups nodes → nodes
    ≡ g.nodes → goals ≡ g.goals → it ≡ end → Walks (row now) [] [] goals (walk_end it)
    → WalksAll g (walk_end end)
walked g rows now nodes goals end it now_is are nodes_are goals_are it_is w =
    let w1 : Walks (row now) [] [] goals (walk_end end) = subst (λ (e : End). Walks (row now) [] [] goals (walk_end e)) it_is w in
    let w2 : Walks (row rows) [] [] goals (walk_end end) = subst (λ (l : List (Vec ℕ Global)). Walks (row l) [] [] goals (walk_end end)) now_is w1 in
    let w3 : Walks (row rows) [] [] g.goals (walk_end end) = subst (λ (l : List ℕ). Walks (row rows) [] [] l (walk_end end)) goals_are w2 in
    walks_graph g rows (are ∙ ap (λ (l : List Node). map joined_groups l) nodes_are) (walk_end end) w3
