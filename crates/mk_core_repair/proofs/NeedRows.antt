-- The rows of what nodes need.
use Rattle.std.proofs.Common.{◌≡◌, ℕ, ◌<◌, Bool, List, [], ◌∷◌, ◌++◌, get_or, length, map, Vec, Global, inr, ⊎_elim, sym, ap, subst, ◌∙◌, arith}
use Rattle.std.proofs.lemmas.Bool.{cases_lt}
use Rattle.std.proofs.lemmas.List.{get_or_default, get_or_past, length-map}
use Rattle.mk_lemmas.proofs.Members.{Has-from_then}
use Rattle.mk_graph.proofs.Nodes.{recipe_is_node}
use Rattle.mk_build_needs.proofs.Sound.{needed_is_node}
use Rattle.mk_graph.specs.declared.node.Node.{Node}
use Rattle.mk_graph.specs.Graph.{Graph, IsGraph, node, no_node}
use Rattle.mk_graph.specs.Membership.{Has}
use Rattle.mk_graph.specs.Progress.{row}
use Rattle.mk_build.specs.Setting.{Setting, name, writes}
use Rattle.mk_build_needs.specs.Laws.{NeedsAreThese}
use Rattle.mk_build_needs.specs.Needs.{more_needs}

has_right : (xs ys : List ℕ) (n : ℕ) → Has ys n → Has (xs ++ ys) n
has_right [] ys n h = h
has_right (x ∷ xs) ys n h = inr (has_right xs ys n h)

-- what writes a file is a node
writer_is_node : (g : Graph) (s : Setting) (o : ℕ) (f : List ℕ) → Has (writes g s o) f → o < length g.nodes
writer_is_node g s o f write = recipe_is_node g o ((Has-from_then (node g o).recipe (s.writes (name g o)) f write).0)

-- what stands in the rows of needs is a node
pub row_within : NeedsAreThese → (g : Graph) (s : Setting) → IsGraph g → (rows : List (Vec ℕ Global)) → length rows ≡ length g.nodes → ((n : ℕ) → n < length g.nodes → row rows n ≡ more_needs g s n)
    → (n p : ℕ) → Has (row rows n) p → p < length g.nodes
row_within these g s graph rows count same n p h =
    ⊎_elim (λ low. needed_is_node these g s graph n p (subst (λ (l : List ℕ). Has l p) (same n low) h))
    (λ past. let none : row rows n ≡ [] = get_or_past (map (λ (r : Vec ℕ Global). r.items) rows) n [] (omega (arith, past, count, length-map rows (λ (r : Vec ℕ Global). r.items))) in
    absurd (subst (λ (l : List ℕ). Has l p) none h)) (cases_lt n (length g.nodes))

-- whether a node has a recipe, as the list of nodes says
pub recipe_at : (g : Graph) (nodes : List Node) (n : ℕ) (d : Node) (b : Bool) → nodes ≡ g.nodes → n < length g.nodes → (get_or nodes n d).recipe ≡ b → (node g n).recipe ≡ b
recipe_at g nodes n d b e low is =
    sym (ap (λ (l : List Node). (get_or l n d).recipe) e ∙ ap (λ (v : Node). v.recipe) (get_or_default g.nodes n d no_node low)) ∙ is
