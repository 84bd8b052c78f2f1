-- What the fixtures are tested for makes them sound.
use Rattle.std.proofs.Common.{◌≡◌, ℕ, zero, suc, ◌+◌, ◌<◌, List, [], ◌∷◌, length, map, take, get_or, Vec, inl, inr, ⊎_elim, sym, ap, subst, ◌∙◌, arith}
use Rattle.std.specs.declared.alloc.Global.{Global}
use Rattle.std.proofs.lemmas.List.{length-map, map_more, get_or-map}
use mathlib.Core.Path.{fun_ext}
use Rattle.mk_lemmas.proofs.Members.{Has-cases}
use Rattle.mk_lemmas.proofs.Lists.{get_or-map_default}
use Rattle.mk_graph.specs.declared.node.Node.{Node}
use Rattle.mk_graph.specs.Membership.{Has, IsDistinct}
use Rattle.mk_graph.specs.Graph.{Graph, Reached, goal, onward, no_node, prerequisites, IsSound}
use Rattle.tests_model.specs.Rows.{items_of, row, needs, AreRows, HaveParents}

-- one more element whose image is another adds nothing
pub not_Has-map_more : {X Y : Type 0} (f : X → Y) (xs : List X) (i : ℕ) (x : X) (y : Y) → i < length xs → x ≡ get_or xs i x → (f x ≡ y → ⊥) → ¬ (Has (map f (take i xs)) y) → ¬ (Has (map f (take (i + 1) xs)) y)
not_Has-map_more f xs i x y within is ne out h =
    ⊎_elim out (λ last. ⊎_elim (λ e. ne (ap f is ∙ e)) (λ none. none) last) (Has-cases (map f (take i xs)) (f (get_or xs i x) ∷ []) y (subst (λ l. Has l y) (map_more f xs i x within) h))

-- what holds at each place holds of all that stands in the list
pub Has-from_All : (P : ℕ → Type 0) (xs : List ℕ) → ((k : ℕ) → k < length xs → P (get_or xs k 0)) → (n : ℕ) → Has xs n → P n
Has-from_All P [] h n in_it = absurd in_it
Has-from_All P (x ∷ xs) h n (inl here) = subst P here (h 0 (omega arith))
Has-from_All P (x ∷ xs) h n (inr there) = Has-from_All P xs (λ k low. h (suc k) (omega arith)) n there

-- a row at its place
pub row_is : (rows : List (Vec ℕ Global)) (n : ℕ) (r : Vec ℕ Global) → n < length rows → r ≡ get_or rows n r → row rows n ≡ r.items
row_is rows n r low is = get_or-map (λ (v : Vec ℕ Global). v.items) rows n r [] low ∙ ap (λ (v : Vec ℕ Global). v.items) (sym is)

module _ (g : Graph) (rows : List (Vec ℕ Global)) (are : items_of rows ≡ map needs g.nodes) where
  -- a row is what its node needs
  rows_are : row rows ≡ prerequisites g
  rows_are = fun_ext (λ n. ap (λ (l : List (List ℕ)). get_or l n []) are ∙ get_or-map_default needs g.nodes n no_node)

  -- there are as many rows as nodes
  rows_length : length rows ≡ length g.nodes
  rows_length = sym (length-map rows (λ (r : Vec ℕ Global). r.items)) ∙ ap (λ (l : List (List ℕ)). length l) are ∙ length-map g.nodes needs

  -- a node is reached where each is a goal or has a parent before it
  reached_below : HaveParents rows g.goals → (bound n : ℕ) → n < bound → n < length rows → Reached g n
  reached_below parents zero n low within = absurd (omega arith)
  reached_below parents (suc bound) n low within =
      ⊎_elim (λ h. goal h) (λ parent. let before = parent.1 in onward (reached_below parents bound parent.0 (omega arith) (omega arith)) (subst (λ (f : ℕ → List ℕ). Has (f parent.0) n) rows_are parent.2)) (parents n within)

  -- so nodes and goals that were tested are sound
  pub is_sound : IsDistinct (map (λ (node : Node). node.name) g.nodes) → AreRows rows → ((n : ℕ) → Has g.goals n → n < length g.nodes) → HaveParents rows g.goals → IsSound g
  is_sound distinct within low parents =
      let same = rows_length in
      record {
        names = distinct;
        goals = low;
        edges = λ n p need. subst (λ k. p < k) same (within n p (subst (λ (f : ℕ → List ℕ). Has (f n) p) (sym rows_are) need));
        reached = λ n lt. reached_below parents (suc n) n (omega arith) (omega arith);
      }
