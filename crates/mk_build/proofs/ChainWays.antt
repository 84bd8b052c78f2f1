-- A chain of carried recipes and a way at its end make a way; and names that differ have one number each.
use Rattle.std.proofs.Common.{◌≡◌, ℕ, ◌<◌, zero, suc, List, [], ◌∷◌, length, map, get_or, inl, inr, refl, sym, ap, subst, ◌∙◌, arith}
use Rattle.mk_graph.specs.declared.node.Node.{Node}
use Rattle.mk_graph.specs.Membership.{Has, IsDistinct}
use Rattle.mk_graph.specs.Graph.{Graph, no_node, IsSound}
use Rattle.mk_build.specs.Setting.{FileName, Setting, IsNumberOf}
use Rattle.mk_build.specs.Ways.{Way, over}
use Rattle.mk_build.specs.Stale.{Chain, here, further}

-- the way from the first recipe of the chain
pub way_over : (g : Graph) (s : Setting) (t : ℕ) (f : FileName) {n : ℕ} → Chain g s t n → Way g s f n → Way g s f t
way_over g s t f here way = way
way_over g s t f (further {o = o} n chain carries) way = way_over g s t f chain (over o carries way)

-- the name at a place stands in the list of names
name_stands : (nodes : List Node) (n : ℕ) → n < length nodes → Has (map (λ (v : Node). v.name) nodes) (get_or nodes n no_node).name
name_stands [] n low = absurd (omega arith)
name_stands (v ∷ nodes) zero low = inl refl
name_stands (v ∷ nodes) (suc n) low = inr (name_stands nodes n (omega arith))

-- two places of one name are one
one_place : (nodes : List Node) → IsDistinct (map (λ (v : Node). v.name) nodes) → (n m : ℕ) → n < length nodes → m < length nodes → (get_or nodes n no_node).name ≡ (get_or nodes m no_node).name → n ≡ m
one_place [] distinct n m low_n low_m same = absurd (omega arith)
one_place (v ∷ nodes) distinct zero zero low_n low_m same = refl
one_place (v ∷ nodes) distinct zero (suc m) low_n low_m same = absurd (distinct.0 (subst (λ (f : FileName). Has (map (λ (w : Node). w.name) nodes) f) (sym same) (name_stands nodes m (omega arith))))
one_place (v ∷ nodes) distinct (suc n) zero low_n low_m same = absurd (distinct.0 (subst (λ (f : FileName). Has (map (λ (w : Node). w.name) nodes) f) same (name_stands nodes n (omega arith))))
one_place (v ∷ nodes) distinct (suc n) (suc m) low_n low_m same = ap suc (one_place nodes distinct.1 n m (omega arith) (omega arith) same)

-- so a name has one number
pub one_number : (g : Graph) → IsSound g → (f : FileName) (n m : ℕ) → IsNumberOf g f n → IsNumberOf g f m → n ≡ m
one_number g sound f n m is_n is_m = one_place g.nodes sound.names n m is_n.0 is_m.0 (is_n.1 ∙ sym is_m.1)
