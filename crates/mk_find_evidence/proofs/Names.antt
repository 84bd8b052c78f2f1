-- A node's number is that of its name.
use Rattle.std.proofs.Common.{◌≡◌, ℕ, zero, suc, ◌+◌, ◌<◌, true, false, List, [], ◌∷◌, length, map, Some, refl, ap, ◌∙◌, subst, arith, inl, inr, get_or}
use Rattle.std.specs.Prelude.{unwrap_or}
use Rattle.std.specs.Str.{bytes_eq}
use Rattle.std.proofs.lemmas.Bool.{cases_Bool, cond-true, cond-false}
use Rattle.std.proofs.lemmas.Slice.Eq.{bytes_eq-Decides}
use Rattle.mk_lines.specs.Names.{place_from}
use Rattle.mk_graph.specs.Membership.{Has, IsDistinct}
use Rattle.mk_graph.specs.declared.node.Node.{Node}
use Rattle.mk_graph.specs.Graph.{Graph, IsSound, no_node}
use Rattle.mk_build.specs.Setting.{name}
use Rattle.mk_world.specs.State.{number_of}

name_at : List Node → ℕ → List ℕ
name_at nodes n = (get_or nodes n no_node).name

-- the name at a place stands among the names
among : (nodes : List Node) (n : ℕ) → n < length nodes → Has (map (λ (k : Node). k.name) nodes) (name_at nodes n)
unfolding name_at
among [] n low = absurd (omega arith)
among (k ∷ nodes) zero low = inl refl
among (k ∷ nodes) (suc n) low = inr (among nodes n (omega arith))

-- where names differ, the place of the name at a place is that place
placed : (nodes : List Node) (from n : ℕ) → IsDistinct (map (λ (k : Node). k.name) nodes) → n < length nodes → place_from from (map (λ (k : Node). k.name) nodes) (name_at nodes n) ≡ Some (from + n)
unfolding place_from name_at
placed [] from n differ low = absurd (omega arith)
placed (k ∷ nodes) from zero differ low =
    let same : bytes_eq k.name k.name ≡ true = (bytes_eq-Decides k.name k.name).1 refl in
    let at : from ≡ from + 0 = omega arith in
    cond-true (bytes_eq k.name k.name) (Some from) (place_from (from + 1) (map (λ (k : Node). k.name) nodes) k.name) same ∙ ap (λ m. Some m) at
placed (k ∷ nodes) from (suc n) differ low =
    let there = among nodes n (omega arith) in
    let apart : bytes_eq (name_at nodes n) k.name ≡ false = elim (cases_Bool (bytes_eq (name_at nodes n) k.name)) [
      | inl e ↦ absurd (differ.0 (subst (Has (map (λ (k : Node). k.name) nodes)) ((bytes_eq-Decides (name_at nodes n) k.name).0 e) there))
      | inr e ↦ e
    ] in
    let at : from + 1 + n ≡ from + suc n = omega arith in
    cond-false (bytes_eq (name_at nodes n) k.name) (Some from) (place_from (from + 1) (map (λ (k : Node). k.name) nodes) (name_at nodes n)) apart ∙ (placed nodes (from + 1) n differ.1 (omega arith) ∙ ap (λ m. Some m) at)

-- the number of the name of a node
pub number_is : (g : Graph) (n : ℕ) → IsSound g → n < length g.nodes → number_of g (name g n) ≡ n
unfolding name_at
number_is g n sound low =
    let at : 0 + n ≡ n = omega arith in
    ap (λ o. unwrap_or o (length g.nodes)) (placed g.nodes 0 n sound.names low) ∙ at

-- and those of the names of nodes
pub numbers_are : (g : Graph) (ns : List ℕ) → IsSound g → ((n : ℕ) → Has ns n → n < length g.nodes) → map (number_of g) (map (name g) ns) ≡ ns
numbers_are g [] sound low = refl
numbers_are g (n ∷ ns) sound low =
    let first = number_is g n sound (low n (inl refl)) in
    let rest = numbers_are g ns sound (λ m h. low m (inr h)) in
    λ i. first i ∷ rest i
