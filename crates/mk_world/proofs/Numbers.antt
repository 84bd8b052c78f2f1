-- The numbers at which names stand.
use Rattle.std.proofs.Common.{◌≡◌, ℕ, zero, suc, ◌+◌, ◌<◌, ◌≤◌, Bool, true, false, not, cond, List, [], ◌∷◌, ◌++◌, length, map, Option, Some, None, ◌⊎◌, refl, sym, ap, ◌∙◌, arith, inl, inr, get_or, subst, take}
use Rattle.std.specs.Prelude.{unwrap_or}
use Rattle.std.proofs.lemmas.Bool.{cases_Bool}
use Rattle.std.proofs.lemmas.List.{get_or-map, length-map, map_push, take-map, take_more}
use Rattle.std.specs.Str.{bytes_eq}
use Rattle.mk_lines.proofs.NameTests.{Has-from_has_name}
use Rattle.mk_lines.specs.Names.{has_name, number_of, place_from, with_name}
use Rattle.mk_graph.specs.declared.node.Node.{Node}
use Rattle.mk_graph.specs.Membership.{Has, IsDistinct}
use Rattle.mk_build.specs.Setting.{FileName}
use Rattle.mk_world.specs.Tables.{look}
use Rattle.mk_world.proofs.Tables.{Placed, placed, unplaced}

-- The number of a name is its place, or how many names there are where it has none
numbered_from : (n : ℕ) (names : List FileName) (f : FileName) → ((number_of names f < length names) × (place_from n names f ≡ Some (n + number_of names f))) ⊎ ((number_of names f ≡ length names) × (place_from n names f ≡ None))
unfolding place_from
numbered_from n [] f = inr (refl, refl)
numbered_from n (h ∷ names) f = at (bytes_eq f h) (numbered_from (n + 1) names f)
  where
    at : (b : Bool) → ((number_of names f < length names) × (place_from (n + 1) names f ≡ Some (n + 1 + number_of names f))) ⊎ ((number_of names f ≡ length names) × (place_from (n + 1) names f ≡ None))
        → ((cond (not b) (1 + number_of names f) 0 < suc (length names)) × (cond b (Some n) (place_from (n + 1) names f) ≡ Some (n + cond (not b) (1 + number_of names f) 0))) ⊎ ((cond (not b) (1 + number_of names f) 0 ≡ suc (length names)) × (cond b (Some n) (place_from (n + 1) names f) ≡ None))
    at true k = inl (omega arith, ap Some (omega arith))
    at false k = elim k [
      | inl there ↦ inl (omega (arith, there.0), there.1 ∙ ap Some (omega arith))
      | inr out ↦ inr (omega (arith, out.0), out.1)
    ]

pub numbered : (names : List FileName) (f : FileName) → ((number_of names f < length names) × (place_from 0 names f ≡ Some (number_of names f))) ⊎ ((number_of names f ≡ length names) × (place_from 0 names f ≡ None))
numbered names f = elim (numbered_from 0 names f) [ inl there ↦ inl (there.0, there.1 ∙ ap Some (omega arith)) | inr out ↦ inr out ]

pub placed_number : (names : List FileName) (f : FileName) → number_of names f ≡ unwrap_or (place_from 0 names f) (length names)
placed_number names f = elim (numbered names f) [
  | inl there ↦ sym (ap (λ (o : Option ℕ). unwrap_or o (length names)) there.1)
  | inr out ↦ out.0 ∙ sym (ap (λ (o : Option ℕ). unwrap_or o (length names)) out.1)
]

-- a number below that is a place
pub placed_at : (A : Type 0) (names : List FileName) (f : FileName) (n : ℕ) → n ≡ number_of names f → n < length names → Placed A names f n
placed_at A names f n is low = elim (numbered names f) [
  | inl there ↦ placed A names f n (there.1 ∙ ap Some (sym is))
  | inr out ↦ absurd (omega (arith, out.0, is))
]

-- and no other one is
pub unplaced_at : (A : Type 0) (names : List FileName) (f : FileName) (n : ℕ) → n ≡ number_of names f → length names ≤ n → (has_name names f ≡ false) × ((xs : List (Option A)) → look names xs f ≡ None)
unplaced_at A names f n is high = elim (numbered names f) [
  | inl there ↦ absurd (omega (arith, there.0, is))
  | inr out ↦ unplaced A names f out.1
]

-- of a node it is that of the graph
pub number_is : (nodes : List Node) (f : FileName) → number_of (map (λ (n : Node). n.name) nodes) f ≡ unwrap_or (place_from 0 (map (λ (n : Node). n.name) nodes) f) (length nodes)
number_is nodes f =
    let names = map (λ (n : Node). n.name) nodes in
    placed_number names f ∙ ap (unwrap_or (place_from 0 names f)) (length-map nodes (λ (n : Node). n.name))

-- where no name stands twice, none stands before itself
not_before : (names : List FileName) (i : ℕ) (d : FileName) → IsDistinct names → i < length names → ¬ (Has (take i names) (get_or names i d))
not_before [] i d distinct lt h = absurd (omega arith)
not_before (f ∷ names) zero d distinct lt h = h
not_before (f ∷ names) (suc i) d distinct lt (inl here) = distinct.0 (subst (Has names) (sym here) (stands names i (omega arith)))
  where
    stands : (fs : List FileName) (k : ℕ) → k < length fs → Has fs (get_or fs k d)
    stands [] k low = absurd (omega arith)
    stands (g ∷ fs) zero low = inl refl
    stands (g ∷ fs) (suc k) low = inr (stands fs k (omega arith))
not_before (f ∷ names) (suc i) d distinct lt (inr there) = not_before names i d distinct.1 (omega arith) there

-- the names so far, and one more
pub names_more : (nodes : List Node) (i : ℕ) (d : Node) (old new : List FileName) (f : FileName) → IsDistinct (map (λ (n : Node). n.name) nodes) → i < length nodes → old ≡ map (λ (n : Node). n.name) (take i nodes) → f ≡ (get_or nodes i d).name
    → new ≡ with_name old f → new ≡ map (λ (n : Node). n.name) (take (i + 1) nodes)
names_more nodes i d old new f distinct lt so_far named added =
    let name = λ (n : Node). n.name in
    let low : i < length (map name nodes) = omega (arith, length-map nodes name) in
    let here : get_or (map name nodes) i [] ≡ f = get_or-map name nodes i d [] lt ∙ sym named in
    let before : old ≡ take i (map name nodes) = so_far ∙ sym (take-map name i nodes) in
    let out : has_name old f ≡ false = elim (cases_Bool (has_name old f)) [
      | inl t ↦ absurd (not_before (map name nodes) i [] distinct low (subst (Has (take i (map name nodes))) (sym here) (subst (λ (ns : List FileName). Has ns f) before (Has-from_has_name old f t))))
      | inr e ↦ e
    ] in
    added ∙ (ap (λ b. cond b old (old ++ f ∷ [])) out ∙ (ap (λ (ns : List FileName). ns ++ f ∷ []) so_far ∙ (ap (λ (k : FileName). map name (take i nodes) ++ k ∷ []) named ∙ (sym (map_push name (take i nodes) (get_or nodes i d)) ∙ ap (map name) (sym (take_more nodes i d lt))))))
