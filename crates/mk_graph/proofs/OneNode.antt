-- The serial order of one node, and of all goals.
use Rattle.std.proofs.Common.{◌≡◌, ℕ, ◌<◌, suc, List, [], ◌∷◌, length, filter, reverse, inl, inr, refl, ap, subst, ◌∙◌}
use Rattle.std.proofs.lemmas.Bool.{cond-true}
use mathlib.Core.List.{reverse-cons}
use Rattle.mk_lemmas.proofs.Members.{has-from_Has}
use Rattle.mk_graph.specs.Membership.{Has, has}
use Rattle.mk_graph.specs.Graph.{Graph, prerequisites, HasNoCycle}
use Rattle.mk_graph.specs.Walk.{Through, Walks, ends, finishes}
use Rattle.mk_graph.specs.Serial.{visits, serial_from, serial_order}
use Rattle.mk_graph.specs.Laws.{SerialOrderOfOne, OrderOfAllGoals}
use Rattle.mk_graph.proofs.Walks.{one_end, same_finished}
use Rattle.mk_graph.proofs.SerialOrder.{cut_height, cut_low, cut_falls, come_through, visits_walk}

-- a walk from one node finishes it behind what its prerequisites give
one_walk : (g : Graph) → HasNoCycle g → (n : ℕ) → Walks (prerequisites g) [] [] (n ∷ []) (Through (n ∷ visits g [] (prerequisites g n)))
unfolding visits
one_walk g is n =
    let below : (m p : ℕ) → Has (n ∷ []) m → Has (prerequisites g n) p → cut_height g is p < cut_height g is m = λ m p u need. elim u [ inl same ↦ subst (λ (k : ℕ). cut_height g is p < cut_height g is k) same (cut_falls g is n p need) | inr none ↦ absurd none ] in
    finishes (λ h. h) (λ h. h) (come_through (prerequisites g) (cut_height g is) (cut_falls g is) (suc (length g.nodes)) (n ∷ []) [] (prerequisites g n) (λ p need. cut_low g is p) below) ends

-- so that is what is visited
pub serial_order_of_one : SerialOrderOfOne
unfolding serial_from
serial_order_of_one g is n =
    let found = visits g [] (prerequisites g n) in
    let same : visits g [] (n ∷ []) ≡ n ∷ found = same_finished (prerequisites g) (visits g [] (n ∷ [])) (n ∷ found) (one_end (prerequisites g) (λ m u. absurd u) (visits_walk g is (n ∷ [])) (one_walk g is n)) in
    ap (λ (l : List ℕ). reverse l) same ∙ reverse-cons n found

-- all of a list is chosen from it
chosen_all : (all ns : List ℕ) → ((n : ℕ) → Has ns n → Has all n) → filter (has all) ns ≡ ns
chosen_all all [] within = refl
chosen_all all (n ∷ ns) within =
    let rest = filter (has all) ns in
    cond-true (has all n) (n ∷ rest) rest (has-from_Has all n (within n (inl refl))) ∙ ap (λ (l : List ℕ). n ∷ l) (chosen_all all ns (λ k h. within k (inr h)))

-- the order of all goals
pub order_of_all_goals : OrderOfAllGoals
unfolding serial_order
order_of_all_goals g = ap (λ (l : List ℕ). serial_from g l) (chosen_all g.goals g.goals (λ n h. h))
