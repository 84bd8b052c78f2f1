-- How many files nodes write.
use Rattle.std.proofs.Common.{◌≡◌, ℕ, ◌+◌, ◌<◌, ◌≤◌, List, [], ◌∷◌, length, refl, sym, ap, ◌∙◌, subst, inl, inr, arith}
use Rattle.std.specs.Prelude.{sum_by}
use Rattle.std.proofs.lemmas.List.Sums.{sum_by-cons}
use Rattle.mk_graph.proofs.OpenGroups.{InOpenGroup-Has}
use Rattle.mk_graph.specs.Membership.{Has, IsDistinct}
use Rattle.mk_graph.specs.Graph.{Graph, node, IsGraph}
use Rattle.mk_graph.specs.Serial.{serial_order}
use Rattle.mk_build.specs.Setting.{Setting, writes, writings}
use Rattle.mk_graph.specs.Schedules.{Wanted, goal, onward, IsSchedule}
use Rattle.mk_graph.specs.Laws.{SerialReachesEachOnce}

-- the list without this place
without : (ys : List ℕ) (x : ℕ) → Has ys x → List ℕ
without [] x none = absurd none
without (y ∷ ys) x h = elim h [ inl e ↦ ys | inr r ↦ y ∷ without ys x r ]

sum_without : (F : ℕ → ℕ) (ys : List ℕ) (x : ℕ) (h : Has ys x) → sum_by F ys ≡ F x + sum_by F (without ys x h)
unfolding without
sum_without F [] x none = absurd none
sum_without F (y ∷ ys) x (inl e) = sum_by-cons F y ys ∙ ap (λ k. F k + sum_by F ys) e
sum_without F (y ∷ ys) x (inr r) =
    let one = sum_by-cons F y ys in
    let rest = sum_without F ys x r in
    let two = sum_by-cons F y (without ys x r) in
    omega arith

other_stays : (ys : List ℕ) (x z : ℕ) (h : Has ys x) → Has ys z → ¬ (x ≡ z) → Has (without ys x h) z
unfolding without
other_stays [] x z none h apart = absurd none
other_stays (y ∷ ys) x z (inl e) h apart = elim h [ inl is ↦ absurd (apart (sym e ∙ is)) | inr r ↦ r ]
other_stays (y ∷ ys) x z (inr r) h apart = elim h [ inl is ↦ inl is | inr there ↦ inr (other_stays ys x z r there apart) ]

-- numbers that differ, and stand in a list, make no greater sum than the list
pub sum_within : (F : ℕ → ℕ) (xs ys : List ℕ) → IsDistinct xs → ((n : ℕ) → Has xs n → Has ys n) → sum_by F xs ≤ sum_by F ys
sum_within F [] ys d all = omega arith
sum_within F (x ∷ xs) ys d all =
    let h = all x (inl refl) in
    let rest = sum_within F xs (without ys x h) d.1 (λ n k. other_stays ys x n h (all n (inr k)) (λ e. d.0 (subst (Has xs) (sym e) k))) in
    let one = sum_by-cons F x xs in
    let two = sum_without F ys x h in
    omega arith

-- in a turn list no node stands twice
pub turns_differ : (g : Graph) (goals ns : List ℕ) → IsSchedule g goals ns → IsDistinct ns
turns_differ g goals [] h = tt
turns_differ g goals (n ∷ ns) h = (h.0.not_done, turns_differ g goals ns h.1)

-- what is wanted is a node
pub wanted_low : (g : Graph) (done : List ℕ) → IsGraph g → (n : ℕ) → Wanted g g.goals done n → n < length g.nodes
wanted_low g done is n (goal h) = is.sound.goals n h
wanted_low g done is n (onward {p = p} before h) = is.sound.edges p n (InOpenGroup-Has done (node g p).groups n h)

-- the nodes of a turn list are nodes
pub turns_low : (g : Graph) (ns : List ℕ) → IsGraph g → IsSchedule g g.goals ns → (n : ℕ) → Has ns n → n < length g.nodes
turns_low g [] is turns n h = absurd h
turns_low g (m ∷ ns) is turns n h = elim h [ inl e ↦ subst (λ k. k < length g.nodes) e (wanted_low g ns is m turns.0.wanted) | inr r ↦ turns_low g ns is turns.1 n r ]

-- a turn list writes no more than all nodes
pub writings_within : (g : Graph) (s : Setting) (ns : List ℕ) → IsGraph g → SerialReachesEachOnce → IsSchedule g g.goals ns → writings g s ns ≤ writings g s (serial_order g)
writings_within g s ns is once turns =
    sum_within (λ n. length (writes g s n)) ns (serial_order g) (turns_differ g g.goals ns turns) (λ n h. ((once g is.no_cycle).1 n).1 (is.sound.reached n (turns_low g ns is turns n h)))
