-- Where heights fall along prerequisites, a walk comes through, having visited the serial order.
use Rattle.std.proofs.Common.{◌≡◌, ℕ, zero, suc, cond, ltb, true, false, ◌<◌, ◌≤◌, List, [], ◌∷◌, length, fold, reverse, inl, inr, ⊎_elim, refl, sym, ap, subst, ◌∙◌, arith, lt-ltb, le-ltb}
use Rattle.std.proofs.lemmas.Bool.{cases_Bool, cases_lt, cond-true, cond-false}
use Rattle.std.proofs.lemmas.List.{reverse-reverse}
use Rattle.mk_lemmas.proofs.Members.{Has-from_has, not-from_has}
use Rattle.mk_graph.specs.Membership.{Has, has}
use Rattle.mk_graph.specs.Graph.{Graph, prerequisites, HasNoCycle}
use Rattle.mk_graph.specs.Walk.{Through, Walks, ends, passes, finishes}
use Rattle.mk_graph.specs.Serial.{visit, visits, serial_from, serial_order}
use Rattle.mk_graph.specs.Build.{WalksAll}
use Rattle.mk_graph.proofs.Walks.{one_end, same_finished}
use Rattle.mk_graph.proofs.Acyclic.{is_node}

-- a visit of what was visited before
pub visit_old : (needs : ℕ → List ℕ) (deep : ℕ) (visited : List ℕ) (n : ℕ) → has visited n ≡ true → visit needs (suc deep) visited n ≡ visited
unfolding visit
visit_old needs deep visited n e = cond-true (has visited n) visited (n ∷ fold (visit needs deep) visited (needs n)) e

-- a visit of what was not
pub visit_new : (needs : ℕ → List ℕ) (deep : ℕ) (visited : List ℕ) (n : ℕ) → has visited n ≡ false → visit needs (suc deep) visited n ≡ n ∷ fold (visit needs deep) visited (needs n)
unfolding visit
visit_new needs deep visited n e = cond-false (has visited n) visited (n ∷ fold (visit needs deep) visited (needs n)) e

module _ (needs : ℕ → List ℕ) (deep : ℕ) (under finished todo : List ℕ) (n : ℕ) where
  -- a walk passes over what was visited before
  passes_old : has finished n ≡ true → Walks needs under finished todo (Through (fold (visit needs (suc deep)) finished todo)) → Walks needs under finished (n ∷ todo) (Through (fold (visit needs (suc deep)) finished (n ∷ todo)))
  passes_old e w =
      passes (Has-from_has finished n e) (subst (λ (l : List ℕ). Walks needs under finished todo (Through (fold (visit needs (suc deep)) l todo))) (sym (visit_old needs deep finished n e)) w)

  -- and finishes what was not
  finishes_new : has finished n ≡ false → ¬ (Has under n)
      → Walks needs (n ∷ under) finished (needs n) (Through (fold (visit needs deep) finished (needs n)))
      → ((visited : List ℕ) → Walks needs under visited todo
      (Through (fold (visit needs (suc deep)) visited todo)))
      → Walks needs under finished (n ∷ todo) (Through (fold (visit needs (suc deep)) finished (n ∷ todo)))
  finishes_new e new inside rest =
      let middle = fold (visit needs deep) finished (needs n) in
      finishes new (not-from_has finished n e) inside (subst (λ (l : List ℕ). Walks needs under (n ∷ middle) todo (Through (fold (visit needs (suc deep)) l todo))) (sym (visit_new needs deep finished n e)) (rest (n ∷ middle)))

-- no height is below itself
not_below_itself : (k : ℕ) → k < k → ⊥
not_below_itself k h = omega arith

module _ (needs : ℕ → List ℕ) (height : ℕ → ℕ) (falls : (n p : ℕ) → Has (needs n) p → height p < height n) where
  -- visits of nodes below a height are a walk
  abbrev ComeThrough : ℕ → Type 0
  ComeThrough deep = (under finished todo : List ℕ) → ((n : ℕ) → Has todo n → height n < deep) → ((m n : ℕ) → Has under m → Has todo n → height n < height m) → Walks needs under finished todo (Through (fold (visit needs deep) finished todo))

  -- prerequisites are below all that is under way
  below_all : (under : List ℕ) (n : ℕ) → ((m : ℕ) → Has under m → height n < height m) → (m p : ℕ) → Has (n ∷ under) m → Has (needs n) p → height p < height m
  below_all under n above m p (inl same) need = subst (λ k. height p < height k) same (falls n p need)
  below_all under n above m p (inr there) need = let less = falls n p need in let above' = above m there in omega arith

  -- one level deeper
  one_level : (deep : ℕ) → ComeThrough deep → ComeThrough (suc deep)
  one_level deep below under finished [] low above = ends
  one_level deep below under finished (n ∷ todo) low above =
      let rest : (visited : List ℕ) → Walks needs under visited todo (Through (fold (visit needs (suc deep)) visited todo)) = λ visited. one_level deep below under visited todo (λ k t. low k (inr t)) (λ m k u t. above m k u (inr t)) in
      let here : height n < suc deep = low n (inl refl) in
      let over : (m : ℕ) → Has under m → height n < height m = λ m u. above m n u (inl refl) in
      let inside : Walks needs (n ∷ under) finished (needs n) (Through (fold (visit needs deep) finished (needs n))) = below (n ∷ under) finished (needs n) (λ p need. let less = falls n p need in omega arith) (below_all under n over) in
      ⊎_elim (λ e. passes_old needs deep under finished todo n e (rest finished)) (λ e. finishes_new needs deep under finished todo n e (λ u. not_below_itself (height n) (over n u)) inside rest) (cases_Bool (has finished n))

  -- no node has a height below zero
  no_level : ComeThrough zero
  no_level under finished [] low above = ends
  no_level under finished (n ∷ todo) low above = let none = low n (inl refl) in absurd (omega arith)

  -- at any depth
  pub come_through : (deep : ℕ) → ComeThrough deep
  come_through zero = no_level
  come_through (suc deep) = one_level deep (come_through deep)

-- heights that are low at every number
pub cut_height : (g : Graph) → HasNoCycle g → ℕ → ℕ
cut_height g is n = cond (ltb n (length g.nodes)) (is.height n) 0

-- a node keeps its height
cut_inside : (g : Graph) (is : HasNoCycle g) (n : ℕ) → n < length g.nodes → cut_height g is n ≡ is.height n
unfolding cut_height
cut_inside g is n lt = cond-true (ltb n (length g.nodes)) (is.height n) 0 (lt-ltb n (length g.nodes) lt)

-- what is no node has none
cut_outside : (g : Graph) (is : HasNoCycle g) (n : ℕ) → length g.nodes ≤ n → cut_height g is n ≡ 0
unfolding cut_height
cut_outside g is n le = cond-false (ltb n (length g.nodes)) (is.height n) 0 (le-ltb n (length g.nodes) le)

-- they are at most the number of nodes
pub cut_low : (g : Graph) (is : HasNoCycle g) (n : ℕ) → cut_height g is n < suc (length g.nodes)
cut_low g is n =
    ⊎_elim (λ lt. let same = cut_inside g is n lt in let low = is.low n lt in omega arith) (λ le. let same = cut_outside g is n le in omega arith) (cases_lt n (length g.nodes))

-- they fall along prerequisites
pub cut_falls : (g : Graph) (is : HasNoCycle g) (n p : ℕ) → Has (prerequisites g n) p → cut_height g is p < cut_height g is n
cut_falls g is n p need =
    let here = cut_inside g is n (is_node g n p need) in
    let less = is.falls n p need in
    ⊎_elim (λ lt. let same = cut_inside g is p lt in omega arith) (λ le. let same = cut_outside g is p le in omega arith) (cases_lt p (length g.nodes))

-- a walk of these nodes comes through, having visited the serial order of what they reach
pub visits_walk : (g : Graph) → HasNoCycle g → (ns : List ℕ) → Walks (prerequisites g) [] [] ns (Through (visits g [] ns))
unfolding visits
visits_walk g is ns = come_through (prerequisites g) (cut_height g is) (cut_falls g is) (suc (length g.nodes)) [] [] ns (λ n h. cut_low g is n) (λ m n u t. absurd u)

-- what a walk has finished is the serial order, the last one first
pub serial_is : (g : Graph) (order : List ℕ) → HasNoCycle g → WalksAll g (Through (reverse order)) → order ≡ serial_order g
unfolding serial_order serial_from
serial_is g order is w =
    let same : reverse order ≡ visits g [] g.goals = same_finished (prerequisites g) (reverse order) (visits g [] g.goals) (one_end (prerequisites g) (λ n u. absurd u) w (visits_walk g is g.goals)) in
    sym (reverse-reverse order) ∙ ap (λ (l : List ℕ). reverse l) same
