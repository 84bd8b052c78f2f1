-- Laws of the serial order.
use Rattle.std.proofs.Common.{◌≡◌, ℕ, zero, suc, not, true, false, List, [], ◌∷◌, ◌++◌, length, fold, reverse, inl, inr, ⊎_elim, refl, sym, ap, subst, ◌∙◌, append_assoc, append-nil}
use Rattle.std.proofs.lemmas.Bool.{cases_Bool, cond-true, cond-false, not_from_true, not_from_false}
use Rattle.std.proofs.lemmas.List.{reverse-reverse, reverse-append}
use Rattle.std.proofs.lemmas.List.Elements.{filter-append, filter_agree}
use Rattle.std.proofs.lemmas.List.Sums.{fold-append}
use mathlib.Core.List.{reverse-cons}
use Rattle.mk_lemmas.proofs.Members.{Has-cases, Has-from_has, Has-from_reverse, Has-left, Has-reverse, Has-right, IsDistinct-reverse, has-from_Has, has-from_not, has-reverse, not-from_has}
use Rattle.mk_graph.specs.Membership.{Has, has}
use Rattle.mk_graph.specs.Graph.{Graph, prerequisites, HasNoCycle}
use Rattle.mk_graph.specs.Serial.{visit, visits, serial_from, serial_order}
use Rattle.mk_graph.specs.Laws.{SerialReachesEachOnce, PrerequisitesComeFirst, beside, GoalsDecideWhatComesFirst}
use Rattle.mk_graph.proofs.Walks.{IsOrdered, ordered_needs, ordered_distinct, ordered_behind, keeps_order}
use Rattle.mk_graph.proofs.Acyclic.{finished_all, finished_only}
use Rattle.mk_graph.proofs.SerialOrder.{visit_old, visit_new, visits_walk}

-- what has been visited is ordered
visits_ordered : (g : Graph) → HasNoCycle g → (ns : List ℕ) → IsOrdered (prerequisites g) (visits g [] ns)
visits_ordered g is ns = keeps_order (prerequisites g) (visits_walk g is ns) tt

-- the walk that visits the serial order finishes what is reached, once
pub serial_reaches_each_once : SerialReachesEachOnce
unfolding serial_order serial_from
serial_reaches_each_once g is =
    let w = visits_walk g is g.goals in
    let finished = visits g [] g.goals in
    (IsDistinct-reverse finished (ordered_distinct (prerequisites g) finished (visits_ordered g is g.goals)), λ n. (λ h. finished_only g finished w n (Has-from_reverse finished n h), λ r. Has-reverse finished n (finished_all g finished w n r)))

-- a reversed list that is cut at n
reverse_cut : (xs front back : List ℕ) (n : ℕ) → reverse xs ≡ front ++ n ∷ back → xs ≡ reverse back ++ n ∷ reverse front
reverse_cut xs front back n e =
    sym (reverse-reverse xs) ∙ ap (λ (l : List ℕ). reverse l) e ∙ reverse-append front (n ∷ back) ∙ ap (λ (l : List ℕ). l ++ reverse front) (reverse-cons n back) ∙ append_assoc (reverse back) (n ∷ []) (reverse front)

-- the walk finishes a node behind its prerequisites
pub prerequisites_come_first : PrerequisitesComeFirst
unfolding serial_order serial_from
prerequisites_come_first g is n p need front back e =
    let finished = visits g [] g.goals in
    let cut = reverse_cut finished front back n e in
    Has-from_reverse front p (ordered_behind (prerequisites g) (reverse back) n (reverse front) p (subst (λ (l : List ℕ). IsOrdered (prerequisites g) l) cut (visits_ordered g is g.goals)) need)

-- what stands beside the others
beside_in : (other : List ℕ) (n : ℕ) (ns : List ℕ) → has other n ≡ true → beside other (n ∷ ns) ≡ beside other ns
beside_in other n ns e = cond-false (not (has other n)) (n ∷ beside other ns) (beside other ns) (not_from_true (has other n) e)

-- an element that isn't among the others stays
beside_out : (other : List ℕ) (n : ℕ) (ns : List ℕ) → has other n ≡ false → beside other (n ∷ ns) ≡ n ∷ beside other ns
beside_out other n ns e = cond-true (not (has other n)) (n ∷ beside other ns) (beside other ns) (not_from_false (has other n) e)

-- it stands there if the others lack it
Has-beside : (other ns : List ℕ) (n : ℕ) → Has ns n → has other n ≡ false → Has (beside other ns) n
Has-beside other [] n h out = absurd h
Has-beside other (m ∷ ms) n (inl here) out =
    subst (λ (l : List ℕ). Has l n) (sym (beside_out other m ms (ap (λ k. has other k) here ∙ out))) (inl here)
Has-beside other (m ∷ ms) n (inr there) out =
    let rest = Has-beside other ms n there out in
    ⊎_elim (λ e. subst (λ (l : List ℕ). Has l n) (sym (beside_in other m ms e)) rest) (λ e. subst (λ (l : List ℕ). Has l n) (sym (beside_out other m ms e)) (inr rest)) (cases_Bool (has other m))

-- what stands there stood in the list
Has-from_beside : (other ns : List ℕ) (n : ℕ) → Has (beside other ns) n → Has ns n
Has-from_beside other [] n h = absurd h
Has-from_beside other (m ∷ ms) n h =
    ⊎_elim (λ e. inr (Has-from_beside other ms n (subst (λ (l : List ℕ). Has l n) (beside_in other m ms e) h))) (λ e. elim (subst (λ (l : List ℕ). Has l n) (beside_out other m ms e) h) [ inl here ↦ inl here | inr there ↦ inr (Has-from_beside other ms n there) ]) (cases_Bool (has other m))

module _ (needs : ℕ → List ℕ) (done : List ℕ) (closed : (n p : ℕ) → Has done n → Has (needs n) p → Has done p) where
  -- visits of what is done add nothing beside it
  abbrev AddNothing : ℕ → Type 0
  AddNothing deep = (visited ns : List ℕ) → ((n : ℕ) → Has ns n → Has done n) → beside done (fold (visit needs deep) visited ns) ≡ beside done visited

  -- at no depth nothing is visited
  adds_nothing_flat : AddNothing zero
  unfolding visit
  adds_nothing_flat visited [] all = refl
  adds_nothing_flat visited (n ∷ ns) all = adds_nothing_flat visited ns (λ k t. all k (inr t))

  -- a visit of one such node
  one_adds_nothing : (deep : ℕ) → AddNothing deep → (visited : List ℕ) (n : ℕ) → Has done n → beside done (visit needs (suc deep) visited n) ≡ beside done visited
  one_adds_nothing deep below visited n h =
      ⊎_elim (λ e. ap (λ (l : List ℕ). beside done l) (visit_old needs deep visited n e))
      (λ e. ap (λ (l : List ℕ). beside done l) (visit_new needs deep visited n e)
      ∙ beside_in done n (fold (visit needs deep) visited (needs n)) (has-from_Has done n h)
      ∙ below visited (needs n) (λ p need. closed n p h need)) (cases_Bool (has visited n))

  -- visits one level deeper
  adds_nothing_deep : (deep : ℕ) → AddNothing deep → AddNothing (suc deep)
  adds_nothing_deep deep below visited [] all = refl
  adds_nothing_deep deep below visited (n ∷ ns) all =
      adds_nothing_deep deep below (visit needs (suc deep) visited n) ns (λ k t. all k (inr t)) ∙ one_adds_nothing deep below visited n (all n (inl refl))

  -- visits at any depth
  adds_nothing : (deep : ℕ) → AddNothing deep
  adds_nothing zero = adds_nothing_flat
  adds_nothing (suc deep) = adds_nothing_deep deep (adds_nothing deep)

  -- visits that begin with what is done add what they would bring alone, beside it
  abbrev AddBeside : ℕ → Type 0
  AddBeside deep = (visited ns : List ℕ) → fold (visit needs deep) (beside done visited ++ done) ns ≡ beside done (fold (visit needs deep) visited ns) ++ done

  -- at no depth nothing is visited
  add_beside_flat : AddBeside zero
  unfolding visit
  add_beside_flat visited [] = refl
  add_beside_flat visited (n ∷ ns) = add_beside_flat visited ns

  -- what was visited alone, or is done, is visited in both
  has_old : (visited : List ℕ) (n : ℕ) → Has visited n → has (beside done visited ++ done) n ≡ true
  has_old visited n h =
      has-from_Has (beside done visited ++ done) n (⊎_elim (λ e. Has-right (beside done visited) done n (Has-from_has done n e)) (λ e. Has-left (beside done visited) done n (Has-beside done visited n h e)) (cases_Bool (has done n)))

  -- what was neither is not
  has_new : (visited : List ℕ) (n : ℕ) → ¬ (Has visited n) → ¬ (Has done n) → has (beside done visited ++ done) n ≡ false
  has_new visited n out undone =
      has-from_not (beside done visited ++ done) n (λ h. ⊎_elim (λ b. out (Has-from_beside done visited n b)) undone (Has-cases (beside done visited) done n h))

  -- a visit of what was visited alone
  one_old : (deep : ℕ) (visited : List ℕ) (n : ℕ) → has visited n ≡ true → visit needs (suc deep) (beside done visited ++ done) n ≡ beside done (visit needs (suc deep) visited n) ++ done
  one_old deep visited n e =
      visit_old needs deep (beside done visited ++ done) n (has_old visited n (Has-from_has visited n e)) ∙ sym (ap (λ (l : List ℕ). beside done l ++ done) (visit_old needs deep visited n e))

  -- a visit of what is done
  one_done : (deep : ℕ) (visited : List ℕ) (n : ℕ) → has visited n ≡ false → has done n ≡ true → visit needs (suc deep) (beside done visited ++ done) n ≡ beside done (visit needs (suc deep) visited n) ++ done
  one_done deep visited n e d =
      let found = fold (visit needs deep) visited (needs n) in
      let there = Has-from_has done n d in
      let alone : beside done (visit needs (suc deep) visited n) ≡ beside done visited = ap (λ (l : List ℕ). beside done l) (visit_new needs deep visited n e) ∙ beside_in done n found d ∙ adds_nothing deep visited (needs n) (λ p need. closed n p there need) in
      visit_old needs deep (beside done visited ++ done) n (has-from_Has (beside done visited ++ done) n (Has-right (beside done visited) done n there)) ∙ sym (ap (λ (l : List ℕ). l ++ done) alone)

  -- a visit of what is neither
  one_new : (deep : ℕ) → AddBeside deep → (visited : List ℕ) (n : ℕ) → has visited n ≡ false → has done n ≡ false → visit needs (suc deep) (beside done visited ++ done) n ≡ beside done (visit needs (suc deep) visited n) ++ done
  one_new deep below visited n e d =
      let found = fold (visit needs deep) visited (needs n) in
      let alone : beside done (visit needs (suc deep) visited n) ≡ n ∷ beside done found = ap (λ (l : List ℕ). beside done l) (visit_new needs deep visited n e) ∙ beside_out done n found d in
      visit_new needs deep (beside done visited ++ done) n (has_new visited n (not-from_has visited n e) (not-from_has done n d)) ∙ ap (λ (l : List ℕ). n ∷ l) (below visited (needs n)) ∙ sym (ap (λ (l : List ℕ). l ++ done) alone)

  -- a visit of one node
  one_beside : (deep : ℕ) → AddBeside deep → (visited : List ℕ) (n : ℕ) → visit needs (suc deep) (beside done visited ++ done) n ≡ beside done (visit needs (suc deep) visited n) ++ done
  one_beside deep below visited n =
      ⊎_elim (one_old deep visited n) (λ e. ⊎_elim (one_done deep visited n e) (one_new deep below visited n e) (cases_Bool (has done n))) (cases_Bool (has visited n))

  -- visits one level deeper
  add_beside_deep : (deep : ℕ) → AddBeside deep → AddBeside (suc deep)
  add_beside_deep deep below visited [] = refl
  add_beside_deep deep below visited (n ∷ ns) =
      ap (λ (l : List ℕ). fold (visit needs (suc deep)) l ns) (one_beside deep below visited n) ∙ add_beside_deep deep below (visit needs (suc deep) visited n) ns

  -- visits at any depth
  add_beside : (deep : ℕ) → AddBeside deep
  add_beside zero = add_beside_flat
  add_beside (suc deep) = add_beside_deep deep (add_beside deep)

-- beside the others, in whichever order they stand
beside_agree : (other ns : List ℕ) → beside (reverse other) ns ≡ beside other ns
beside_agree other ns = filter_agree (λ k. not (has (reverse other) k)) (λ k. not (has other k)) (λ k. ap not (has-reverse other k)) ns

-- what stands beside others of a list, the other way round
beside_turned : (other : List ℕ) (n : ℕ) (ns : List ℕ) → beside other (reverse (n ∷ ns)) ≡ beside other (reverse ns) ++ beside other (n ∷ [])
beside_turned other n ns = ap (λ (l : List ℕ). beside other l) (reverse-cons n ns) ∙ filter-append (λ k. not (has other k)) (reverse ns) (n ∷ [])

-- the same for the whole list
reverse-beside : (other ns : List ℕ) → reverse (beside other ns) ≡ beside other (reverse ns)
reverse-beside other [] = refl
reverse-beside other (n ∷ ns) =
    let rest = reverse-beside other ns in
    let front = beside other (reverse ns) in
    let dropped = λ (e : has other n ≡ true). ap (λ (l : List ℕ). reverse l) (beside_in other n ns e) ∙ rest ∙ sym (beside_turned other n ns ∙ ap (λ (l : List ℕ). front ++ l) (beside_in other n [] e) ∙ append-nil front) in
    let kept = λ (e : has other n ≡ false). ap (λ (l : List ℕ). reverse l) (beside_out other n ns e) ∙ reverse-cons n (beside other ns) ∙ ap (λ (l : List ℕ). l ++ n ∷ []) rest ∙ sym (beside_turned other n ns ∙ ap (λ (l : List ℕ). front ++ l) (beside_out other n [] e)) in
    ⊎_elim dropped kept (cases_Bool (has other n))

-- visits of the others begin with what the first goals reach
pub goals_decide_what_comes_first : GoalsDecideWhatComesFirst
unfolding serial_from visits
goals_decide_what_comes_first g is first others =
    let step = visit (prerequisites g) (suc (length g.nodes)) in
    let done = fold step [] first in
    let closed : (n p : ℕ) → Has done n → Has (prerequisites g n) p → Has done p = λ n p h need. ordered_needs (prerequisites g) done n p (visits_ordered g is first) h need in
    let both : fold step [] (first ++ others) ≡ beside done (fold step [] others) ++ done = fold-append step [] first others ∙ add_beside (prerequisites g) done closed (suc (length g.nodes)) [] others in
    ap (λ (l : List ℕ). reverse l) both ∙ reverse-append (beside done (fold step [] others)) done ∙ ap (λ (l : List ℕ). reverse done ++ l) (reverse-beside done (fold step [] others) ∙ sym (beside_agree done (reverse (fold step [] others))))
