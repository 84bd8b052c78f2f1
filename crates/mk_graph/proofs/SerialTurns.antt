-- The serial order of some goals is a turn list for them.
use Rattle.std.proofs.Common.{◌≡◌, ℕ, zero, suc, ◌<◌, List, [], ◌∷◌, ◌++◌, true, false, length, fold, filter, reverse, ◌⊎◌, inl, inr, ⊎_elim, refl, sym, ◌∙◌, ap, subst, arith}
use Rattle.std.specs.List.{flat_map}
use Rattle.std.proofs.lemmas.Bool.{cases_Bool, cond-true, cond-false}
use Rattle.std.proofs.lemmas.List.{reverse-reverse}
use Rattle.mk_lemmas.proofs.Members.{Has-from_has, Has-right, not-from_has}
use Rattle.mk_graph.proofs.Parts.{HasAll-from_Has}
use Rattle.mk_graph.specs.Membership.{Has, has, IsWithin}
use Rattle.mk_graph.specs.Graph.{Graph, node, prerequisites, HasNoCycle}
use Rattle.mk_graph.specs.Serial.{visit, visits, serial_from, order_from}
use Rattle.mk_graph.specs.Schedules.{HasAll, InOpenGroup, Wanted, goal, onward, CanStart, IsSchedule}
use Rattle.mk_graph.proofs.SerialOrder.{visit_old, visit_new, cut_height, cut_low, cut_falls}
use Rattle.mk_graph.proofs.Turning.{Wanted-grow}

-- a list that begins in the first of two joined lists, or goes beyond it
data Splits (group rest : List ℕ) (n : ℕ) (front : List ℕ) : Type 0 where
  inside : Has group n → Splits group rest n front
  beyond : (more back : List ℕ) → rest ≡ more ++ n ∷ back → IsWithin group front → IsWithin more front → Splits group rest n front

-- where a place in two joined lists is
splits : (group rest front back : List ℕ) (n : ℕ) → group ++ rest ≡ front ++ n ∷ back → Splits group rest n front
splits [] rest front back n e = beyond front back e (λ k h. absurd h) (λ k h. h)
splits (m ∷ group) rest [] back n e = let here : m ≡ n = cc in inside (inl here)
splits (m ∷ group) rest (k ∷ front) back n e =
    let here : m ≡ k = cc in
    let rest_is : group ++ rest ≡ front ++ n ∷ back = cc in
    elim (splits group rest front back n rest_is) [ inside h ↦ inside (inr h) | beyond more after there before within ↦ beyond more after there (λ j h. ⊎_elim (λ same. inl (sym here ∙ same)) (λ later. inr (before j later)) h) (λ j h. inr (within j h)) ]

-- a direct prerequisite before which all others are done stands in an open group
pub in_open_group : (groups : List (List ℕ)) (done front back : List ℕ) (n : ℕ) → flat_map (λ group. group) groups ≡ front ++ n ∷ back → IsWithin front done → InOpenGroup done groups n
in_open_group [] done [] back n e within = absurd (cc)
in_open_group [] done (k ∷ front) back n e within = absurd (cc)
in_open_group (group ∷ groups) done front back n e within =
    elim (splits group (flat_map (λ group. group) groups) front back n e) [ inside h ↦ inl h | beyond more after there before later ↦ inr (HasAll-from_Has done group (λ k h. within k (before k h)), in_open_group groups done more after n there (λ k h. within k (later k h))) ]

module _ (g : Graph) (is : HasNoCycle g) (goals : List ℕ) where
  -- heights that fall along prerequisites
  abbrev height : ℕ → ℕ
  height = cut_height g is

  -- The nodes to visit will be wanted, each where those before it have been visited.
  abbrev AreWanted : List ℕ → List ℕ → Type 0
  AreWanted todo visited = (front back done : List ℕ) (n : ℕ) → todo ≡ front ++ n ∷ back → IsWithin visited done → IsWithin front done → Wanted g goals done n

  -- What visits leave: a turn list that holds what was visited, and what else it holds is below a height.
  record Leaves (visited result : List ℕ) (bound : ℕ) : Type 0 where
    turns : IsSchedule g goals result
    within : IsWithin visited result
    low : (n : ℕ) → Has result n → Has visited n ⊎ (height n < bound)

  -- visits at this depth leave a turn list
  abbrev LeaveTurns : ℕ → Type 0
  LeaveTurns deep = (todo visited : List ℕ) (bound : ℕ) → ((n : ℕ) → Has todo n → height n < deep)
      → ((n : ℕ) → Has todo n → height n < bound) → IsSchedule g goals visited → AreWanted todo visited
      → Leaves visited (fold (visit (prerequisites g) deep) visited todo) bound
      × HasAll (fold (visit (prerequisites g) deep) visited todo) todo

  -- one visit does
  abbrev LeavesTurns : ℕ → Type 0
  LeavesTurns deep = (n : ℕ) (visited : List ℕ) → height n < deep → IsSchedule g goals visited → Wanted g goals visited n → Leaves visited (visit (prerequisites g) deep visited n) (suc (height n)) × Has (visit (prerequisites g) deep visited n) n

  -- all do, if one does
  all_leave : (deep : ℕ) → LeavesTurns deep → LeaveTurns deep
  all_leave deep one [] visited bound low below turns wanted = (record { turns = turns; within = λ n h. h; low = λ n h. inl h }, tt)
  all_leave deep one (n ∷ todo) visited bound low below turns wanted =
      let first = one n visited (low n (inl refl)) turns (wanted [] todo visited n refl (λ k h. h) (λ k h. absurd h)) in
      let next = visit (prerequisites g) deep visited n in
      let rest = all_leave deep one todo next bound (λ k h. low k (inr h)) (λ k h. below k (inr h))
      first.0.turns (λ front back done k e more there. wanted (n ∷ front) back done k
      (ap (λ (l : List ℕ). n ∷ l) e) (λ j h. more j (first.0.within j h))
      (λ j h. ⊎_elim (λ here. more j (subst (λ (i : ℕ). Has next i) here first.1))
      (λ later. there j later) h)) in (
        record {
          turns = rest.0.turns;
          within = λ k h. rest.0.within k (first.0.within k h);
          low = λ k h.
              ⊎_elim (λ before. ⊎_elim (λ old. inl old) (λ less. let here = below n (inl refl) in inr
              (omega arith)) (first.0.low k before)) (λ less. inr less) (rest.0.low k h);
        },
        (rest.0.within n first.1, rest.1),
      )

  -- a visit of what was visited
  visits_old : (deep n : ℕ) (visited : List ℕ) → has visited n ≡ true → IsSchedule g goals visited → Leaves visited (visit (prerequisites g) (suc deep) visited n) (suc (height n)) × Has (visit (prerequisites g) (suc deep) visited n) n
  visits_old deep n visited e turns = subst (λ (l : List ℕ). Leaves visited l (suc (height n)) × Has l n) (sym (visit_old (prerequisites g) deep visited n e)) (record { turns = turns; within = λ k h. h; low = λ k h. inl h }, Has-from_has visited n e)

  -- a visit of what was not
  visits_new : (deep n : ℕ) (visited : List ℕ) → has visited n ≡ false → LeaveTurns deep → height n < suc deep
      → IsSchedule g goals visited → Wanted g goals visited n
      → Leaves visited (visit (prerequisites g) (suc deep) visited n) (suc (height n))
      × Has (visit (prerequisites g) (suc deep) visited n) n
  visits_new deep n visited e below less turns wanted =
      let inside = below (prerequisites g n) visited (height n)
      (λ p need. let falls = cut_falls g is n p need in omega arith) (λ p need. cut_falls g is n p need)
      turns (λ front back done p split more there. onward
      (Wanted-grow visited done more g goals goals (λ k h. h) wanted)
      (in_open_group (node g n).groups done front back p split there)) in
      let result = fold (visit (prerequisites g) deep) visited (prerequisites g n) in
      let new : ¬ (Has result n) = λ h. ⊎_elim (λ old. not-from_has visited n e old) (λ low. absurd (omega arith)) (inside.0.low n h) in
      let may : CanStart g goals result n = record { wanted = Wanted-grow visited result inside.0.within g goals goals (λ k h. h) wanted; not_done = new; prerequisites = inside.1 } in
      subst (λ (l : List ℕ). Leaves visited l (suc (height n)) × Has l n)
      (sym (visit_new (prerequisites g) deep visited n e)) (
        record {
          turns = (may, inside.0.turns);
          within = λ k h. inr (inside.0.within k h);
          low = λ k h.
              ⊎_elim (λ here. inr (let same : height n ≡ height k = ap height here in omega arith))
              (λ there. ⊎_elim (λ old. inl old) (λ low. inr (omega arith)) (inside.0.low k there)) h;
        },
        inl refl,
      )

  -- at any depth
  visits_leave : (deep : ℕ) → LeaveTurns deep
  visits_leave zero = all_leave zero (λ n visited less turns wanted. absurd (omega arith))
  visits_leave (suc deep) =
      let below = visits_leave deep in
      all_leave (suc deep) (λ n visited less turns wanted. ⊎_elim (λ e. visits_old deep n visited e turns) (λ e. visits_new deep n visited e below less turns wanted) (cases_Bool (has visited n)))

  -- each goal that is chosen is named
  pub chosen_is_goal : (ns : List ℕ) (n : ℕ) → Has (filter (has goals) ns) n → Has goals n
  chosen_is_goal [] n h = absurd h
  chosen_is_goal (k ∷ ns) n h =
      let rest = filter (has goals) ns in
      ⊎_elim (λ e. elim (subst (λ (l : List ℕ). Has l n) (cond-true (has goals k) (k ∷ rest) rest e) h) [
        | inl here ↦ subst (λ (j : ℕ). Has goals j) here (Has-from_has goals k e)
        | inr there ↦ chosen_is_goal ns n there
      ]) (λ e. chosen_is_goal ns n
      (subst (λ (l : List ℕ). Has l n) (cond-false (has goals k) (k ∷ rest) rest e) h))
      (cases_Bool (has goals k))

  -- and each goal of the graph that is named is chosen
  pub goal_is_chosen : (ns : List ℕ) (n : ℕ) → Has ns n → Has goals n → Has (filter (has goals) ns) n
  goal_is_chosen [] n h named = absurd h
  goal_is_chosen (k ∷ ns) n h named =
      let rest = filter (has goals) ns in
      ⊎_elim (λ e. subst (λ (l : List ℕ). Has l n) (sym (cond-true (has goals k) (k ∷ rest) rest e))
      (⊎_elim (λ here. inl here) (λ there. inr (goal_is_chosen ns n there named)) h))
      (λ e. subst (λ (l : List ℕ). Has l n) (sym (cond-false (has goals k) (k ∷ rest) rest e))
      (⊎_elim (λ here. absurd (not-from_has goals k e (subst (λ (j : ℕ). Has goals j) (sym here) named)))
      (λ there. goal_is_chosen ns n there named) h)) (cases_Bool (has goals k))

  -- what stands before a place in a list stands in it
  at_place : (ns front back : List ℕ) (n : ℕ) → ns ≡ front ++ n ∷ back → Has ns n
  at_place ns front back n e = subst (λ (l : List ℕ). Has l n) (sym e) (Has-right front (n ∷ back) n (inl refl))

  -- the serial order of the goals, the last node first
  pub serial_turns : IsSchedule g goals (visits g [] (filter (has goals) g.goals)) × HasAll (visits g [] (filter (has goals) g.goals)) (filter (has goals) g.goals)
  unfolding visits
  serial_turns =
      let all = visits_leave (suc (length g.nodes)) (filter (has goals) g.goals) [] (suc (length g.nodes)) (λ n h. cut_low g is n) (λ n h. cut_low g is n) tt (λ front back done n e more there. goal (chosen_is_goal g.goals n (at_place (filter (has goals) g.goals) front back n e))) in
      (all.0.turns, all.1)

  -- the same, as the order of the goals
  pub order_is : reverse (order_from g goals) ≡ visits g [] (filter (has goals) g.goals)
  unfolding serial_from
  order_is = reverse-reverse (visits g [] (filter (has goals) g.goals))

  -- and the other way round
  pub order_back : order_from g goals ≡ reverse (visits g [] (filter (has goals) g.goals))
  unfolding serial_from
  order_back = refl
