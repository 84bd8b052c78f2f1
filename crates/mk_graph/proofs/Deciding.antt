-- Whether one node is before another is decided by lists, as the code decides it by sets.
use Rattle.std.proofs.Common.{true, ◌≡◌, ℕ, zero, suc, ◌+◌, ◌<◌, ◌≤◌, List, [], ◌∷◌, ◌++◌, length, get_or, ◌⊎◌, inl, inr, ⊎_elim, refl, sym, subst, ◌∙◌, arith, add-one}
use Rattle.std.specs.Prelude.{◌↔◌}
use Rattle.std.proofs.lemmas.Bool.{cases_Bool, cases_eq, false≢true}
use Rattle.mk_lemmas.proofs.Members.{Has-cases, Has-left, Has-right, cases_Has}
use Rattle.mk_graph.specs.Membership.{Has}
use Rattle.mk_graph.specs.Graph.{Graph, node, prerequisites, IsGraph}
use Rattle.mk_graph.specs.Serial.{serial_order}
use Rattle.mk_graph.specs.Schedules.{HasAll, InOpenGroup, Wanted, CanStart, IsSchedule, Before}
use Rattle.mk_graph.specs.Without.{AreFree}
use Rattle.mk_graph.proofs.AllButOne.{is_before, is_not_before, turn_comes}
use Rattle.mk_graph.proofs.Rounds.{AreFreeUpTo, free_joins, free_stays, all_free, AreWantedFrom, goals_wanted, opens_this, passes_this, all_wanted}

-- all of a list stands in another one or doesn't
pub cases_HasAll : (ns ms : List ℕ) → HasAll ns ms ⊎ (¬ (HasAll ns ms))
cases_HasAll ns [] = inl tt
cases_HasAll ns (m ∷ ms) =
    ⊎_elim (λ h. ⊎_elim (λ all. inl (h, all)) (λ out. inr (λ all. out all.1)) (cases_HasAll ns ms)) (λ out. inr (λ all. out all.0)) (cases_Has ns m)

-- what stands in open groups
opened : (done : List ℕ) (groups : List (List ℕ)) → (ms : List ℕ) × ((n : ℕ) → Has ms n ↔ InOpenGroup done groups n)
opened done [] = ([], λ n. (λ h. h, λ h. h))
opened done (group ∷ groups) =
    let rest = opened done groups in
    ⊎_elim (λ all. (
      group ++ rest.0,
      λ n. (
        λ h. ⊎_elim (λ here. inl here)
            (λ later. inr (all, (rest.1 n).0 later)) (Has-cases group rest.0 n h),
        λ h. ⊎_elim
            (λ here. Has-left group rest.0 n here) (λ later. Has-right group rest.0 n ((rest.1 n).1 later.1)) h,
      ),
    ))
    (λ out. (group, λ n. (λ h. inl h, λ h. ⊎_elim (λ here. here) (λ later. absurd (out later.0)) h)))
    (cases_HasAll done group)

-- the elements of two lists
joins_list : (ms ns : List ℕ) (n : ℕ) → Has (ms ++ ns) n ↔ (Has ms n ⊎ Has ns n)
joins_list ms ns n = (Has-cases ms ns n, λ h. ⊎_elim (Has-left ms ns n) (Has-right ms ns n) h)

-- one more element
joins_one : (m : ℕ) (ns : List ℕ) (n : ℕ) → Has (m ∷ ns) n ↔ ((n ≡ m) ⊎ Has ns n)
joins_one m ns n = (λ h. ⊎_elim (λ here. inl (sym here)) (λ there. inr there) h, λ h. ⊎_elim (λ same. inl (sym same)) (λ there. inr there) h)

module _ (g : Graph) (is : IsGraph g) where
  -- the order of the nodes
  abbrev order : List ℕ
  order = serial_order g

  module _ (o : ℕ) where
    -- the free nodes of the first ones
    free_up_to : (i : ℕ) → i ≤ length order → (free : List ℕ) × AreFreeUpTo g order o i free
    free_up_to zero low = ([], λ n. (λ h. absurd h, λ h. h.0))
    free_up_to (suc i) low =
        let rest = free_up_to i (omega arith) in
        let this = get_or order i 0 in
        let inside : i < length order = omega arith in
        let stays = λ (cannot : ¬ ((¬ (this ≡ o)) × HasAll rest.0 (prerequisites g this))). subst (λ k. AreFreeUpTo g order o k rest.0) (add-one i) (free_stays g is order refl o i rest.0 inside rest.1 cannot) in
        elim (cases_eq this o) [
          | inl same ↦ (rest.0, stays (λ h. h.0 same))
          | inr other ↦ (elim (cases_HasAll rest.0 (prerequisites g this)) [
            | inl all ↦ (
              this ∷ rest.0,
              subst (λ k. AreFreeUpTo g order o k (this ∷ rest.0)) (add-one i)
                  (free_joins g is order refl o i rest.0 (this ∷ rest.0) inside rest.1 other all
                  (joins_one this rest.0)),
            )
            | inr out ↦ (rest.0, stays (λ h. out h.1))
          ])
        ]

    -- all free nodes
    free_nodes : (free : List ℕ) × AreFree g o free
    free_nodes = let all = free_up_to (length order) (omega arith) in (all.0, all_free g is order refl o (length order) all.0 (omega arith) all.1)

  module _ (done : List ℕ) where
    -- what else is wanted, from a place on
    wanted_from : (place : ℕ) → place ≤ length order → (wanted : List ℕ) → AreWantedFrom g g.goals order done place wanted → (all : List ℕ) × AreWantedFrom g g.goals order done 0 all
    wanted_from zero low wanted are = (wanted, are)
    wanted_from (suc place) low wanted are =
        let this = get_or order place 0 in
        let inside : place < length order = omega arith in
        let are' : AreWantedFrom g g.goals order done (place + 1) wanted = subst (λ k. AreWantedFrom g g.goals order done k wanted) (sym (add-one place)) are in
        let more = opened done (node g this).groups in
        elim (cases_Has wanted this) [
          | inl here ↦ wanted_from place (omega arith) (more.0 ++ wanted)
              (opens_this g is order refl g.goals done place inside wanted (more.0 ++ wanted) are' here
              (λ n. (
                λ h. ⊎_elim (λ there. inl ((more.1 n).0 there)) (λ had. inr had)
                    ((joins_list more.0 wanted n).0 h),
                λ h. (joins_list more.0 wanted n).1
                    (⊎_elim (λ stands. inl ((more.1 n).1 stands)) (λ had. inr had) h),
              )))
          | inr out ↦ wanted_from place (omega arith) wanted
              (passes_this g is order refl g.goals done place inside wanted are' out)
        ]

    -- all that is wanted
    wanted_nodes : (wanted : List ℕ) × ((n : ℕ) → Has wanted n ↔ Wanted g g.goals done n)
    wanted_nodes =
        let all = wanted_from (length order) (omega arith) g.goals (goals_wanted g is order refl g.goals done is.sound.goals g.goals (length order) (omega arith) (λ n. (λ h. h, λ h. h))) in
        (all.0, all_wanted g is order refl g.goals done all.0 all.1)

  -- o is before t or isn't
  pub cases_Before : (o t : ℕ) → Before g o t ⊎ (¬ (Before g o t))
  cases_Before o t =
      let free = free_nodes o in
      let wanted = wanted_nodes free.0 in
      let past : (¬ (Wanted g g.goals free.0 t × HasAll free.0 (prerequisites g t))) → Before g o t ⊎ (¬ (Before g o t)) = λ cannot. inl (is_before g o is free.0 free.1 t cannot) in
      ⊎_elim (λ recipe. elim (cases_Has wanted.0 t) [
        | inl here ↦
            (elim (cases_HasAll free.0 (prerequisites g t)) [
              | inl all ↦ inr
                  (is_not_before g o is free.0 free.1 t recipe ((wanted.1 t).0 here) all)
              | inr out ↦ past (λ both. out both.1)
            ])
        | inr out ↦ past (λ both. out ((wanted.1 t).1 both.0))
      ])
      (λ none. inl (λ recipe. absurd (false≢true (sym none ∙ recipe)))) (cases_Bool (node g t).recipe)

  -- where o isn't before t, t would be wanted once all free nodes are done, and needs what is free
  pub would_turn : (o t : ℕ) (free : List ℕ) → AreFree g o free → ¬ (Before g o t) → Wanted g g.goals free t × HasAll free (prerequisites g t)
  would_turn o t free are not_before =
      let wanted = wanted_nodes free in
      elim (cases_Has wanted.0 t) [
        | inl here ↦ (elim (cases_HasAll free (prerequisites g t)) [
          | inl all ↦ ((wanted.1 t).0 here, all)
          | inr out ↦ absurd
              (not_before (is_before g o is free are t (λ both. out both.1)))
        ])
        | inr out ↦ absurd (not_before (is_before g o is free are t (λ both. out ((wanted.1 t).1 both.0))))
      ]

  -- where o isn't before t, the turn of t comes without o
  pub comes_without : (o t : ℕ) → ¬ (Before g o t) → (ns : List ℕ) × IsSchedule g g.goals ns × (¬ (Has ns o)) × CanStart g g.goals ns t
  comes_without o t not_before =
      let free = free_nodes o in
      let would = would_turn o t free.0 free.1 not_before in
      turn_comes g o is free.0 free.1 t would.0 would.1

-- and t has a recipe
pub has_recipe : (g : Graph) (o t : ℕ) → ¬ (Before g o t) → (node g t).recipe ≡ true
has_recipe g o t not_before = ⊎_elim (λ e. e) (λ none. absurd (not_before (λ recipe. absurd (false≢true (sym none ∙ recipe))))) (cases_Bool (node g t).recipe)
