-- What a round over the serial order finds: the free nodes forwards, and the wanted ones backwards.
use Rattle.std.proofs.Common.{Bool, true, not, ◌≡◌, ℕ, ◌+◌, ◌<◌, ◌≤◌, List, [], ◌∷◌, ◌++◌, length, get_or, take, drop, inl, inr, ⊎_elim, ◌⊎◌, sym, ap, subst, ◌∙◌}
use Rattle.std.specs.Prelude.{◌↔◌}
use Rattle.std.proofs.lemmas.Bool.{cases_Bool, false≢true}
use Rattle.std.proofs.lemmas.List.{take_more, take-append-drop, drop_more, take_all, get_or_default}
use Rattle.mk_lemmas.proofs.Members.{Has-cases, Has-get_or, Has-left, Has-right}
use Rattle.mk_graph.specs.declared.node.Node.{Node}
use Rattle.mk_graph.specs.Membership.{Has, IsWithin}
use Rattle.mk_graph.specs.Graph.{Graph, no_node, node, prerequisites, IsGraph}
use Rattle.mk_graph.specs.Serial.{serial_order}
use Rattle.mk_graph.specs.Schedules.{HasAll, InOpenGroup, Wanted, goal as wanted_goal, onward as wanted_onward, Before}
use Rattle.mk_graph.specs.Without.{IsFree, AreFree, joined}
use Rattle.mk_graph.proofs.Parts.{Has-from_HasAll, HasAll-from_Has}
use Rattle.mk_graph.proofs.Orders.{serial_reaches_each_once, prerequisites_come_first}
use Rattle.mk_graph.proofs.AllButOne.{free_needs, free_made, open_joined, reached_is_node, is_before, is_not_before}

-- what stands in one place more
pub Has-take_more : (ns : List ℕ) (i n : ℕ) → i < length ns → Has (take (i + 1) ns) n ↔ (Has (take i ns) n ⊎ (n ≡ get_or ns i 0))
Has-take_more ns i n low =
    let e = take_more ns i 0 low in (
      λ h. elim (Has-cases (take i ns) (get_or ns i 0 ∷ []) n (subst (λ (l : List ℕ). Has l n) e h)) [ inl before ↦ inl before | inr (inl last) ↦ inr (sym last) | inr (inr none) ↦ absurd none ],
      λ h. subst (λ (l : List ℕ). Has l n) (sym e) (⊎_elim (λ before. Has-left (take i ns) (get_or ns i 0 ∷ []) n before) (λ same. Has-right (take i ns) (get_or ns i 0 ∷ []) n (inl (sym same))) h),
    )

-- of the first nodes of the order those that are free
abbrev pub AreFreeUpTo : Graph → (order : List ℕ) → (o i : ℕ) → List ℕ → Type 0
AreFreeUpTo g order o i free = (n : ℕ) → Has free n ↔ (Has (take i order) n × IsFree g o n)

-- Of what is wanted the goals are known, and what stands in open groups of known nodes from this place on.
pub record AreWantedFrom (g : Graph) (goals order done : List ℕ) (place : ℕ) (wanted : List ℕ) : Type 0 where
  pub sound : (n : ℕ) → Has wanted n → Wanted g goals done n
  pub all_goals : IsWithin goals wanted
  pub rest : (p : ℕ) → Has wanted p → Has (take place order) p ⊎ ((n : ℕ) → InOpenGroup done (node g p).groups n → Has wanted n)

module _ (g : Graph) (is : IsGraph g) (order : List ℕ) (order_is : order ≡ serial_order g) where
  -- the order has the nodes
  pub in_order : (n : ℕ) → Has order n ↔ (n < length g.nodes)
  in_order n =
      let reaches = (serial_reaches_each_once g is.no_cycle).1 n in
      (λ h. reached_is_node g n is.sound (reaches.0 (subst (λ (l : List ℕ). Has l n) order_is h)), λ low. subst (λ (l : List ℕ). Has l n) (sym order_is) (reaches.1 (is.sound.reached n low)))

  -- what it has at a place is a node
  pub at_place : (i : ℕ) → i < length order → get_or order i 0 < length g.nodes
  at_place i low = (in_order (get_or order i 0)).0 (Has-get_or order i 0 low)

  -- what the node at a place needs stands before it
  pub needs_before : (i p : ℕ) → i < length order → Has (prerequisites g (get_or order i 0)) p → Has (take i order) p
  needs_before i p low need =
      let cut : order ≡ take i order ++ get_or order i 0 ∷ drop (i + 1) order = sym (take-append-drop i order) ∙ ap (λ (l : List ℕ). take i order ++ l) (drop_more order i 0 low) in
      prerequisites_come_first g is.no_cycle (get_or order i 0) p need (take i order) (drop (i + 1) order) (sym order_is ∙ cut)

  module _ (o : ℕ) where
    -- the node at this place is one of them
    pub free_joins : (i : ℕ) (free new : List ℕ) → i < length order → AreFreeUpTo g order o i free → ¬ (get_or order i 0 ≡ o) → HasAll free (prerequisites g (get_or order i 0)) → ((n : ℕ) → Has new n ↔ ((n ≡ get_or order i 0) ⊎ Has free n)) → AreFreeUpTo g order o (i + 1) new
    free_joins i free new low are ne all joins n =
        let this = get_or order i 0 in
        let here : IsFree g o this = free_made g o this ne (λ p need. ((are p).0 (Has-from_HasAll free (prerequisites g this) all p need)).1) in
        let more = Has-take_more order i n low in (
          λ h. ⊎_elim (λ same. (more.1 (inr same), subst (λ k. IsFree g o k) (sym same) here)) (λ had. let a = (are n).0 had in (more.1 (inl a.0), a.1)) ((joins n).0 h),
          λ h. ⊎_elim (λ before. (joins n).1 (inr ((are n).1 (before, h.1)))) (λ same. (joins n).1 (inl same)) (more.0 h.0),
        )

    -- it isn't
    pub free_stays : (i : ℕ) (free : List ℕ) → i < length order → AreFreeUpTo g order o i free → ¬ ((¬ (get_or order i 0 ≡ o)) × HasAll free (prerequisites g (get_or order i 0))) → AreFreeUpTo g order o (i + 1) free
    free_stays i free low are cannot n =
        let this = get_or order i 0 in
        let held : ¬ (IsFree g o this) = λ f. cannot (f.0, HasAll-from_Has free (prerequisites g this) (λ p need. (are p).1 (needs_before i p low need, free_needs g o this p f need))) in
        let more = Has-take_more order i n low in (
          λ h. let a = (are n).0 h in (more.1 (inl a.0), a.1),
          λ h. ⊎_elim (λ before. (are n).1 (before, h.1)) (λ same. absurd (held (subst (λ k. IsFree g o k) same h.1))) (more.0 h.0),
        )

    -- at the end they are all free nodes
    pub all_free : (i : ℕ) (free : List ℕ) → length order ≤ i → AreFreeUpTo g order o i free → AreFree g o free
    all_free i free done are n =
        let whole : take i order ≡ order = take_all i order done in (
          λ h. let a = (are n).0 h in ((in_order n).0 (subst (λ (l : List ℕ). Has l n) whole a.0), a.1),
          λ h. (are n).1 (subst (λ (l : List ℕ). Has l n) (sym whole) ((in_order n).1 h.0), h.1),
        )

  module _ (goals done : List ℕ) where
    -- the goals alone
    pub goals_wanted : ((n : ℕ) → Has goals n → n < length g.nodes) → (wanted : List ℕ) (place : ℕ) → length order ≤ place → ((n : ℕ) → Has wanted n ↔ Has goals n) → AreWantedFrom g goals order done place wanted
    goals_wanted low wanted place past are = record {
      sound = λ n h. wanted_goal ((are n).0 h);
      all_goals = λ n h. (are n).1 h;
      rest = λ p h. inl (subst (λ (l : List ℕ). Has l p) (sym (take_all place order past)) ((in_order p).1 (low p ((are p).0 h))));
    }

    module _ (place : ℕ) (low : place < length order) where
      -- the node at the place is wanted
      pub opens_this : (wanted new : List ℕ) → AreWantedFrom g goals order done (place + 1) wanted → Has wanted (get_or order place 0) → ((n : ℕ) → Has new n ↔ (InOpenGroup done (node g (get_or order place 0)).groups n ⊎ Has wanted n)) → AreWantedFrom g goals order done place new
      opens_this wanted new are here joins =
          let this = get_or order place 0 in
          record {
            sound = λ n h. ⊎_elim (λ stands. wanted_onward (are.sound this here) stands) (λ had. are.sound n had) ((joins n).0 h);
            all_goals = λ n h. (joins n).1 (inr (are.all_goals n h));
            rest = λ p h. elim ((joins p).0 h) [
              | inl stands ↦ inl
                  (needs_before place p low (open_joined done (node g this).groups p stands))
              | inr had ↦ (elim (are.rest p had) [
                | inl before ↦
                    (elim ((Has-take_more order place p low).0 before) [
                      | inl earlier ↦ inl earlier
                      | inr same ↦ inr (λ n stands. (joins n).1
                          (inl (subst (λ k. InOpenGroup done (node g k).groups n) same stands)))
                    ])
                | inr closed ↦ inr (λ n stands. (joins n).1 (inr (closed n stands)))
              ])
            ];
          }

      -- it isn't
      pub passes_this : (wanted : List ℕ) → AreWantedFrom g goals order done (place + 1) wanted → ¬ (Has wanted (get_or order place 0)) → AreWantedFrom g goals order done place wanted
      passes_this wanted are out = record {
        sound = are.sound;
        all_goals = are.all_goals;
        rest = λ p h. elim (are.rest p h) [ inl before ↦ (elim ((Has-take_more order place p low).0 before) [ inl earlier ↦ inl earlier | inr same ↦ absurd (out (subst (λ k. Has wanted k) same h)) ]) | inr closed ↦ inr closed ];
      }

    -- from the first place on, all that is wanted is known
    known_wanted : (wanted : List ℕ) → AreWantedFrom g goals order done 0 wanted → (n : ℕ) → Wanted g goals done n → Has wanted n
    known_wanted wanted are n (wanted_goal h) = are.all_goals n h
    known_wanted wanted are n (wanted_onward {p} w stands) = ⊎_elim (λ none. absurd none) (λ closed. closed n stands) (are.rest p (known_wanted wanted are p w))

    -- and nothing else
    pub all_wanted : (wanted : List ℕ) → AreWantedFrom g goals order done 0 wanted → (n : ℕ) → Has wanted n ↔ Wanted g goals done n
    all_wanted wanted are n = (are.sound n, known_wanted wanted are n)

-- the groups that the code reads of a node
pub groups_are : (g : Graph) (nodes : List Node) (n : ℕ) (v : Node) (groups : List (List ℕ)) → nodes ≡ g.nodes → n < length nodes → groups ≡ (get_or nodes n v).groups → groups ≡ (node g n).groups
groups_are g nodes n v groups nodes_are low value =
    value ∙ ap (λ (w : Node). w.groups) (get_or_default nodes n v no_node low) ∙ ap (λ (l : List Node). (get_or l n no_node).groups) nodes_are

-- What the two rounds found tells whether o is before t, where t has a recipe.
pub tells : (g : Graph) → IsGraph g → (o t : ℕ) (free : List ℕ) → AreFree g o free → (node g t).recipe ≡ true → Wanted g g.goals free t → (groups : List (List ℕ)) → groups ≡ (node g t).groups → (all : Bool) → ((all ≡ true) ↔ HasAll free (joined groups)) → ((not all ≡ true) ↔ Before g o t)
tells g is o t free are recipe wanted groups groups_are all found =
    let have : (all ≡ true) ↔ HasAll free (prerequisites g t) = subst (λ (l : List (List ℕ)). (all ≡ true) ↔ HasAll free (joined l)) groups_are found in (
      λ e. is_before g o is free are t (λ both. false≢true (subst (λ b. not b ≡ true) (have.1 both.1) e)),
      λ before. ⊎_elim (λ e. absurd (is_not_before g o is free are t recipe wanted (have.0 e) before)) (λ e. ap not e) (cases_Bool all),
    )
