-- Rounds over two rows of each node: what each pass keeps, and what the rows tell once a round clears nothing.
use Rattle.std.proofs.Common.{true, ◌≡◌, ℕ, zero, suc, ◌+◌, ◌*◌, ◌<◌, ◌≤◌, List, [], ◌∷◌, length, get_or, take, drop, inl, inr, ⊎_elim, ◌⊎◌, refl, sym, subst, ◌∙◌, arith}
use Rattle.std.specs.Prelude.{◌↔◌}
use Rattle.std.proofs.lemmas.Bool.{cases_eq}
use Rattle.std.proofs.lemmas.List.{take_all, drop_more}
use Rattle.std.proofs.lemmas.Nat.{row_fits}
use Rattle.mk_lemmas.proofs.Members.{Has-cases, Has-left, Has-right, cases_Has}
use Rattle.mk_graph.proofs.Deciding.{cases_HasAll}
use Rattle.mk_graph.specs.Membership.{Has, IsWithin}
use Rattle.mk_graph.specs.Graph.{Graph, node, prerequisites, Reached, goal, onward, HasPath, one, then, IsGraph}
use Rattle.mk_graph.specs.Serial.{serial_order}
use Rattle.mk_graph.specs.Schedules.{InOpenGroup, Wanted, goal as wanted_goal, onward as wanted_onward, IsSchedule, Before}
use Rattle.mk_graph.specs.Without.{IsFree, AreFree, joined}
use Rattle.mk_graph.specs.BitRows.{IsSized, IsOpenTo, PassesGates, PassesTargets, OnlyIfWanted, OnlyIfFree, Stays, AreSettled}
use Rattle.mk_graph.proofs.Parts.{HasAll-from_Has, Has-from_HasAll, Wanted-grows}
use Rattle.mk_graph.proofs.AllButOne.{free_made, wanted_reached, reached_is_node, is_not_before}
use Rattle.mk_graph.proofs.Rounds.{Has-take_more, AreFreeUpTo, in_order, free_joins, free_stays, all_free}

-- each node has a row
pub has_row : (g : Graph) (stride : ℕ) (words : List ℕ) → IsSized g stride words → (n : ℕ) → n < length g.nodes → n * stride + stride ≤ length words
has_row g stride words sized n low =
    let fits : n * stride + stride ≤ length g.nodes * stride = row_fits n stride (length g.nodes) stride low (omega arith) in
    let long = sized.long in
    omega arith

-- backwards over the order, the gates have been passed from this place on
pub record IsPassedFrom (g : Graph) (order : List ℕ) (old done : ℕ → ℕ → Type 0) (place : ℕ) (now : ℕ → ℕ → Type 0) : Type 0 where
  pub stays : Stays old now
  pub gates : (p n o : ℕ) → Has (drop place order) p → old p o → IsOpenTo (λ m. done m o) (node g p).groups n → now n o
  pub wanted : OnlyIfWanted g now

-- forwards over the order, the targets have been passed up to this place
pub record IsPassedUpTo (g : Graph) (order : List ℕ) (first old : ℕ → ℕ → Type 0) (place : ℕ) (now : ℕ → ℕ → Type 0) : Type 0 where
  pub stays : Stays old now
  pub targets : (n o : ℕ) → Has (take place order) n → first n o → ¬ (o ≡ n) → ((p : ℕ) → Has (prerequisites g n) p → old p o) → now n o
  pub free : OnlyIfFree g now

-- what is open to nodes that lack o is open to nodes that can be done without o
open_free : (g : Graph) (o : ℕ) (done : ℕ → ℕ → Type 0) (free : List ℕ) → AreFree g o free
    → ((n : ℕ) → n < length g.nodes → done n o → IsFree g o n) → (groups : List (List ℕ))
    → ((m : ℕ) → Has (joined groups) m → m < length g.nodes) → (n : ℕ) → IsOpenTo (λ m. done m o) groups n
    → InOpenGroup free groups n
open_free g o done free are lack [] nodes n stands = absurd stands
open_free g o done free are lack (group ∷ groups) nodes n (inl here) = inl here
open_free g o done free are lack (group ∷ groups) nodes n (inr later) =
    inr (HasAll-from_Has free group (λ m h. let low = nodes m (Has-left group (joined groups) m h) in (are m).1 (low, lack m low (later.0 m h))), open_free g o done free are lack groups (λ m h. nodes m (Has-right group (joined groups) m h)) n later.1)

-- what is open once nodes are done that all lack o is open to them
open_lacking : (o : ℕ) (done : ℕ → ℕ → Type 0) (ns : List ℕ) → ((m : ℕ) → Has ns m → done m o) → (groups : List (List ℕ)) (n : ℕ) → InOpenGroup ns groups n → IsOpenTo (λ m. done m o) groups n
open_lacking o done ns lack [] n stands = absurd stands
open_lacking o done ns lack (group ∷ groups) n (inl here) = inl here
open_lacking o done ns lack (group ∷ groups) n (inr later) = inr (λ m h. lack m (Has-from_HasAll ns group later.0 m h), open_lacking o done ns lack groups n later.1)

-- where the rows of goals are emptied, rows lack what they lacked with reason, or goals
pub goals_cleared : (g : Graph) (first new : ℕ → ℕ → Type 0) → OnlyIfWanted g first → ((n o : ℕ) → new n o ↔ (first n o ⊎ Has g.goals n)) → OnlyIfWanted g new
goals_cleared g first new wanted clears n o free low h are = ⊎_elim (λ lacked. wanted n o free low lacked are) (λ is_goal. wanted_goal is_goal) ((clears n o).0 h)

module _ (g : Graph) (is : IsGraph g) where
  module _ (order : List ℕ) (place : ℕ) (low : place < length order) (node_here : get_or order place 0 < length g.nodes) where
    -- the gates of one node more
    pub gates_more : (old done now new : ℕ → ℕ → Type 0) → OnlyIfFree g done
        → IsPassedFrom g order old done (place + 1) now → ((n o : ℕ) → new n o
        ↔ (now n o ⊎ (now (get_or order place 0) o × IsOpenTo (λ m. done m o)
        (node g (get_or order place 0)).groups n))) → IsPassedFrom g order old done place new
    gates_more old done now new free so_far passes =
        let this = get_or order place 0 in
        record {
          stays = λ n o h. (passes n o).1 (inl (so_far.stays n o h));
          gates = λ p n o h lacks stands. elim (subst (λ (l : List ℕ). Has l p) (drop_more order place 0 low)
              h) [
                | inl here ↦ (passes n o).1 (inr (
                  so_far.stays this o
                      (subst (λ k. old k o) (sym here) lacks),
                  subst (λ k. IsOpenTo (λ m. done m o) (node g k).groups
                      n) (sym here) stands,
                ))
                | inr there ↦ (passes n o).1
                    (inl (so_far.gates p n o there lacks stands))
              ];
          wanted = λ n o without small h are. ⊎_elim (λ had. so_far.wanted n o without small had are)
              (λ both. wanted_onward (so_far.wanted this o without node_here both.0 are)
              (open_free g o done without are (λ k. free k o) (node g this).groups
              (λ m need. is.sound.edges this m need) n both.1)) ((passes n o).0 h);
        }

    -- the target of one node more
    pub targets_more : (first old now new : ℕ → ℕ → Type 0) → IsPassedUpTo g order first old place now
        → ((n o : ℕ) → new n o ↔ (now n o ⊎ ((n ≡ get_or order place 0)
        × (first (get_or order place 0) o × (¬ (o ≡ get_or order place 0))
        × ((p : ℕ) → Has (prerequisites g (get_or order place 0)) p → now p o)))))
        → IsPassedUpTo g order first old (place + 1) new
    targets_more first old now new so_far passes =
        let this = get_or order place 0 in
        record {
          stays = λ n o h. (passes n o).1 (inl (so_far.stays n o h));
          targets = λ n o h lacks other needs. ⊎_elim (λ before. (passes n o).1
              (inl (so_far.targets n o before lacks other needs)))
              (λ same. (passes n o).1 (inr (
                same,
                (
                  subst (λ k. first k o) same lacks,
                  λ e. other
                      (e ∙ sym same),
                  λ p need. so_far.stays p o (needs p
                      (subst (λ k. Has (prerequisites g k) p) (sym same) need)),
                ),
              )))
              ((Has-take_more order place n low).0 h);
          free = λ n o small h. ⊎_elim (λ had. so_far.free n o small had) (λ both. subst (λ k. IsFree g o k) (sym both.0) (free_made g o this (λ e. both.1.1 (sym e)) (λ p need. so_far.free p o (is.sound.edges this p need) (both.1.2 p need)))) ((passes n o).0 h);
        }

  module _ (order : List ℕ) (order_is : order ≡ serial_order g) where
    -- from the first place on, all gates are passed
    pub all_gates : (old done now : ℕ → ℕ → Type 0) → IsPassedFrom g order old done 0 now → PassesGates g old done now
    all_gates old done now passed p n o small lacks stands = passed.gates p n o ((in_order g is order order_is p).1 small) lacks stands

    -- up to the last place, all targets are
    pub all_targets : (first old now : ℕ → ℕ → Type 0) (place : ℕ) → length order ≤ place → IsPassedUpTo g order first old place now → PassesTargets g first old now
    all_targets first old now place past passed n o small lacks other needs = passed.targets n o (subst (λ (l : List ℕ). Has l n) (sym (take_all place order past)) ((in_order g is order order_is n).1 small)) lacks other needs

    -- of the first nodes of the order, those that can be done without o
    some_free_up_to : (o i : ℕ) → i ≤ length order → (free : List ℕ) × AreFreeUpTo g order o i free
    some_free_up_to o zero low = ([], λ n. (λ h. absurd h, λ h. absurd h.0))
    some_free_up_to o (suc i) low =
        let rest = some_free_up_to o i (omega arith) in
        let this = get_or order i 0 in
        let within : i < length order = omega arith in
        let more : i + 1 ≡ suc i = omega arith in
        elim (cases_eq this o) [
          | inl same ↦ (
            rest.0,
            subst (λ k. AreFreeUpTo g order o k rest.0) more
                (free_stays g is order order_is o i rest.0 within rest.1 (λ both. both.0 same)),
          )
          | inr other ↦ (elim (cases_HasAll rest.0 (prerequisites g this)) [
            | inl all ↦ (
              this ∷ rest.0,
              subst (λ k. AreFreeUpTo g order o k (this ∷ rest.0)) more
                  (free_joins g is order order_is o i rest.0 (this ∷ rest.0) within rest.1 other all
                  (λ n. (
                    λ h. ⊎_elim (λ e. inl (sym e)) (λ t. inr t) h,
                    λ h. ⊎_elim (λ e. inl (sym e)) (λ t. inr t)
                        h,
                  ))),
            )
            | inr lacks ↦ (
              rest.0,
              subst (λ k. AreFreeUpTo g order o k rest.0) more
                  (free_stays g is order order_is o i rest.0 within rest.1 (λ both. lacks both.1)),
            )
          ])
        ]

    -- the nodes that can be done without o
    pub some_free : (o : ℕ) → (free : List ℕ) × AreFree g o free
    some_free o =
        let all = some_free_up_to o (length order) (omega arith) in
        (all.0, all_free g is order order_is o (length order) all.0 (omega arith) all.1)

  -- a path of prerequisites ends at a node
  leads_to_node : (n m : ℕ) → HasPath g n m → m < length g.nodes
  leads_to_node n m (one h) = is.sound.edges n m h
  leads_to_node n m (then {m = k} l h) = is.sound.edges k m h

  -- all nodes can be done without what is none
  pub free_of_none : (o n : ℕ) → length g.nodes ≤ o → n < length g.nodes → IsFree g o n
  free_of_none o n past low = (λ e. absurd (omega arith), λ l. let small = leads_to_node n o l in absurd (omega arith))

  -- what stands in groups of free nodes stands in an open group
  all_open : (free : List ℕ) (groups : List (List ℕ)) → ((m : ℕ) → Has (joined groups) m → Has free m) → (n : ℕ) → Has (joined groups) n → InOpenGroup free groups n
  all_open free [] all n h = absurd h
  all_open free (group ∷ groups) all n h =
      elim (Has-cases group (joined groups) n h) [ inl here ↦ inl here | inr later ↦ inr (HasAll-from_Has free group (λ m t. all m (Has-left group (joined groups) m t)), all_open free groups (λ m t. all m (Has-right group (joined groups) m t)) n later) ]

  -- so all that is reached is wanted once they are done
  pub wanted_without_none : (o : ℕ) (free : List ℕ) → length g.nodes ≤ o → AreFree g o free → (n : ℕ) → Reached g n → Wanted g g.goals free n
  wanted_without_none o free past are n (goal h) = wanted_goal h
  wanted_without_none o free past are n (onward {n = m} r h) =
      wanted_onward (wanted_without_none o free past are m r) (all_open free (node g m).groups (λ k need. let low = is.sound.edges m k need in (are k).1 (low, free_of_none o k past low)) n h)

  module _ (rows : ℕ → ℕ → Type 0) (full : (n o : ℕ) → n < length g.nodes → rows n o → length g.nodes ≤ o) where
    -- where first rows lack what is no node alone
    pub full_wanted : OnlyIfWanted g rows
    full_wanted n o free low h are = wanted_without_none o free (full n o low h) are n (is.sound.reached n low)

    -- where done rows do
    pub full_free : OnlyIfFree g rows
    full_free n o low h = free_of_none o n (full n o low h) low

  module _ (first done : ℕ → ℕ → Type 0) (settled : AreSettled g first done) (o : ℕ) where
    -- what is wanted once nodes are done that lack o lacks it
    wanted_lacks : (ns : List ℕ) → ((m : ℕ) → Has ns m → done m o) → (n : ℕ) → Wanted g g.goals ns n → first n o
    wanted_lacks ns lack n (wanted_goal h) = settled.goals n o h
    wanted_lacks ns lack n (wanted_onward {p} w stands) =
        settled.gates p n o (reached_is_node g p is.sound (wanted_reached g ns p w)) (wanted_lacks ns lack p w) (open_lacking o done ns lack (node g p).groups n stands)

    -- the nodes of a turn list without o lack it
    turned_lack : (goals ns : List ℕ) → IsWithin goals g.goals → IsSchedule g goals ns → ¬ (Has ns o) → (n : ℕ) → Has ns n → done n o
    turned_lack goals [] within turns out n h = absurd h
    turned_lack goals (m ∷ ns) within turns out n (inl here) =
        let rest = turned_lack goals ns within turns.1 (λ h. out (inr h)) in
        let wanted = Wanted-grows g goals g.goals ns ns within (λ k h. h) m turns.0.wanted in
        let lacks = wanted_lacks ns rest m wanted in
        subst (λ k. done k o) here (settled.targets m o (reached_is_node g m is.sound (wanted_reached g ns m wanted)) lacks (λ e. out (inl (sym e))) (λ p need. rest p (Has-from_HasAll ns (prerequisites g m) turns.0.prerequisites p need)))
    turned_lack goals (m ∷ ns) within turns out n (inr there) = turned_lack goals ns within turns.1 (λ h. out (inr h)) n there

    -- So o is before t where it is in the first row of t or in a done row of its prerequisites,
    pub is_before_by_rows : (t : ℕ) → ¬ (first t o × ((p : ℕ) → Has (prerequisites g t) p → done p o)) → Before g o t
    is_before_by_rows t cannot recipe goals ns part turns may =
        let within = Has-from_HasAll g.goals goals part.within in
        ⊎_elim (λ h. h) (λ out. let lack = turned_lack goals ns within turns out in absurd (cannot (wanted_lacks ns lack t (Wanted-grows g goals g.goals ns ns within (λ k h. h) t may.wanted), λ p need. lack p (Has-from_HasAll ns (prerequisites g t) may.prerequisites p need)))) (cases_Has ns o)

    -- and isn't where it is in neither.
    pub is_not_before_by_rows : (t : ℕ) → t < length g.nodes → (node g t).recipe ≡ true → first t o → ((p : ℕ) → Has (prerequisites g t) p → done p o) → ¬ (Before g o t)
    is_not_before_by_rows t low recipe lacks needs =
        let free = some_free (serial_order g) refl o in
        is_not_before g o is free.0 free.1 t recipe (settled.wanted t o free.0 low lacks free.1) (HasAll-from_Has free.0 (prerequisites g t) (λ p need. let small = is.sound.edges t p need in (free.1 p).1 (small, settled.free p o small (needs p need))))
