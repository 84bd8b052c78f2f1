-- What can be done without one node decides which nodes it is before.
use Rattle.std.proofs.Common.{true, ◌≡◌, ℕ, zero, suc, ◌<◌, List, [], ◌∷◌, length, inl, inr, ⊎_elim, ◌⊎◌, refl, sym, subst, arith}
use Rattle.mk_lemmas.proofs.Members.{Has-left, Has-right, cases_Has}
use Rattle.mk_graph.specs.Membership.{Has, IsWithin}
use Rattle.mk_graph.specs.Graph.{Graph, node, prerequisites, Reached, goal, onward, HasPath, one, then, IsSound, IsGraph}
use Rattle.mk_graph.specs.Schedules.{HasAll, InOpenGroup, Wanted, goal as wanted_goal, onward as wanted_onward, CanStart, IsSchedule, IsPart, Before}
use Rattle.mk_graph.specs.Without.{IsFree, AreFree, joined}
use Rattle.mk_graph.proofs.Parts.{HasAll-from_Has, Has-from_HasAll, HasAll-grows, Wanted-grows}
use Rattle.mk_graph.proofs.Loops.{HasAll-append}

-- a path goes over a prerequisite of its first node
first_step : (g : Graph) (n m : ℕ) → HasPath g n m → (p : ℕ) × Has (prerequisites g n) p × ((p ≡ m) ⊎ HasPath g p m)
first_step g n m (one h) = (m, h, inl refl)
first_step g n m (then {m = k} l h) =
    let s = first_step g n k l in
    (s.0, s.1, inr (⊎_elim (λ same. one (subst (λ j. Has (prerequisites g j) m) (sym same) h)) (λ on. then on h) s.2))

-- a path goes on from a prerequisite
step_on : (g : Graph) (n p m : ℕ) → Has (prerequisites g n) p → HasPath g p m → HasPath g n m
step_on g n p m h (one h') = then (one h) h'
step_on g n p m h (then {m = k} l h') = then (step_on g n p k h l) h'

-- what a free node needs is free
pub free_needs : (g : Graph) (o n p : ℕ) → IsFree g o n → Has (prerequisites g n) p → IsFree g o p
free_needs g o n p f h = (λ e. f.1 (subst (λ k. HasPath g n k) e (one h)), λ l. f.1 (step_on g n p o h l))

-- another node than o is free where all that it needs is
pub free_made : (g : Graph) (o n : ℕ) → ¬ (n ≡ o) → ((p : ℕ) → Has (prerequisites g n) p → IsFree g o p) → IsFree g o n
free_made g o n ne all = (ne, λ l. let s = first_step g n o l in ⊎_elim (λ same. (all s.0 s.1).0 same) (λ on. (all s.0 s.1).1 on) s.2)

-- an open group is one of the groups
pub open_joined : (done : List ℕ) (groups : List (List ℕ)) (n : ℕ) → InOpenGroup done groups n → Has (joined groups) n
open_joined done [] n h = absurd h
open_joined done (group ∷ groups) n (inl here) = Has-left group (joined groups) n here
open_joined done (group ∷ groups) n (inr later) = Has-right group (joined groups) n (open_joined done groups n later.1)

-- what is wanted is reached
pub wanted_reached : (g : Graph) (done : List ℕ) (n : ℕ) → Wanted g g.goals done n → Reached g n
wanted_reached g done n (wanted_goal h) = goal h
wanted_reached g done n (wanted_onward {p} w stands) = onward (wanted_reached g done p w) (open_joined done (node g p).groups n stands)

-- what is reached is a node
pub reached_is_node : (g : Graph) (n : ℕ) → IsSound g → Reached g n → n < length g.nodes
reached_is_node g n sound (goal h) = sound.goals n h
reached_is_node g n sound (onward {n = m} r h) = sound.edges m n h

-- where anything is wanted, there are goals
pub wanted_part : (g : Graph) (goals done : List ℕ) (n : ℕ) → Wanted g goals done n → IsPart goals goals
wanted_part g [] done n (wanted_goal h) = absurd h
wanted_part g (m ∷ goals) done n (wanted_goal h) = record { not_empty = λ e. absurd (cc); within = HasAll-from_Has (m ∷ goals) (m ∷ goals) (λ k t. t) }
wanted_part g goals done n (wanted_onward {p} w stands) = wanted_part g goals done p w

module _ (g : Graph) (o : ℕ) where
  -- a turn list without o that has all of another one
  pub record IsLonger (ns ms : List ℕ) : Type 0 where
    pub turns : IsSchedule g g.goals ms
    pub lacks : ¬ (Has ms o)
    pub within : IsWithin ns ms

  -- a still longer one
  longer_on : (ns ms ks : List ℕ) → IsLonger ns ms → IsLonger ms ks → IsLonger ns ks
  longer_on ns ms ks a b = record { turns = b.turns; lacks = b.lacks; within = λ n h. b.within n (a.within n h) }

  -- wherever it is wanted, the node can be done without o
  abbrev pub Finishes : ℕ → Type 0
  Finishes n = (ns : List ℕ) → IsLonger ns ns → Wanted g g.goals ns n → (ms : List ℕ) × IsLonger ns ms × Has ms n

  -- it is as long as itself
  pub itself : (ns ms : List ℕ) → IsLonger ns ms → IsLonger ms ms
  itself ns ms a = record { turns = a.turns; lacks = a.lacks; within = λ n h. h }

  -- so can all of these
  finish_all : (ps : List ℕ) → ((p : ℕ) → Has ps p → Finishes p) → (ns : List ℕ) → IsLonger ns ns → ((p : ℕ) → Has ps p → Wanted g g.goals ns p) → (ms : List ℕ) × IsLonger ns ms × HasAll ms ps
  finish_all [] f ns is w = (ns, is, tt)
  finish_all (p ∷ ps) f ns is w =
      let a = f p (inl refl) ns is (w p (inl refl)) in
      let b = finish_all ps (λ k t. f k (inr t)) a.0 (itself ns a.0 a.1) (λ k t. Wanted-grows g g.goals g.goals ns a.0 (λ j h. h) a.1.within k (w k (inr t))) in
      (b.0, longer_on ns a.0 b.0 a.1 b.1, (b.1.within p a.2, b.2))

  -- what stands in an open group of these is wanted, from this turn list on
  abbrev AreOpened : List ℕ → List (List ℕ) → Type 0
  AreOpened ns groups = (ms : List ℕ) → IsWithin ns ms → (p : ℕ) → InOpenGroup ms groups p → Wanted g g.goals ms p

  -- so can all of these groups, one after another
  finish_groups : (groups : List (List ℕ)) → ((p : ℕ) → Has (joined groups) p → Finishes p) → (ns : List ℕ) → IsLonger ns ns → AreOpened ns groups → (ms : List ℕ) × IsLonger ns ms × HasAll ms (joined groups)
  finish_groups [] f ns is opened = (ns, is, tt)
  finish_groups (group ∷ groups) f ns is opened =
      let a = finish_all group (λ p h. f p (Has-left group (joined groups) p h)) ns is (λ p h. opened ns (λ k t. t) p (inl h)) in
      let b = finish_groups groups (λ p h. f p (Has-right group (joined groups) p h)) a.0 (itself ns a.0 a.1) (λ ms within p stands. opened ms (λ k t. within k (a.1.within k t)) p (inr (HasAll-grows a.0 ms group within a.2, stands))) in
      (b.0, longer_on ns a.0 b.0 a.1 b.1, (HasAll-append b.0 group (joined groups)).1 (HasAll-grows a.0 b.0 group b.1.within a.2, b.2))

  -- what a wanted node has in open groups is wanted
  opened_by : (n : ℕ) (ns : List ℕ) → Wanted g g.goals ns n → AreOpened ns (node g n).groups
  opened_by n ns w ms within p stands = wanted_onward (Wanted-grows g g.goals g.goals ns ms (λ k h. h) within n w) stands

  -- a node other than o whose prerequisites are done can be done
  finish_node : (n : ℕ) → ¬ (n ≡ o) → (ns ms : List ℕ) → IsLonger ns ms → Wanted g g.goals ms n → HasAll ms (prerequisites g n) → (ks : List ℕ) × IsLonger ns ks × Has ks n
  finish_node n ne ns ms is w all =
      ⊎_elim (λ done. (ms, is, done)) (λ new. (n ∷ ms, record { turns = (record { wanted = w; not_done = new; prerequisites = all }, is.turns); lacks = λ h. ⊎_elim ne is.lacks h; within = λ k h. inr (is.within k h) }, inl refl)) (cases_Has ms n)

  module _ (is : IsGraph g) (free : List ℕ) (are : AreFree g o free) where
    -- what a free node needs is free
    needs_free : (n p : ℕ) → Has free n → Has (prerequisites g n) p → Has free p
    needs_free n p h need = (are p).1 (is.sound.edges n p need, free_needs g o n p ((are n).0 h).1 need)

    -- a free node of this height can be done without o
    finishes_below : (deep n : ℕ) → is.no_cycle.height n < deep → Has free n → Finishes n
    finishes_below zero n low h ns longer w = absurd (omega arith)
    finishes_below (suc deep) n low h ns longer w =
        let all = finish_groups (node g n).groups (λ p need. finishes_below deep p (let less = is.no_cycle.falls n p need in omega arith) (needs_free n p h need)) ns longer (opened_by n ns w) in
        finish_node n ((are n).0 h).1.0 ns all.0 all.1 (Wanted-grows g g.goals g.goals ns all.0 (λ k t. t) all.1.within n w) all.2

    -- each free node can
    free_finishes : (n : ℕ) → Has free n → Finishes n
    free_finishes n h = finishes_below (suc (is.no_cycle.height n)) n (omega arith) h

    -- a group behind free groups can be opened
    open_up : (groups : List (List ℕ)) (n : ℕ) → InOpenGroup free groups n → (ns : List ℕ) → IsLonger ns ns → AreOpened ns groups → (ms : List ℕ) × IsLonger ns ms × InOpenGroup ms groups n
    open_up [] n stands ns longer opened = absurd stands
    open_up (group ∷ groups) n (inl here) ns longer opened = (ns, longer, inl here)
    open_up (group ∷ groups) n (inr later) ns longer opened =
        let a = finish_all group (λ p h. free_finishes p (Has-from_HasAll free group later.0 p h)) ns longer (λ p h. opened ns (λ k t. t) p (inl h)) in
        let b = open_up groups n later.1 a.0 (itself ns a.0 a.1) (λ ms within p stands. opened ms (λ k t. within k (a.1.within k t)) p (inr (HasAll-grows a.0 ms group within a.2, stands))) in
        (b.0, longer_on ns a.0 b.0 a.1 b.1, inr (HasAll-grows a.0 b.0 group b.1.within a.2, b.2))

    -- what would be wanted once all free nodes are done comes to be wanted without o
    comes_wanted : (n : ℕ) → Wanted g g.goals free n → (ns : List ℕ) → IsLonger ns ns → (ms : List ℕ) × IsLonger ns ms × Wanted g g.goals ms n
    comes_wanted n (wanted_goal h) ns longer = (ns, longer, wanted_goal h)
    comes_wanted n (wanted_onward {p} w stands) ns longer =
        let a = comes_wanted p w ns longer in
        let b = open_up (node g p).groups n stands a.0 (itself ns a.0 a.1) (opened_by p a.0 a.2) in
        (b.0, longer_on ns a.0 b.0 a.1 b.1, wanted_onward (Wanted-grows g g.goals g.goals a.0 b.0 (λ k h. h) b.1.within p a.2) b.2)

    -- where a node stands in a turn list, its turn came
    turn_came : (ns : List ℕ) (n : ℕ) → IsSchedule g g.goals ns → ¬ (Has ns o) → Has ns n → (ms : List ℕ) × IsSchedule g g.goals ms × (¬ (Has ms o)) × CanStart g g.goals ms n
    turn_came [] n turns lacks h = absurd h
    turn_came (m ∷ ns) n turns lacks (inl here) = (ns, turns.1, λ h. lacks (inr h), subst (λ k. CanStart g g.goals ns k) here turns.0)
    turn_came (m ∷ ns) n turns lacks (inr there) = turn_came ns n turns.1 (λ h. lacks (inr h)) there

    -- where a node would be wanted and all that it needs is free, its turn comes without o
    pub turn_comes : (t : ℕ) → Wanted g g.goals free t → HasAll free (prerequisites g t) → (ns : List ℕ) × IsSchedule g g.goals ns × (¬ (Has ns o)) × CanStart g g.goals ns t
    turn_comes t w all =
        let a = comes_wanted t w [] (record { turns = tt; lacks = λ h. h; within = λ n h. h }) in
        let b = finish_groups (node g t).groups (λ p h. free_finishes p (Has-from_HasAll free (prerequisites g t) all p h)) a.0 (itself [] a.0 a.1) (opened_by t a.0 a.2) in
        ⊎_elim (turn_came b.0 t b.1.turns b.1.lacks) (λ new. (b.0, b.1.turns, b.1.lacks, record { wanted = Wanted-grows g g.goals g.goals a.0 b.0 (λ k h. h) b.1.within t a.2; not_done = new; prerequisites = b.2 })) (cases_Has b.0 t)

    -- a turn list without o has free nodes alone
    turned_free : (goals ns : List ℕ) → IsWithin goals g.goals → IsSchedule g goals ns → ¬ (Has ns o) → IsWithin ns free
    turned_free goals [] within turns lacks n h = absurd h
    turned_free goals (m ∷ ns) within turns lacks n (inl here) =
        let rest = turned_free goals ns within turns.1 (λ h. lacks (inr h)) in
        let reached = wanted_reached g ns m (Wanted-grows g goals g.goals ns ns within (λ k h. h) m turns.0.wanted) in
        let needs = λ (p : ℕ) (need : Has (prerequisites g m) p). ((are p).0 (rest p (Has-from_HasAll ns (prerequisites g m) turns.0.prerequisites p need))).1 in
        subst (λ k. Has free k) here ((are m).1 (reached_is_node g m is.sound reached, free_made g o m (λ e. lacks (inl e)) needs))
    turned_free goals (m ∷ ns) within turns lacks n (inr there) = turned_free goals ns within turns.1 (λ h. lacks (inr h)) n there

    -- So o is before t where t would not be wanted or needs what isn't free,
    pub is_before : (t : ℕ) → ¬ (Wanted g g.goals free t × HasAll free (prerequisites g t)) → Before g o t
    is_before t cannot recipe goals ns part turns may =
        let within = Has-from_HasAll g.goals goals part.within in
        ⊎_elim (λ h. h) (λ lacks. let all = turned_free goals ns within turns lacks in absurd (cannot (Wanted-grows g goals g.goals ns free within all t may.wanted, HasAll-grows ns free (prerequisites g t) all may.prerequisites))) (cases_Has ns o)

    -- and isn't where t would be wanted and needs what is free.
    pub is_not_before : (t : ℕ) → (node g t).recipe ≡ true → Wanted g g.goals free t → HasAll free (prerequisites g t) → ¬ (Before g o t)
    is_not_before t recipe w all before =
        let shown = turn_comes t w all in
        shown.2 (before recipe g.goals shown.0 (wanted_part g g.goals free t w) shown.1 shown.3)
