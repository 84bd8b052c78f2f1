-- Walks close cycles, come through without cycles, and have an end.
use Rattle.std.proofs.Common.{true, false, ◌≡◌, ℕ, zero, suc, ◌+◌, ◌<◌, eqb, List, [], ◌∷◌, ◌++◌, length, inl, inr, ⊎_elim, refl, sym, subst, arith, eqb-true, eq-eqb}
use Rattle.std.proofs.lemmas.Bool.{cases_Bool, cond-true, cond-false, eqb-false}
use Rattle.mk_lemmas.proofs.Members.{cases_Has, length-le_distinct}
use Rattle.mk_graph.specs.Membership.{Has, IsDistinct}
use Rattle.mk_graph.specs.Graph.{Graph, prerequisites, Reached, goal, onward, HasPath, one, then, HasNoCycle, IsSound}
use Rattle.mk_graph.specs.Walk.{WalkEnd, Through, Closes, path_from, closed_path, Walks, ends, passes, closes, breaks, finishes}
use Rattle.mk_graph.specs.Build.{WalksAll}
use Rattle.mk_graph.specs.Laws.{WalkHasAnEnd, WalkHasOneEnd, GoesAlong, step, further, ClosesOnlyCycles, ComesThroughWithoutCycles, HeightsForbidCycles, NoCycleGivesHeights}
use Rattle.mk_graph.proofs.Walks.{one_end, holds_closes}
use Rattle.mk_graph.proofs.Acyclic.{no_cycle, no_node_leads_to_itself}

-- from no node under way and none finished, there is one end
pub walk_has_one_end : WalkHasOneEnd
walk_has_one_end g a b w v = one_end (prerequisites g) (λ n u. absurd u) w v

-- heights fall along a path, so it doesn't come back
pub heights_forbid_cycles : HeightsForbidCycles
heights_forbid_cycles g is n = no_node_leads_to_itself g is n

-- what a walk finishes has heights
pub comes_through_without_cycles : ComesThroughWithoutCycles
comes_through_without_cycles g finished sound w n = no_node_leads_to_itself g (no_cycle g finished sound w) n

module _ (g : Graph) where
  -- the node is a prerequisite of the innermost one, if any is under way
  abbrev IsNext : List ℕ → ℕ → Type 0
  IsNext [] n = Unit {0}
  IsNext (m ∷ under) n = Has (prerequisites g m) n

  -- each node that is under way is a prerequisite of the one outside it
  abbrev IsChain : List ℕ → Type 0
  IsChain [] = Unit {0}
  IsChain (m ∷ under) = IsNext under m × IsChain under

  -- a path along prerequisites, of one node or more
  data Trail (first : ℕ) : ℕ → List ℕ → Type 0 where
    stays : Trail first first (first ∷ [])
    onto : {m p : ℕ} {path : List ℕ} → Trail first m path → Has (prerequisites g m) p → Trail first p (path ++ p ∷ [])

  -- one step more makes it a path of a step or more
  trail_on : {first m p : ℕ} {path : List ℕ} → Trail first m path → Has (prerequisites g m) p → GoesAlong g first p (path ++ p ∷ [])
  trail_on stays h = step h
  trail_on (onto t h') h = further (trail_on t h') h

  -- where the innermost node is n, the path is n alone
  ends_here : (n m : ℕ) (under : List ℕ) → eqb m n ≡ true → Trail n m (path_from n (m ∷ under))
  ends_here n m under e =
      let alone : path_from n (m ∷ under) ≡ m ∷ [] = cond-true (eqb m n) (m ∷ []) (path_from n under ++ m ∷ []) e in
      subst (λ (l : List ℕ). Trail n m l) (sym alone) (subst (λ k. Trail n k (k ∷ [])) (sym (eqb-true m n e)) stays)

  -- else it is that of the nodes outside, and the innermost
  goes_out : (n m k : ℕ) (under : List ℕ) → eqb m n ≡ false → Trail n k (path_from n (k ∷ under)) → Has (prerequisites g k) m → Trail n m (path_from n (m ∷ k ∷ under))
  goes_out n m k under e t h =
      let longer : path_from n (m ∷ k ∷ under) ≡ path_from n (k ∷ under) ++ m ∷ [] = cond-false (eqb m n) (m ∷ []) (path_from n (k ∷ under) ++ m ∷ []) e in
      subst (λ (l : List ℕ). Trail n m l) (sym longer) (onto t h)

  -- from a node that is under way to the innermost one
  trail_from : (n m : ℕ) (under : List ℕ) → Has (m ∷ under) n → IsChain (m ∷ under) → Trail n m (path_from n (m ∷ under))
  trail_from n m [] h chain =
      ⊎_elim (λ here. ends_here n m [] (eq-eqb m n here)) (λ none. absurd none) h
  trail_from n m (k ∷ under) h chain =
      ⊎_elim (ends_here n m (k ∷ under)) (λ e. goes_out n m k under e (trail_from n k under (⊎_elim (λ here. absurd (eqb-false m n e here)) (λ there. there) h) chain.1) chain.0) (cases_Bool (eqb m n))

  -- back to a node that is under way, the path is closed
  closed_along : (n : ℕ) (under : List ℕ) → Has under n → IsChain under → IsNext under n → GoesAlong g n n (closed_path n under)
  closed_along n [] h chain next = absurd h
  closed_along n (m ∷ under) h chain next = trail_on (trail_from n m under h chain) next

  -- a path that a walk closes goes from a node to itself
  closes_along : {under finished todo path : List ℕ} → Walks (prerequisites g) under finished todo (Closes path) → IsChain under → ((p : ℕ) → Has todo p → IsNext under p) → (n : ℕ) × GoesAlong g n n path
  closes_along (passes was w) chain next = closes_along w chain (λ p t. next p (inr t))
  closes_along (closes {under} {n} u) chain next = (n, closed_along n under u chain (next n (inl refl)))
  closes_along (breaks {n} new unfinished w) chain next = closes_along w (next n (inl refl), chain) (λ p need. need)
  closes_along (finishes new unfinished w v) chain next = closes_along v chain (λ p t. next p (inr t))

  -- a path leads to its end
  along_leads : {n p : ℕ} {path : List ℕ} → GoesAlong g n p path → HasPath g n p
  along_leads (step h) = one h
  along_leads (further a h) = then (along_leads a) h

-- a closed path goes along prerequisites, among what is reached
pub closes_only_cycles : ClosesOnlyCycles
closes_only_cycles g path w =
    let cycle = closes_along g w tt (λ p t. tt) in
    record {
      first = cycle.0;
      along = cycle.1;
      reached = λ n h. holds_closes (prerequisites g) (Reached g) (λ m p r need. onward r need) w (λ m u. absurd u) (λ m t. goal t) n h;
      leads = along_leads g cycle.1;
    }

module _ (needs : ℕ → List ℕ) (bound : ℕ) (within : (n p : ℕ) → Has (needs n) p → p < bound) where
  -- A walk has an end, with so many more nodes under way at most.
  abbrev HasEnd : ℕ → Type 0
  HasEnd room = (under finished todo : List ℕ) → IsDistinct under → ((n : ℕ) → Has under n → n < bound) → ((n : ℕ) → Has todo n → n < bound) → bound < room + length under → (end : WalkEnd) × Walks needs under finished todo end

  -- after the prerequisites of a node: it is finished, or their path is the end
  after_inside : {under finished todo : List ℕ} {n : ℕ} (end : WalkEnd) → ¬ (Has under n) → ¬ (Has finished n)
      → Walks needs (n ∷ under) finished (needs n) end → ((middle : List ℕ) → (end : WalkEnd)
      × Walks needs under (n ∷ middle) todo end) → (end : WalkEnd) × Walks needs under finished (n ∷ todo) end
  after_inside (Through middle) new unfinished w rest = let r = rest middle in (r.0, finishes new unfinished w r.1)
  after_inside (Closes path) new unfinished w rest = (Closes path, breaks new unfinished w)

  -- not more nodes are under way than there are
  no_room : HasEnd zero
  no_room under finished todo distinct low todo_low room = let few = length-le_distinct under bound distinct low in absurd (omega arith)

  -- one node more may be under way
  more_room : (room : ℕ) → HasEnd room → HasEnd (suc room)
  more_room room below under finished [] distinct low todo_low fits = (Through finished, ends)
  more_room room below under finished (n ∷ todo) distinct low todo_low fits =
      let rest : (l : List ℕ) → (end : WalkEnd) × Walks needs under l todo end = λ l. more_room room below under l todo distinct low (λ k t. todo_low k (inr t)) fits in
      ⊎_elim (λ was. let r = rest finished in (r.0, passes was r.1))
      (λ unfinished. ⊎_elim (λ u. (Closes (closed_path n under), closes u))
      (λ new. let inside = below (n ∷ under) finished (needs n) (new, distinct)
      (λ k u. ⊎_elim (λ e. subst (λ j. j < bound) e (todo_low n (inl refl))) (low k) u) (within n)
      (omega arith) in after_inside inside.0 new unfinished inside.1 (λ middle. rest (n ∷ middle)))
      (cases_Has under n)) (cases_Has finished n)

  -- however many may be under way, there is an end
  pub has_end : (room : ℕ) → HasEnd room
  has_end zero = no_room
  has_end (suc room) = more_room room (has_end room)

-- from no node under way, as many may be as there are nodes
pub walk_has_an_end : WalkHasAnEnd
walk_has_an_end g sound = has_end (prerequisites g) (length g.nodes) sound.edges (suc (length g.nodes)) [] [] g.goals tt (λ n u. absurd u) sound.goals (omega arith)

-- each end of a walk of a graph without cycles gives heights
heights_from : (g : Graph) → IsSound g → ((n : ℕ) → ¬ (HasPath g n n)) → (end : WalkEnd) → WalksAll g end → HasNoCycle g
heights_from g sound none (Through finished) w = no_cycle g finished sound w
heights_from g sound none (Closes path) w = let cycle = closes_only_cycles g path w in absurd (none cycle.first cycle.leads)

-- where no node leads to itself, nodes have heights
pub no_cycle_gives_heights : NoCycleGivesHeights
no_cycle_gives_heights g sound none = let w = walk_has_an_end g sound in heights_from g sound none w.0 w.1
