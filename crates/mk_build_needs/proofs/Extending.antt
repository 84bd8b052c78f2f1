-- In a graph that extends another one and has no race, each node runs after what it needs.
use Rattle.std.proofs.Common.{◌≡◌, ℕ, ◌<◌, Bool, true, false, true≢false, ◌||◌, ⊎_elim, List, [], ◌∷◌, ◌++◌, length, map, reverse, inl, inr, refl, sym, ap, subst, ◌∙◌, arith, length-append}
use Rattle.std.specs.List.{flat_map, range_with_len}
use Rattle.std.proofs.lemmas.Bool.{cases_Bool}
use Rattle.std.proofs.Math.ListN.{get_or-append}
use Rattle.std.proofs.lemmas.Grind.{flat_map-append}
use Rattle.std.proofs.lemmas.List.FromFn.{length-map-range_with_len, get_or-map-range_with_len}
use Rattle.mk_lemmas.proofs.Members.{Has-from_then, Has-left, Has-reverse, Has-then}
use Rattle.mk_graph.proofs.Parts.{HasAll-from_Has}
use Rattle.mk_graph.proofs.Nodes.{recipe_is_node}
use Rattle.mk_graph.specs.declared.node.Node.{Node}
use Rattle.mk_graph.specs.ScheduleLaws.{SerialOrderIsASchedule}
use Rattle.mk_graph.specs.Serial.{order_from}
use Rattle.mk_graph.specs.Graph.{Graph, node, no_node, prerequisites, Reached, goal, onward, HasPath, one, then, IsGraph}
use Rattle.mk_graph.specs.Laws.{SerialReachesEachOnce, OrderOfAllGoals, ClosesOnlyCycles}
use Rattle.mk_graph.specs.Membership.{Has}
use Rattle.mk_build.proofs.ChainWays.{one_number}
use Rattle.mk_build.specs.Right.{AreSound, HaveNoRace}
use Rattle.mk_graph.specs.Schedules.{CanStart, IsSchedule, IsPart}
use Rattle.mk_build.specs.Setting.{FileName, Setting, name, reads, writes}
use Rattle.mk_graph.proofs.Acyclic.{is_node}
use Rattle.mk_graph.proofs.Turning.{HasAll-has}
use Rattle.mk_build_needs.specs.Extending.{Extends, amended}
use Rattle.mk_build_needs.specs.Laws.{NeedsAreThese, AmendedExtends, CycleCannotBeMended, FirstCycleCannotBeMended}
use Rattle.mk_build_needs.specs.Needs.{needs, IsNeeded}
use Rattle.mk_build_needs.specs.NeedsGraph.{needs_graph}
use Rattle.mk_build_needs.proofs.Graphs.{prerequisites_within, path_begins}

-- what is reached is reached from a goal
some_goal : (g : Graph) (n : ℕ) → Reached g n → ¬ (g.goals ≡ [])
some_goal g n (goal h) none = subst (λ (l : List ℕ). Has l n) none h
some_goal g n (onward {n = m} reached h) none = some_goal g m reached none

module _ (g h : Graph) (s : Setting) (ext : Extends g h) where
  -- what a recipe reads, it reads in the other graph too
  reads_there : (n : ℕ) (f : FileName) → Has (reads g s n) f → ((node g n).recipe ≡ true) × Has (reads h s (ext.place n)) f
  reads_there n f read =
      let own = Has-from_then (node g n).recipe (s.reads (name g n)) f read in
      let low = recipe_is_node g n own.0 in
      (own.0, Has-then (node h (ext.place n)).recipe (s.reads (name h (ext.place n))) f (ext.recipe n low own.0) (subst (λ (file : FileName). Has (s.reads file) f) (sym (ext.named n low).1) own.1))

  -- and so for what it writes
  writes_there : (n : ℕ) (f : FileName) → Has (writes g s n) f → Has (writes h s (ext.place n)) f
  writes_there n f write =
      let own = Has-from_then (node g n).recipe (s.writes (name g n)) f write in
      let low = recipe_is_node g n own.0 in
      Has-then (node h (ext.place n)).recipe (s.writes (name h (ext.place n))) f (ext.recipe n low own.0) (subst (λ (file : FileName). Has (s.writes file) f) (sym (ext.named n low).1) own.1)

  module _ (graph : IsGraph g) (these : NeedsAreThese) (sound : AreSound h s) (no_race : HaveNoRace h s) (part : IsPart h.goals h.goals) where
    -- a node without a recipe whose file a recipe writes gets no recipe, which would write the file too
    no_second : (n o : ℕ) → n < length g.nodes → (node g n).recipe ≡ false → Has (writes g s o) (name g n) → Has (writes h s (ext.place o)) (name h (ext.place n)) → (node h (ext.place n)).recipe ≡ true → ⊥
    no_second n o low none write written has =
        let m = ext.place n in
        let own = Has-from_then (node g o).recipe (s.writes (name g o)) (name g n) write in
        let is_node = recipe_is_node g o own.0 in
        let same : ext.place o ≡ m = sound.one_writer (ext.place o) m (name h m) written (sound.target m has (sound.not_phony (ext.place o) m written)) in
        let alike : name g o ≡ name g n = sym (ext.named o is_node).1 ∙ (ap (λ k. name h k) same ∙ (ext.named n low).1) in
        let one : o ≡ n = one_number g graph.sound (name g n) o n (is_node, alike) (low, refl) in
        true≢false (sym own.0 ∙ (ap (λ k. (node g k).recipe) one ∙ none))

    -- once a node can start, what it needs is done
    needed_before : (n o : ℕ) → n < length g.nodes → IsNeeded g s n o → (ns : List ℕ) → IsSchedule h h.goals ns → CanStart h h.goals ns (ext.place n) → Has ns (ext.place o)
    needed_before n o low (inl given) ns turns can = HasAll-has ns (prerequisites h (ext.place n)) (ext.place o) can.prerequisites (ext.edges n o given)
    needed_before n o low (inr (inl (f, read, write, differ))) ns turns can =
        let there = reads_there n f read in
        let written = writes_there o f write in
        let apart : ¬ (ext.place o ≡ ext.place n) = λ same. sound.not_own (ext.place n) f there.1 (subst (λ k. Has (writes h s k) f) same written) in
        no_race (ext.place n) (ext.place o) f apart there.1 written (ext.recipe n low there.0) h.goals ns part turns can
    needed_before n o low (inr (inr (none, write))) ns turns can =
        let named = ext.named n low in
        let written : Has (writes h s (ext.place o)) (name h (ext.place n)) = subst (λ (f : FileName). Has (writes h s (ext.place o)) f) (sym named.1) (writes_there o (name g n) write) in
        HasAll-has ns (prerequisites h (ext.place n)) (ext.place o) can.prerequisites
        (sound.not_loose (ext.place n) (ext.place o) named.0 (⊎_elim (λ has. absurd (no_second n o low none write written has)) (λ is. is) (cases_Bool (node h (ext.place n)).recipe)) written)

    -- the same along the graph of needs
    done_before : (n o : ℕ) → Has (prerequisites (needs_graph g s) n) o → (ns : List ℕ) → IsSchedule h h.goals ns → CanStart h h.goals ns (ext.place n) → Has ns (ext.place o)
    done_before n o need =
        let found = prerequisites_within g (needs g s) n o need in
        needed_before n o found.0 ((these g s graph n o).0 found.1)

    -- a schedule has what its nodes need
    schedule_has : (ns : List ℕ) → IsSchedule h h.goals ns → (n o : ℕ) → Has ns (ext.place n) → Has (prerequisites (needs_graph g s) n) o → Has ns (ext.place o)
    schedule_has [] turns n o there need = absurd there
    schedule_has (m ∷ ns) turns n o (inl here) need = inr (done_before n o need ns turns.1 (subst (λ k. CanStart h h.goals ns k) here turns.0))
    schedule_has (m ∷ ns) turns n o (inr there) need = inr (schedule_has ns turns.1 n o there need)

    -- and so what paths of needs lead to
    path_within : (ns : List ℕ) → IsSchedule h h.goals ns → (n m : ℕ) → ((o : ℕ) → Has (prerequisites (needs_graph g s) n) o → Has ns (ext.place o)) → HasPath (needs_graph g s) n m → Has ns (ext.place m)
    path_within ns turns n m first (one need) = first m need
    path_within ns turns n m first (then {m = k} path need) = schedule_has ns turns k m (path_within ns turns n k first path) need

    -- so no node of a schedule needs itself
    no_cycle : (ns : List ℕ) → IsSchedule h h.goals ns → (n : ℕ) → Has ns (ext.place n) → ¬ (HasPath (needs_graph g s) n n)
    no_cycle [] turns n there path = absurd there
    no_cycle (m ∷ ns) turns n (inl here) path =
        turns.0.not_done (subst (λ k. Has ns k) (sym here) (path_within ns turns.1 n n (λ o need. done_before n o need ns turns.1 (subst (λ k. CanStart h h.goals ns k) here turns.0)) path))
    no_cycle (m ∷ ns) turns n (inr there) path = no_cycle ns turns.1 n there path

pub cycle_cannot_be_mended : NeedsAreThese → SerialReachesEachOnce → OrderOfAllGoals → SerialOrderIsASchedule → CycleCannotBeMended
cycle_cannot_be_mended these once all schedule g h s graph after ext sound no_race n path =
    let low = path_begins g (needs g s) n n path in
    let reached : Reached h (ext.place n) = after.sound.reached (ext.place n) (ext.named n low).0 in
    let part : IsPart h.goals h.goals = record { not_empty = some_goal h (ext.place n) reached; within = HasAll-from_Has h.goals h.goals (λ k there. there) } in
    let there : Has (reverse (order_from h h.goals)) (ext.place n) =
    Has-reverse (order_from h h.goals) (ext.place n) (subst (λ (l : List ℕ). Has l (ext.place n)) (sym (all h)) (((once h after.no_cycle).1 (ext.place n)).1 reached)) in
    no_cycle g h s ext graph these sound no_race part (reverse (order_from h h.goals)) (schedule h after.no_cycle h.goals part) n there path

pub first_cycle_cannot_be_mended : CycleCannotBeMended → ClosesOnlyCycles → FirstCycleCannotBeMended
first_cycle_cannot_be_mended law closes g h s names graph (path, closed, are) after ext sound no_race =
    let cycle = closes (needs_graph g s) path closed in
    law g h s graph after ext sound no_race cycle.first cycle.leads

module _ (g : Graph) (more : ℕ → List ℕ) (recipe phony : ℕ → Bool) (others : List Node) (goals : List ℕ) where
  abbrev changed : ℕ → Node
  changed n = record (node g n) { groups = (node g n).groups ++ more n ∷ []; recipe = (node g n).recipe || recipe n; phony = phony n }

  abbrev front : List Node
  front = map changed (range_with_len 0 (length g.nodes))

  front_length : length front ≡ length g.nodes
  front_length = length-map-range_with_len changed 0 (length g.nodes)

  -- the nodes stand in front
  stays_at : (n : ℕ) → n < length g.nodes → node (amended g more recipe phony others goals) n ≡ changed n
  stays_at n low = get_or-append front others no_node n (let many = front_length in omega arith) ∙ get_or-map-range_with_len changed 0 (length g.nodes) n n no_node low (omega arith)

  -- and keep their prerequisites
  keeps_edges : (n p : ℕ) → Has (prerequisites g n) p → Has (prerequisites (amended g more recipe phony others goals) n) p
  keeps_edges n p h =
      let is : prerequisites (amended g more recipe phony others goals) n ≡ prerequisites g n ++ flat_map (λ (l : List ℕ). l) (more n ∷ []) =
      ap (λ (v : Node). flat_map (λ (l : List ℕ). l) v.groups) (stays_at n (is_node g n p h)) ∙ flat_map-append (λ (l : List ℕ). l) (node g n).groups (more n ∷ []) in
      subst (λ (l : List ℕ). Has l p) (sym is) (Has-left (prerequisites g n) (flat_map (λ (l : List ℕ). l) (more n ∷ [])) p h)

pub amended_extends : AmendedExtends
amended_extends g more recipe phony others goals =
    let at = stays_at g more recipe phony others goals in
    record {
      place = λ n. n;
      named = λ n low. (
        (let many = front_length g more recipe phony others goals in let all = length-append (front g more recipe phony others goals) others in omega arith),
        ap (λ (v : Node). v.name) (at n low),
      );
      recipe = λ n low is. ap (λ (v : Node). v.recipe) (at n low) ∙ ap (λ (b : Bool). b || recipe n) is;
      edges = keeps_edges g more recipe phony others goals;
    }
