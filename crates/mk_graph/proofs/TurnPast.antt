-- A walk over what stands in open groups finishes free nodes in the order of a turn list.
use Rattle.std.proofs.Common.{◌≡◌, ℕ, suc, ◌<◌, List, [], ◌∷◌, ◌++◌, length, filter, reverse, true, false, if◌then◌else◌, ◌⊎◌, inl, inr, ⊎_elim, refl, sym, ◌∙◌, ap, subst, append_assoc, append-nil, eqb, eqb-true, eq-eqb}
use Rattle.std.specs.List.{list_all}
use Rattle.std.proofs.lemmas.Bool.{cases_Bool, cond-true, cond-false, and_parts, and_from, true≢false}
use Rattle.std.proofs.lemmas.List.{reverse-append}
use Rattle.std.proofs.lemmas.List.Elements.{filter-append}
use mathlib.Core.List.{reverse-cons}
use mathlib.Core.Path.{fun_ext}
use Rattle.mk_lemmas.proofs.Members.{Has-cases, Has-from_has, Has-from_reverse, Has-left, Has-right, has-from_Has}
use Rattle.mk_graph.specs.Membership.{Has, has, IsWithin}
use Rattle.mk_graph.specs.Graph.{Graph, node, prerequisites, IsGraph}
use Rattle.mk_graph.specs.Walk.{Through, Closes, Walks, ends, passes, finishes}
use Rattle.mk_graph.specs.Schedules.{HasAll, InOpenGroup, Wanted, goal, onward, CanStart, IsSchedule, Before, IsScheduleWithout}
use Rattle.mk_graph.specs.Without.{AreFree, AreOpened, joined, opened, until}
use Rattle.mk_graph.proofs.Parts.{HasAll-from_Has, Has-from_HasAll, Wanted-grows}
use Rattle.mk_graph.proofs.Walks.{ordered_needs, keeps_order, keeps, takes, stays_under, through_closes, one_end}
use Rattle.mk_graph.proofs.SerialOrder.{cut_height, cut_low, cut_falls, come_through}
use Rattle.mk_graph.proofs.AllButOne.{free_needs}
use Rattle.mk_graph.proofs.Deciding.{would_turn}

-- where the test of all says yes, all stand there
pub all_stand : (free group : List ℕ) → list_all (has free) group ≡ true → HasAll free group
all_stand free [] e = tt
all_stand free (n ∷ group) e = let parts = and_parts (has free n) (list_all (has free) group) e in (Has-from_has free n parts.0, all_stand free group parts.1)

-- and where all stand there, it says yes
pub all_tested : (free group : List ℕ) → HasAll free group → list_all (has free) group ≡ true
all_tested free [] all = refl
all_tested free (n ∷ group) all = and_from (has free n) (list_all (has free) group) (has-from_Has free n all.0) (all_tested free group all.1)

module _ (free group : List ℕ) (groups : List (List ℕ)) where
  -- behind a group that is all free
  pub opens : list_all (has free) group ≡ true → opened free (group ∷ groups) ≡ group ++ opened free groups
  opens e = ap (λ (l : List ℕ). group ++ l) (cond-true (list_all (has free) group) (opened free groups) [] e)

  -- behind one that isn't
  pub stays_shut : list_all (has free) group ≡ false → opened free (group ∷ groups) ≡ group
  stays_shut e = ap (λ (l : List ℕ). group ++ l) (cond-false (list_all (has free) group) (opened free groups) [] e) ∙ append-nil group

-- a list that is cut inside the first of two lists or inside the second
cut_cases : (xs ys front back : List ℕ) (n : ℕ) → xs ++ ys ≡ front ++ n ∷ back → Has xs n ⊎ ((rest : List ℕ) × (front ≡ xs ++ rest) × (ys ≡ rest ++ n ∷ back))
cut_cases [] ys front back n e = inr (front, refl, e)
cut_cases (x ∷ xs) ys [] back n e = let same : x ≡ n = cc in inl (inl same)
cut_cases (x ∷ xs) ys (y ∷ front) back n e =
    let same : x ≡ y = cc in
    let rest : xs ++ ys ≡ front ++ n ∷ back = cc in
    ⊎_elim (λ here. inl (inr here)) (λ there. inr (there.0, ap (λ (l : List ℕ). y ∷ l) there.1 ∙ ap (λ (k : ℕ). k ∷ (xs ++ there.0)) (sym same), there.2)) (cut_cases xs ys front back n rest)

-- what stands there stands in an open group, once the free ones before it are done
open_at : (free done : List ℕ) (groups : List (List ℕ)) (front back : List ℕ) (n : ℕ) → opened free groups ≡ front ++ n ∷ back → ((k : ℕ) → Has front k → Has free k → Has done k) → InOpenGroup done groups n
open_at free done [] [] back n e all = let none : [] ≡ n ∷ back = e in absurd (cc)
open_at free done [] (x ∷ front) back n e all = let none : [] ≡ x ∷ (front ++ n ∷ back) = e in absurd (cc)
open_at free done (group ∷ groups) front back n e all =
    ⊎_elim (λ yes_all. let cut = cut_cases group (opened free groups) front back n
    (sym (opens free group groups yes_all) ∙ e) in ⊎_elim (λ here. inl here)
    (λ later. let is_done : (k : ℕ) → Has group k → Has done k = λ k h. all k
    (subst (λ (l : List ℕ). Has l k) (sym later.1) (Has-left group later.0 k h))
    (Has-from_HasAll free group (all_stand free group yes_all) k h) in inr (
      HasAll-from_Has done group is_done,
      open_at free done groups later.0 back n later.2
          (λ k h. all k (subst (λ (l : List ℕ). Has l k) (sym later.1) (Has-right group later.0 k h))),
    )) cut)
    (λ no_all. let at : group ≡ front ++ n ∷ back = sym (stays_shut free group groups no_all)
    ∙ e in inl (subst (λ (l : List ℕ). Has l n) (sym at) (Has-right front (n ∷ back) n (inl refl))))
    (cases_Bool (list_all (has free) group))

-- it is one of the members of the groups
opened_within : (free : List ℕ) (groups : List (List ℕ)) → IsWithin (opened free groups) (joined groups)
opened_within free [] n h = h
opened_within free (group ∷ groups) n h =
    ⊎_elim (λ e. ⊎_elim (λ here. Has-left group (joined groups) n here)
    (λ there. Has-right group (joined groups) n (opened_within free groups n there))
    (Has-cases group (opened free groups) n (subst (λ (l : List ℕ). Has l n) (opens free group groups e)
    h))) (λ e. Has-left group (joined groups) n (subst (λ (l : List ℕ). Has l n)
    (stays_shut free group groups e) h)) (cases_Bool (list_all (has free) group))

-- where all members are free, all are there
opened_whole : (free : List ℕ) (groups : List (List ℕ)) → ((n : ℕ) → Has (joined groups) n → Has free n) → IsWithin (joined groups) (opened free groups)
opened_whole free [] all n h = h
opened_whole free (group ∷ groups) all n h =
    let e = all_tested free group (HasAll-from_Has free group (λ k in_group. all k (Has-left group (joined groups) k in_group))) in
    subst (λ (l : List ℕ). Has l n) (sym (opens free group groups e))
    (⊎_elim (λ here. Has-left group (opened free groups) n here)
    (λ there. Has-right group (opened free groups) n (opened_whole free groups
    (λ k later. all k (Has-right group (joined groups) k later)) n there))
    (Has-cases group (joined groups) n h))

-- the free ones of a list
abbrev pub kept : (free ns : List ℕ) → List ℕ
kept free ns = filter (has free) ns

-- one that is free
pub kept_in : (free : List ℕ) (n : ℕ) (ns : List ℕ) → has free n ≡ true → kept free (n ∷ ns) ≡ n ∷ kept free ns
kept_in free n ns e = cond-true (has free n) (n ∷ kept free ns) (kept free ns) e

-- and one that isn't
pub kept_out : (free : List ℕ) (n : ℕ) (ns : List ℕ) → has free n ≡ false → kept free (n ∷ ns) ≡ kept free ns
kept_out free n ns e = cond-false (has free n) (n ∷ kept free ns) (kept free ns) e

-- what is free stands among them
Has-kept : (free ns : List ℕ) (n : ℕ) → Has ns n → Has free n → Has (kept free ns) n
Has-kept free [] n h f = absurd h
Has-kept free (m ∷ ns) n h f =
    ⊎_elim (λ e. subst (λ (l : List ℕ). Has l n) (sym (kept_in free m ns e))
    (⊎_elim (λ here. inl here) (λ there. inr (Has-kept free ns n there f)) h))
    (λ e. subst (λ (l : List ℕ). Has l n) (sym (kept_out free m ns e))
    (⊎_elim (λ here. absurd (true≢false (sym (has-from_Has free m
    (subst (λ (k : ℕ). Has free k) (sym here) f)) ∙ e))) (λ there. Has-kept free ns n there f) h))
    (cases_Bool (has free m))

-- and nothing else does
pub Has-from_kept : (free ns : List ℕ) (n : ℕ) → Has (kept free ns) n → Has ns n × Has free n
Has-from_kept free [] n h = absurd h
Has-from_kept free (m ∷ ns) n h =
    ⊎_elim (λ e. ⊎_elim (λ here. (inl here, subst (λ (k : ℕ). Has free k) here (Has-from_has free m e)))
    (λ there. let rest = Has-from_kept free ns n there in (inr rest.0, rest.1))
    (subst (λ (l : List ℕ). Has l n) (kept_in free m ns e) h))
    (λ e. let rest = Has-from_kept free ns n (subst (λ (l : List ℕ). Has l n) (kept_out free m ns e) h) in
    (inr rest.0, rest.1)) (cases_Bool (has free m))

-- what is kept of more is more
kept_within : (free ns ms : List ℕ) → IsWithin ns ms → IsWithin (kept free ns) (kept free ms)
kept_within free ns ms within n h = let had = Has-from_kept free ns n h in Has-kept free ms n (within n had.0) had.1

module _ (g : Graph) (is : IsGraph g) (o : ℕ) (free : List ℕ) (are : AreFree g o free) where
  -- what stands in open groups of a node
  abbrev pub needs : ℕ → List ℕ
  needs n = opened free (node g n).groups

  -- the free nodes that are finished are a turn list
  abbrev AreTurns : List ℕ → Type 0
  AreTurns finished = IsSchedule g g.goals (kept free finished)

  -- each node to do is wanted once the free ones before it are done
  abbrev AreWantedInTurn : (finished todo : List ℕ) → Type 0
  AreWantedInTurn finished todo = (front back done : List ℕ) (n : ℕ) → todo ≡ front ++ n ∷ back → IsWithin (kept free finished) done → ((k : ℕ) → Has front k → Has free k → Has done k) → Wanted g g.goals done n

  -- what a free node needs is free
  needs_free : (n p : ℕ) → Has free n → Has (prerequisites g n) p → Has free p
  needs_free n p h need = (are p).1 (is.sound.edges n p need, free_needs g o n p ((are n).0 h).1 need)

  -- the node behind what it needs
  module _ (under finished middle : List ℕ) (n : ℕ) (unfinished : ¬ (Has finished n)) (w : Walks needs (n ∷ under) finished (needs n) (Through middle)) (wanted : Wanted g g.goals (kept free finished) n) (turns : AreTurns middle) where
    -- if it is free, its turn may come
    can_start : Has free n → CanStart g g.goals (kept free middle) n
    can_start f = record {
      wanted = Wanted-grows g g.goals g.goals (kept free finished) (kept free middle) (λ k h. h) (kept_within free finished middle (keeps needs w)) n wanted;
      not_done = λ h. ⊎_elim unfinished (λ out. out (inl refl)) (stays_under needs w n (Has-from_kept free middle n h).0);
      prerequisites = HasAll-from_Has (kept free middle) (prerequisites g n) (λ p need. Has-kept free middle p (takes needs w p (opened_whole free (node g n).groups (λ k h. needs_free n k f h) p need)) (needs_free n p f need));
    }

    -- so with it the free ones are a turn list
    turns_with : AreTurns (n ∷ middle)
    turns_with =
        ⊎_elim (λ e. subst (λ (l : List ℕ). IsSchedule g g.goals l) (sym (kept_in free n middle e)) (can_start (Has-from_has free n e), turns)) (λ e. subst (λ (l : List ℕ). IsSchedule g g.goals l) (sym (kept_out free n middle e)) turns) (cases_Bool (has free n))

  -- a walk finishes free nodes in turn
  finishes_in_turn : {under finished todo final : List ℕ} → Walks needs under finished todo (Through final) → AreTurns finished → AreWantedInTurn finished todo → AreTurns final
  finishes_in_turn ends turns wanted = turns
  finishes_in_turn (passes {under} {finished} {todo} {n} was w) turns wanted =
      finishes_in_turn w turns (λ front back done k e within more. wanted (n ∷ front) back done k (ap (λ (l : List ℕ). n ∷ l) e) within (λ j h f. ⊎_elim (λ same. within j (Has-kept free finished j (subst (λ (i : ℕ). Has finished i) same was) f)) (λ there. more j there f) h))
  finishes_in_turn (finishes {under} {finished} {todo} {middle} {n} new unfinished w v) turns wanted =
      let here = wanted [] todo (kept free finished) n refl (λ k h. h) (λ k h. absurd h) in
      let inside : AreWantedInTurn finished (needs n) = λ front back done k e within more. onward (Wanted-grows g g.goals g.goals (kept free finished) done (λ j h. h) within n here) (open_at free done (node g n).groups front back k e more) in
      let middle_turns = finishes_in_turn w turns inside in
      let grown : IsWithin (kept free finished) (kept free (n ∷ middle)) = kept_within free finished (n ∷ middle) (λ k h. inr (keeps needs w k h)) in
      finishes_in_turn v (turns_with under finished middle n unfinished w here middle_turns)
      (λ front back done k e within more. wanted (n ∷ front) back done k (ap (λ (l : List ℕ). n ∷ l) e)
      (λ j h. within j (grown j h)) (λ j h f. ⊎_elim (λ same. within j
      (Has-kept free (n ∷ middle) j (inl same) f)) (λ there. more j there f) h))

  -- heights fall along what stands in open groups
  needs_falls : (n p : ℕ) → Has (needs n) p → cut_height g is.no_cycle p < cut_height g is.no_cycle n
  needs_falls n p h = cut_falls g is.no_cycle n p (opened_within free (node g n).groups p h)

  -- so no walk closes a path
  pub closes_nothing : (path : List ℕ) → ¬ (Walks needs [] [] g.goals (Closes path))
  closes_nothing path w =
      let through = come_through needs (cut_height g is.no_cycle) needs_falls (suc (length g.nodes)) [] [] g.goals (λ n h. cut_low g is.no_cycle n) (λ m n u t. absurd u) in
      through_closes needs _ path (one_end needs (λ n u. absurd u) through w)

  -- a walk from the goals finishes free nodes in turn
  pub walk_turns : (final : List ℕ) → Walks needs [] [] g.goals (Through final) → AreTurns final
  walk_turns final w =
      finishes_in_turn w tt (λ front back done n e within more. goal (subst (λ (l : List ℕ). Has l n) (sym e) (Has-right front (n ∷ back) n (inl refl))))

  module _ (final : List ℕ) (w : Walks needs [] [] g.goals (Through final)) where
    -- what a finished node needs is finished
    closed : (n p : ℕ) → Has final n → Has (needs n) p → Has final p
    closed n p h need = ordered_needs needs final n p (keeps_order needs w tt) h need

    -- what stands in a group behind free ones stands among the opened, and is open once the finished free ones are done
    open_finished : (groups : List (List ℕ)) (n : ℕ) → InOpenGroup free groups n → IsWithin (opened free groups) final → Has (opened free groups) n × InOpenGroup (kept free final) groups n
    open_finished [] n stands within = absurd stands
    open_finished (group ∷ groups) n (inl here) within = (Has-left group (if list_all (has free) group then opened free groups else []) n here, inl here)
    open_finished (group ∷ groups) n (inr later) within =
        let e = all_tested free group later.0 in
        let into : IsWithin (group ++ opened free groups) final = λ k h. within k (subst (λ (l : List ℕ). Has l k) (sym (opens free group groups e)) h) in
        let rest = open_finished groups n later.1 (λ k h. into k (Has-right group (opened free groups) k h)) in (
          subst (λ (l : List ℕ). Has l n) (sym (opens free group groups e))
              (Has-right group (opened free groups) n rest.0),
          inr (
            HasAll-from_Has (kept free final) group (λ k h. Has-kept free final k
                (into k (Has-left group (opened free groups) k h)) (Has-from_HasAll free group later.0 k h)),
            rest.1,
          ),
        )

    -- what would be wanted once all free nodes are done is finished, and wanted once the finished free ones are
    wanted_finished : (n : ℕ) → Wanted g g.goals free n → Has final n × Wanted g g.goals (kept free final) n
    wanted_finished n (goal h) = (takes needs w n h, goal h)
    wanted_finished n (onward {p} wanted stands) =
        let before = wanted_finished p wanted in
        let open_there = open_finished (node g p).groups n stands (λ k h. closed p k before.0 h) in
        (closed p n before.0 open_there.0, onward before.1 open_there.1)

    -- where a node would be wanted and all that it needs is free, its turn may come behind all of them
    turn_at_end : (t : ℕ) → Wanted g g.goals free t → HasAll free (prerequisites g t) → ¬ (Has (kept free final) t) → CanStart g g.goals (kept free final) t
    turn_at_end t wanted all new =
        let there = wanted_finished t wanted in
        let are_free = Has-from_HasAll free (prerequisites g t) all in
        record {
          wanted = there.1;
          not_done = new;
          prerequisites = HasAll-from_Has (kept free final) (prerequisites g t) (λ p need. Has-kept free final p (closed t p there.0 (opened_whole free (node g t).groups are_free p need)) (are_free p need));
        }

-- a list that is reversed and then filtered
kept_reverse : (free ns : List ℕ) → kept free (reverse ns) ≡ reverse (kept free ns)
kept_reverse free [] = refl
kept_reverse free (n ∷ ns) =
    let front = kept free (reverse ns) in
    let split = ap (λ (l : List ℕ). kept free l) (reverse-cons n ns) ∙ filter-append (has free) (reverse ns) (n ∷ []) in
    let rest = kept_reverse free ns in
    ⊎_elim (λ e. split ∙ (ap (λ (l : List ℕ). front ++ l) (kept_in free n [] e)
    ∙ (ap (λ (l : List ℕ). l ++ n ∷ []) rest ∙ sym (ap (λ (l : List ℕ). reverse l) (kept_in free n ns e)
    ∙ reverse-cons n (kept free ns))))) (λ e. split ∙ (ap (λ (l : List ℕ). front ++ l)
    (kept_out free n [] e) ∙ (append-nil front ∙ (rest ∙ sym
    (ap (λ (l : List ℕ). reverse l) (kept_out free n ns e)))))) (cases_Bool (has free n))

-- a list up to a number
pub until_here : (t n : ℕ) (ns : List ℕ) → eqb n t ≡ true → until t (n ∷ ns) ≡ []
until_here t n ns e = cond-true (eqb n t) [] (n ∷ until t ns) e

pub until_there : (t n : ℕ) (ns : List ℕ) → eqb n t ≡ false → until t (n ∷ ns) ≡ n ∷ until t ns
until_there t n ns e = cond-false (eqb n t) [] (n ∷ until t ns) e

-- is the list without the number and what follows it
until_cut : (t : ℕ) (ns : List ℕ) → ((until t ns ≡ ns) × (¬ (Has ns t))) ⊎ ((back : List ℕ) × (ns ≡ until t ns ++ t ∷ back))
until_cut t [] = inl (refl, λ h. h)
until_cut t (n ∷ ns) =
    ⊎_elim (λ e. inr (
      ns,
      ap (λ (k : ℕ). k ∷ ns) (eqb-true n t e)
          ∙ sym (ap (λ (l : List ℕ). l ++ t ∷ ns) (until_here t n ns e)),
    ))
    (λ e. ⊎_elim (λ whole. inl (
      until_there t n ns e ∙ ap (λ (l : List ℕ). n ∷ l) whole.0,
      λ h. ⊎_elim
          (λ here. true≢false (sym (eq-eqb n t here) ∙ e)) whole.1 h,
    ))
    (λ cut. inr (
      cut.0,
      ap (λ (l : List ℕ). n ∷ l) cut.1
          ∙ sym (ap (λ (l : List ℕ). l ++ t ∷ cut.0) (until_there t n ns e)),
    )) (until_cut t ns))
    (cases_Bool (eqb n t))

-- it has no more than the list
until_within : (t : ℕ) (ns : List ℕ) → IsWithin (until t ns) ns
until_within t ns n h = ⊎_elim (λ whole. subst (λ (l : List ℕ). Has l n) whole.0 h) (λ cut. subst (λ (l : List ℕ). Has l n) (sym cut.1) (Has-left (until t ns) (t ∷ cut.0) n h)) (until_cut t ns)

-- the end of a turn list is one
pub turns_end : (g : Graph) (goals front back : List ℕ) → IsSchedule g goals (front ++ back) → IsSchedule g goals back
turns_end g goals [] back turns = turns
turns_end g goals (n ∷ front) back turns = turns_end g goals front back turns.1

module _ (g : Graph) (is : IsGraph g) (o t : ℕ) (free : List ℕ) (are : AreFree g o free) (not_before : ¬ (Before g o t)) where
  module _ (rows : ℕ → List ℕ) (opened_rows : AreOpened g free rows) (order : List ℕ) (walks : Walks rows [] [] g.goals (Through (reverse order))) where
    -- the walk is one over what stands in open groups
    over_needs : Walks (needs g is o free are) [] [] g.goals (Through (reverse order))
    over_needs = subst (λ (f : ℕ → List ℕ). Walks f [] [] g.goals (Through (reverse order))) (fun_ext opened_rows) walks

    -- its free nodes are a turn list
    all_turns : IsSchedule g g.goals (reverse (kept free order))
    all_turns = subst (λ (l : List ℕ). IsSchedule g g.goals l) (kept_reverse free order) (walk_turns g is o free are (reverse order) over_needs)

    -- none of them is o
    lacks_o : ¬ (Has (reverse (until t (kept free order))) o)
    lacks_o h =
        let among = until_within t (kept free order) o (Has-from_reverse (until t (kept free order)) o h) in
        ((are o).0 (Has-from_kept free order o among).1).1.0 refl

    -- those before t lead past o
    pub leads_past : IsScheduleWithout g o t (reverse (until t (kept free order)))
    leads_past =
        let would = would_turn g is o t free are not_before in
        let wanted = would.0 in
        let all = would.1 in
        ⊎_elim (λ whole. let turns = subst (λ (l : List ℕ). IsSchedule g g.goals (reverse l)) (sym whole.0)
        all_turns in let new : ¬ (Has (kept free (reverse order)) t) = λ h. whole.1
        (Has-from_reverse (kept free order) t (subst (λ (l : List ℕ). Has l t) (kept_reverse free order)
        h)) in let last = turn_at_end g is o free are (reverse order) over_needs t wanted all new in
        record {
          turns = turns;
          can_start = subst (λ (l : List ℕ). CanStart g g.goals l t)
              (kept_reverse free order ∙ ap (λ (l : List ℕ). reverse l) (sym whole.0)) last;
          lacks = lacks_o;
        })
        (λ cut. let before = until t (kept free order) in let split : reverse (kept free order)
        ≡ reverse cut.0 ++ (t ∷ reverse before) = ap (λ (l : List ℕ). reverse l) cut.1
        ∙ (reverse-append before (t ∷ cut.0) ∙ (ap (λ (l : List ℕ). l ++ reverse before)
        (reverse-cons t cut.0) ∙ append_assoc (reverse cut.0) (t ∷ []) (reverse before))) in let rest =
        turns_end g g.goals (reverse cut.0) (t ∷ reverse before)
        (subst (λ (l : List ℕ). IsSchedule g g.goals l) split all_turns) in
        record { turns = rest.1; can_start = rest.0; lacks = lacks_o }) (until_cut t (kept free order))

-- a walk over such rows closes no path
pub no_path : (g : Graph) (is : IsGraph g) (o : ℕ) (free : List ℕ) (are : AreFree g o free) (rows : ℕ → List ℕ) → AreOpened g free rows → (path : List ℕ) → ¬ (Walks rows [] [] g.goals (Closes path))
no_path g is o free are rows opened_rows path w =
    closes_nothing g is o free are path (subst (λ (f : ℕ → List ℕ). Walks f [] [] g.goals (Closes path)) (fun_ext opened_rows) w)

-- what stands in open groups are nodes
pub opened_are_nodes : (g : Graph) → IsGraph g → (free : List ℕ) (n p : ℕ) → Has (opened free (node g n).groups) p → p < length g.nodes
opened_are_nodes g is free n p h = is.sound.edges n p (opened_within free (node g n).groups p h)
