-- A read without a way is shown to be stale: what doesn't reach the file need not run when the file has changed.
use Rattle.std.proofs.Common.{append-nil, ◌≡◌, ℕ, zero, suc, ◌+◌, ◌*◌, ◌<◌, ◌≤◌, List, [], ◌∷◌, ◌++◌, length, reverse, true, false, Option, Some, None, filter, ◌⊎◌, inl, inr, ⊎_elim, refl, sym, ◌∙◌, ap, subst, arith}
use Rattle.std.specs.Option.{option_map}
use Rattle.std.proofs.lemmas.Bool.{cases_Bool, cases_eq, true≢false}
use Rattle.mk_graph.proofs.Parts.{HasAll-from_Has}
use Rattle.mk_graph.proofs.Nodes.{recipe_is_node}
use Rattle.mk_graph.specs.Membership.{Has, has}
use Rattle.mk_graph.specs.Graph.{Graph, node, prerequisites, Reached, goal, onward, IsGraph}
use Rattle.mk_build.specs.Setting.{FileName, Setting, is_editable, name, reads, writes, writings}
use Rattle.mk_build.specs.World.{File, Outcome, Disk, World, Idle, Busy, IsStartDisk, HasStamp, written, last_stamp, outcome, disk_of}
use Rattle.mk_graph.specs.Schedules.{HasAll, CanStart, IsSchedule, IsPart, Before}
use Rattle.mk_build.specs.Steps.{Step, EndMake, MustRun, make_of, IsLegal, after_all}
use Rattle.mk_graph.specs.Serial.{order_from}
use Rattle.mk_build.specs.Ways.{Carries, Way, written as written_way, source, always, CanChange}
use Rattle.mk_build.specs.Right.{AreSound}
use Rattle.mk_build.specs.SerialMake.{one_make}
use Rattle.mk_build.specs.NodeByNode.{MakesAllBut}
use Rattle.mk_build.specs.Stale.{Chain, here, further, IsEditOf, ShowsStale, IsLaterThanAll}
use Rattle.mk_build.proofs.ChainWays.{way_over}
use Rattle.mk_build.proofs.Changes.{cases_name, changed_there}
use Rattle.mk_graph.proofs.Turning.{HasAll-has, turn_has_prerequisites}
use Rattle.mk_build.proofs.Sound.{writer_has_recipe, reader_has_recipe, editable_is_not_written, carried_is_before}
use Rattle.mk_graph.proofs.SerialTurns.{serial_turns, order_is, goal_is_chosen}
use Rattle.mk_build.proofs.Writing.{one_stamp, stamp_here, stamp_is, stamp_there}
use Rattle.mk_build.proofs.Histories.{stamped_file}
use Rattle.mk_build.proofs.CleanEnd.{cases_among}
use Rattle.mk_build.proofs.WholeRuns.{legal_append, after_append}
use Rattle.mk_build.proofs.SerialHistory.{turn_on}
use Rattle.mk_build.proofs.MakesBut.{same_stamp, AreByName, Ascends, Keeps, Left, Goes, makes_legal}

-- where a goal is reached there is one
some_goal : (g : Graph) {n : ℕ} → Reached g n → ¬ (g.goals ≡ [])
some_goal g (goal {n = n} h) e = subst (λ (l : List ℕ). Has l n) e h
some_goal g (onward r need) e = some_goal g r e

-- a recipe that writes a file, among the first nodes
writer_below : (g : Graph) (s : Setting) (h : FileName) (bound : ℕ) → ((o : ℕ) × Has (writes g s o) h) ⊎ ((o : ℕ) → o < bound → ¬ (Has (writes g s o) h))
writer_below g s h zero = inr (λ o less wrote. absurd (omega arith))
writer_below g s h (suc bound) =
    ⊎_elim (λ some. inl some) (λ none. ⊎_elim (λ wrote. inl (bound, wrote))
    (λ not. inr (λ o less wrote. ⊎_elim (λ same. not (subst (λ (k : ℕ). Has (writes g s k) h) same wrote))
    (λ differ. none o (omega arith) wrote) (cases_eq o bound))) (cases_among (writes g s bound) h))
    (writer_below g s h bound)

-- a file has a writer or none
cases_writer : (g : Graph) (s : Setting) (h : FileName) → ((o : ℕ) × Has (writes g s o) h) ⊎ ((o : ℕ) → ¬ (Has (writes g s o) h))
cases_writer g s h = ⊎_elim (λ some. inl some) (λ none. inr (λ o wrote. none o (recipe_is_node g o (writer_has_recipe g s o h wrote)) wrote)) (writer_below g s h (length g.nodes))

module _ (g : Graph) (s : Setting) (graph : IsGraph g) (sound : AreSound g s) where
  -- all goals are a part of the goals, where something is reached
  pub all_goals : (n : ℕ) → n < length g.nodes → IsPart g.goals g.goals
  all_goals n lt = record { not_empty = some_goal g (graph.sound.reached n lt); within = HasAll-from_Has g.goals g.goals (λ k h. h) }

  -- the nodes of a make of all, the last one first
  abbrev pub all_nodes : List ℕ
  all_nodes = reverse (order_from g g.goals) ++ []

  -- they are a turn list that holds the goals
  pub all_turns : IsSchedule g g.goals all_nodes × HasAll all_nodes (filter (has g.goals) g.goals)
  all_turns = subst (λ (l : List ℕ). IsSchedule g g.goals l × HasAll l (filter (has g.goals) g.goals)) (sym (append-nil (reverse (order_from g g.goals)) ∙ order_is g graph.no_cycle g.goals)) (serial_turns g graph.no_cycle g.goals)

  -- they hold the goals
  all_hold_goals : HasAll all_nodes g.goals
  all_hold_goals = HasAll-from_Has all_nodes g.goals (λ n h. HasAll-has all_nodes (filter (has g.goals) g.goals) n all_turns.1 (goal_is_chosen g graph.no_cycle g.goals g.goals n h h))

  -- and all that is reached
  reached_among : {n : ℕ} → Reached g n → Has all_nodes n
  reached_among (goal {n = n} h) = HasAll-has all_nodes g.goals n all_hold_goals h
  reached_among (onward {n = n} {p = p} r need) = turn_has_prerequisites g g.goals all_nodes n p all_turns.0 (reached_among r) need

  -- so all recipes
  pub recipe_among : (n : ℕ) → (node g n).recipe ≡ true → Has all_nodes n
  recipe_among n recipe = reached_among (graph.sound.reached n (recipe_is_node g n recipe))

  -- what is before a recipe wrote before it, in a make in which all ran
  ascends_at : (ns : List ℕ) (d : Disk) → IsSchedule g g.goals ns → Ascends g s (λ n. ⊥) ns d
      → IsPart g.goals g.goals → (o t : ℕ) (h k : FileName) (stamp old : ℕ) → Before g o t → (node g t).recipe
      ≡ true → Has ns t → Has (writes g s t) h → Has (writes g s o) k → HasStamp d h stamp → HasStamp d k old
      → old < stamp
  ascends_at [] d turns up part o t h k stamp old before recipe among wrote k_wrote has k_has = absurd among
  ascends_at (n ∷ ns) d turns up part o t h k stamp old before recipe (inl same) wrote k_wrote has k_has =
      up.0 o h k stamp old (before recipe g.goals ns part turns.1 (subst (λ (x : ℕ). CanStart g g.goals ns x) same turns.0)) (λ x. x) (λ x. x) (subst (λ (x : ℕ). Has (writes g s x) h) (sym same) wrote) k_wrote has k_has
  ascends_at (n ∷ ns) d turns up part o t h k stamp old before recipe (inr there) wrote k_wrote has k_has =
      ascends_at ns d turns.1 up.1 part o t h k stamp old before recipe there wrote k_wrote has k_has

  module _ (passed : ℕ → Type 0) (before : Disk) (part : IsPart g.goals g.goals)
      (stamped : (h : FileName) (stamp : ℕ) → HasStamp before h stamp → stamp ≤ before.clock)
      (by_name : AreByName g s before) (room : before.clock + writings g s (order_from g g.goals) ≤
      last_stamp) (need_not : (n : ℕ) (now : Disk) → passed n → (node g n).recipe ≡ true
      → Keeps g s passed before now → ¬ (MustRun g now n)) (steps : List Step)
      (makes : MakesAllBut g s passed (Busy (make_of 1 g.goals) before) (order_from g g.goals) steps) where
    -- the make at its begin
    at_begin : Goes g s passed [] before before.clock (Busy (make_of 1 g.goals) before)
    at_begin = record { seen = λ t f. None; put = λ t f. None; disk = before; is = refl; left = record { stamped = stamped; grown = omega arith; low = omega arith; by_name = by_name; keeps = λ h all. refl; fresh = λ x h done. absurd done; ascends = tt } }

    -- the make up to its end
    up_to_end : IsLegal g s (Busy (make_of 1 g.goals) before) steps × Goes g s passed all_nodes before (before.clock + writings g s (order_from g g.goals)) (after_all g s (Busy (make_of 1 g.goals) before) steps)
    up_to_end = makes_legal g s sound passed before need_not makes [] before.clock (turn_on g g.goals (order_from g g.goals) [] all_turns.0) room at_begin

    -- What the whole make leaves.
    pub make_leaves : IsLegal g s (Idle before) (one_make g.goals steps) × (now : Disk) × (after_all g s (Idle before) (one_make g.goals steps) ≡ Idle now) × Left g s passed all_nodes before (before.clock + writings g s (order_from g g.goals)) now
    make_leaves =
        let begin = Busy (make_of 1 g.goals) before in
        let goes = up_to_end.1 in
        let ends : IsLegal g s (after_all g s begin steps) (EndMake ∷ [])
        × (after_all g s (after_all g s begin steps) (EndMake ∷ []) ≡ Idle goes.disk) = subst
        (λ (w : World). IsLegal g s w (EndMake ∷ []) × (after_all g s w (EndMake ∷ []) ≡ Idle goes.disk))
        (sym goes.is) (((all_hold_goals, refl), tt), refl) in
        (((omega arith, part), legal_append g s begin steps (EndMake ∷ []) up_to_end.0 ends.0), goes.disk, after_append g s begin steps (EndMake ∷ []) ∙ ends.1, goes.left)

  -- The two makes and the edit between them.
  module _ (t : ℕ) (f : FileName) (read : Has (reads g s t) f) (can : CanChange s f) (no_way : ¬ (Way g s f t)) where
    -- who writes the file isn't reached
    writer_not_reached : (o : ℕ) → Has (writes g s o) f → ¬ (Chain g s t o)
    writer_not_reached o wrote chain = not_here o chain wrote where
      not_here : (n : ℕ) → Chain g s t n → ¬ (Has (writes g s n) f)
      not_here n here own = sound.not_own t f read own
      not_here n (further {o = m} k back carries) own = no_way (way_over g s t f back (written_way m carries own))

    -- what the first make left, what the second began with, and what it has left so far
    module _ (before first start now : Disk) (limit : ℕ) (begin_stamped : (h : FileName) (stamp : ℕ)
        → HasStamp before h stamp → stamp ≤ before.clock) (made : Left g s (λ n. ⊥) all_nodes before limit
        first) (stays : (h : FileName) → (¬ (f ≡ h)) ⊎ (is_editable s f ≡ false) → start.files h
        ≡ first.files h) (keeps : Keeps g s (Chain g s t) start now) (part : IsPart g.goals g.goals) where
      -- a file that isn't editable, or isn't this one
      spared : (h : FileName) → ((o : ℕ) × Has (writes g s o) h) → (¬ (f ≡ h)) ⊎ (is_editable s f ≡ false)
      spared h some = ⊎_elim (λ e. inl (λ same. editable_is_not_written g s graph sound some.0 f e (subst (λ (k : FileName). Has (writes g s some.0) k) (sym same) some.1))) (λ e. inr e) (cases_Bool (is_editable s f))

      -- the files of what is reached are as the first make left them
      pub reached_stays : (n : ℕ) (h : FileName) → Chain g s t n → Has (writes g s n) h → now.files h ≡ first.files h
      reached_stays n h chain wrote = keeps h (λ x own. subst (λ (k : ℕ). Chain g s t k) (sound.one_writer n x h wrote own) chain) ∙ stays h (spared h (n, wrote))

      -- it need not run
      pub reached_need_not : (n : ℕ) → Chain g s t n → (node g n).recipe ≡ true → ¬ (MustRun g now n)
      reached_need_not n chain recipe (inl made_always) = no_way (way_over g s t f chain (always made_always))
      reached_need_not n chain recipe (inr why) = on_disk why where
        not_phony : (node g n).phony ≡ false
        not_phony = ⊎_elim (λ e. absurd (no_way (way_over g s t f chain (always (inl e))))) (λ e. e) (cases_Bool (node g n).phony)

        own : Has (writes g s n) (name g n)
        own = sound.target n recipe not_phony

        target : (stamp : ℕ) × HasStamp first (name g n) stamp × (before.clock < stamp)
        target = made.fresh n (name g n) (recipe_among n recipe) (λ x. x) own

        later_one : (q stamp late : ℕ) → Has (prerequisites g n) q → HasStamp first (name g n) stamp → HasStamp now (name g q) late → stamp < late → ⊥
        later_one q stamp late need has has_late less =
            ⊎_elim (λ some. let carries : Carries g s n some.0 = (q, need, some.1) in let at_first =
            same_stamp now first (name g q) late (sym (reached_stays some.0 (name g q)
            (further n chain carries) some.1)) has_late in let up = ascends_at all_nodes first all_turns.0
            made.ascends part some.0 n (name g n) (name g q) stamp late
            (carried_is_before g s graph sound n some.0 carries) recipe (recipe_among n recipe) own some.1
            has at_first in omega arith) (λ none. ⊎_elim (λ same_name. ⊎_elim
            (λ editable. no_way (way_over g s t f chain (source editable (q, need, sym same_name))))
            (λ fixed. given_one q stamp late none (inr fixed) has has_late less)
            (cases_Bool (is_editable s f))) (λ differ. given_one q stamp late none (inl differ) has
            has_late less) (cases_name f (name g q))) (cases_writer g s (name g q)) where
              given_one : (q stamp late : ℕ) → ((o : ℕ) → ¬ (Has (writes g s o) (name g q))) → (¬ (f ≡ name g q)) ⊎ (is_editable s f ≡ false) → HasStamp first (name g n) stamp → HasStamp now (name g q) late → stamp < late → ⊥
              given_one q stamp late none spare has has_late less =
                  let at_first = same_stamp now first (name g q) late (sym (keeps (name g q) (λ x wrote. absurd (none x wrote)) ∙ stays (name g q) spare)) has_late in
                  let at_begin = same_stamp first before (name g q) late (sym (made.keeps (name g q) (λ x wrote. none x wrote))) at_first in
                  let came = begin_stamped (name g q) late at_begin in
                  let fresh = target.2 in
                  let same = one_stamp first (name g n) stamp target.0 has target.1 in
                  omega arith

        on_disk : (now.files (name g n) ≡ None) ⊎ ((q stamp late : ℕ) × Has (prerequisites g n) q × HasStamp now (name g n) stamp × HasStamp now (name g q) late × (stamp < late)) → ⊥
        on_disk (inl absent) = let gone : None ≡ Some target.0 = sym (ap (λ (x : Option File). option_map (λ (y : File). y.stamp) x) (sym (reached_stays n (name g n) chain own) ∙ absent)) ∙ target.1 in cc
        on_disk (inr (q, stamp, late, need, has, has_late, less)) = later_one q stamp late need (same_stamp now first (name g n) stamp (sym (reached_stays n (name g n) chain own)) has) has_late less

    -- where the second make has ended, the file is later than all that the recipe wrote
    module _ (before first start now : Disk) (limit bound : ℕ)
        (made : Left g s (λ n. ⊥) all_nodes before limit first) (start_clock : first.clock ≤ start.clock)
        (stays : (h : FileName) → (¬ (f ≡ h)) ⊎ (is_editable s f ≡ false) → start.files h ≡ first.files h)
        (edited : is_editable s f ≡ true → (late : ℕ) × HasStamp start f late × (first.clock < late))
        (again : Left g s (Chain g s t) all_nodes start bound now) where
      -- the file is late
      late : (stamp : ℕ) × HasStamp now f stamp × (first.clock < stamp)
      late =
          ⊎_elim (λ e. let new = edited e in (
            new.0,
            same_stamp start now f new.0
                (again.keeps f (λ x wrote. absurd (editable_is_not_written g s graph sound x f e wrote))) new.1,
            new.2,
          )) (λ e. let wrote : (o : ℕ) × Has (writes g s o) f = ⊎_elim
          (λ given. ⊎_elim (λ editable. absurd (true≢false (sym editable ∙ e)))
          (λ not_given. absurd (true≢false (sym given ∙ not_given))) can) (λ some. some)
          (sound.known t f read) in let new = again.fresh wrote.0 f
          (recipe_among wrote.0 (writer_has_recipe g s wrote.0 f wrote.1))
          (writer_not_reached wrote.0 wrote.1) wrote.1 in (new.0, new.1, let less = new.2 in omega arith))
          (cases_Bool (is_editable s f))

      -- the recipe's files are as they were
      pub later_than_all : IsLaterThanAll g s now f t
      later_than_all = (
        late.0,
        late.1,
        λ h wrote. let old = made.fresh t h
            (recipe_among t (writer_has_recipe g s t h wrote)) (λ x. x) wrote in let came = made.stamped h old.0
            old.1 in let less = late.2 in (
              old.0,
              same_stamp first now h old.0
                  (again.keeps h (λ x own. subst (λ (k : ℕ). Chain g s t k) (sound.one_writer t x h wrote own) here)
                  ∙ stays h (spared_own h wrote)) old.1,
              omega arith,
            ),
      ) where
        spared_own : (h : FileName) → Has (writes g s t) h → (¬ (f ≡ h)) ⊎ (is_editable s f ≡ false)
        spared_own h wrote = inl (λ same. sound.not_own t f read (subst (λ (k : FileName). Has (writes g s t) k) (sym same) wrote))

  -- the disk after an edit that there is or isn't
  record Edited (f : FileName) (first : Disk) (edit : List Step) : Type 0 where
    start : Disk
    legal : IsLegal g s (Idle first) edit
    leaves : after_all g s (Idle first) edit ≡ Idle start
    grown : first.clock ≤ start.clock
    low : start.clock ≤ first.clock + 1
    stamped : (h : FileName) (stamp : ℕ) → HasStamp start h stamp → stamp ≤ start.clock
    by_name : AreByName g s start
    stays : (h : FileName) → (¬ (f ≡ h)) ⊎ (is_editable s f ≡ false) → start.files h ≡ first.files h
    edited : is_editable s f ≡ true → (late : ℕ) × HasStamp start f late × (first.clock < late)

  -- an edit of an editable file, and none of another one
  edit_leaves : (f : FileName) (first : Disk) (edit : List Step) → ((h : FileName) (stamp : ℕ) → HasStamp first h stamp → stamp ≤ first.clock) → AreByName g s first → first.clock < last_stamp → IsEditOf s f first edit → Edited f first edit
  edit_leaves f first edit stamped by_name room (inl (editable, is)) = subst (λ (l : List Step). Edited f first l) (sym is) (record {
    start = written first f (first.clock + 1);
    legal = ((editable, room), tt);
    leaves = refl;
    grown = omega arith;
    low = omega arith;
    stamped = λ h stamp at. ⊎_elim (λ same. let new = stamp_is first f (first.clock + 1) h stamp same at in omega arith) (λ differ. let old = stamped h stamp (stamp_there first f (first.clock + 1) h stamp differ at) in omega arith) (cases_name f h);
    by_name = by_name;
    stays = λ h spare. ⊎_elim (λ differ. changed_there first.files f h (Some (record { content = first.clock + 1; stamp = first.clock + 1 })) differ) (λ not. absurd (true≢false (sym editable ∙ not))) spare;
    edited = λ e. (first.clock + 1, stamp_here first f (first.clock + 1) f refl, omega arith);
  })
  edit_leaves f first edit stamped by_name room (inr (not, is)) = subst (λ (l : List Step). Edited f first l) (sym is) (record {
    start = first;
    legal = tt;
    leaves = refl;
    grown = omega arith;
    low = omega arith;
    stamped = stamped;
    by_name = by_name;
    stays = λ h spare. refl;
    edited = λ e. absurd (true≢false (sym e ∙ not));
  })

  module _ (t : ℕ) (f : FileName) (read : Has (reads g s t) f) (can : CanChange s f)
      (no_way : ¬ (Way g s f t)) (d : Disk) (first edit second : List Step) (is_start : IsStartDisk s d)
      (room : d.clock + 2 * writings g s (order_from g g.goals) + 1 ≤ last_stamp)
      (shows : ShowsStale g s t f d first edit second) where
    -- the recipe is a node, so there are goals
    part : IsPart g.goals g.goals
    part = all_goals t (recipe_is_node g t (reader_has_recipe g s t f read))

    -- stamps at the start have come
    start_stamped : (h : FileName) (stamp : ℕ) → HasStamp d h stamp → stamp ≤ d.clock
    start_stamped h stamp at = let file = stamped_file d h stamp at in let came = is_start.stamped h file.0 file.1 in let same = file.2 in omega arith

    -- nothing is known at the start
    start_by_name : AreByName g s d
    start_by_name x saw w e = let none : None ≡ Some w = sym (ap (λ (l : List Outcome). outcome l x saw) is_start.nothing_known) ∙ e in absurd (cc)

    -- the first make
    first_make : IsLegal g s (Idle d) (one_make g.goals first) × (now : Disk) × (after_all g s (Idle d) (one_make g.goals first) ≡ Idle now) × Left g s (λ n. ⊥) all_nodes d (d.clock + writings g s (order_from g g.goals)) now
    first_make = make_leaves (λ n. ⊥) d part start_stamped start_by_name (omega arith) (λ n now none. absurd none) first shows.makes_all

    -- what it leaves
    abbrev one : Disk
    one = first_make.1

    -- the edit
    the_edit : Edited f one edit
    the_edit = let left = first_make.3 in let low = left.low in edit_leaves f one edit left.stamped left.by_name (omega arith) (subst (λ (w : World). IsEditOf s f (disk_of w) edit) first_make.2 shows.edits)

    -- both together
    both_leave : after_all g s (Idle d) (one_make g.goals first ++ edit) ≡ Idle the_edit.start
    both_leave = after_append g s (Idle d) (one_make g.goals first) edit ∙ (ap (λ (w : World). after_all g s w edit) first_make.2 ∙ the_edit.leaves)

    -- the second make
    second_make : IsLegal g s (Idle the_edit.start) (one_make g.goals second) × (now : Disk) × (after_all g s (Idle the_edit.start) (one_make g.goals second) ≡ Idle now) × Left g s (Chain g s t) all_nodes the_edit.start (the_edit.start.clock + writings g s (order_from g g.goals)) now
    second_make =
        let low = first_make.3.low in
        let more = the_edit.low in
        make_leaves (Chain g s t) the_edit.start part the_edit.stamped the_edit.by_name (omega arith)
        (λ n now chain recipe keeps. reached_need_not t f read can no_way d one the_edit.start now
        (d.clock + writings g s (order_from g g.goals)) start_stamped first_make.3 the_edit.stays keeps
        part n chain recipe) second (subst (λ (w : World). MakesAllBut g s (Chain g s t)
        (Busy (make_of 1 g.goals) (disk_of w)) (order_from g g.goals) second) both_leave
        shows.makes_again)

    -- the history is legal, and shows the read to be stale
    pub shown : IsLegal g s (Idle d) (one_make g.goals first ++ (edit ++ one_make g.goals second)) × IsLaterThanAll g s (disk_of (after_all g s (Idle d) (one_make g.goals first ++ (edit ++ one_make g.goals second)))) f t
    shown =
        let behind : after_all g s (Idle d) (one_make g.goals first ++ (edit ++ one_make g.goals second))
        ≡ Idle second_make.1 = after_append g s (Idle d) (one_make g.goals first)
        (edit ++ one_make g.goals second) ∙ (ap (λ (w : World). after_all g s w
        (edit ++ one_make g.goals second)) first_make.2 ∙ (after_append g s (Idle one) edit
        (one_make g.goals second) ∙ (ap (λ (w : World). after_all g s w (one_make g.goals second))
        the_edit.leaves ∙ second_make.2))) in
        let rest : IsLegal g s (Idle one) (edit ++ one_make g.goals second) = legal_append g s (Idle one) edit (one_make g.goals second) the_edit.legal (subst (λ (w : World). IsLegal g s w (one_make g.goals second)) (sym the_edit.leaves) second_make.0) in (
          legal_append g s (Idle d) (one_make g.goals first) (edit ++ one_make g.goals second) first_make.0
              (subst (λ (w : World). IsLegal g s w (edit ++ one_make g.goals second)) (sym first_make.2) rest),
          subst (λ (w : World). IsLaterThanAll g s (disk_of w) f t) (sym behind)
              (later_than_all t f read can no_way d one the_edit.start second_make.1
              (d.clock + writings g s (order_from g g.goals)) (the_edit.start.clock + writings g s
              (order_from g g.goals)) first_make.3 the_edit.grown the_edit.stays the_edit.edited second_make.3),
        )
