-- Where all that some goals reach is up to date, the clean build of these goals has a value, which the files hold.
use Rattle.std.proofs.Common.{◌≡◌, ℕ, List, [], ◌∷◌, ◌++◌, true, false, Option, Some, None, map, fold, filter, reverse, ◌⊎◌, inl, inr, ⊎_elim, refl, sym, ◌∙◌, ap, subst}
use Rattle.std.specs.List.{flat_map}
use Rattle.std.specs.Option.{option_and_then}
use Rattle.std.proofs.lemmas.Bool.{cases_Bool, cond-true, cond-false, true≢false}
use mathlib.Core.List.{reverse-cons}
use Rattle.mk_lemmas.proofs.Members.{Has-left, Has-right}
use Rattle.mk_graph.specs.Membership.{Has, has}
use Rattle.mk_graph.specs.Graph.{Graph, node, goal, onward, IsGraph}
use Rattle.mk_graph.specs.Serial.{visits}
use Rattle.mk_build.specs.Setting.{FileName, Setting, is_given, reads, writes}
use Rattle.mk_build.specs.World.{Disk, content, changed, outcome}
use Rattle.mk_graph.specs.Schedules.{HasAll, InOpenGroup, Wanted, goal as wanted_goal, onward as wanted_onward, CanStart, IsSchedule, IsPart}
use Rattle.mk_build.specs.Clean.{Contents, given_contents, put_all, run_clean, make_clean, make_all_clean, ReachedFrom, IsBuilt, IsFresh}
use Rattle.mk_build.specs.Right.{AreSound, HaveNoRace}
use Rattle.mk_build.proofs.Changes.{cases_name, changed_here, changed_there}
use Rattle.mk_graph.proofs.Turning.{HasAll-has, turn_has_prerequisites}
use Rattle.mk_graph.proofs.SerialTurns.{serial_turns, order_back, goal_is_chosen}
use Rattle.mk_build.proofs.Sound.{writer_has_recipe, reader_has_recipe, writer_is_before}
use Rattle.mk_build.proofs.Writing.{map_same}
use Rattle.mk_build.proofs.Passing.{is_there}

-- a fold over one more element
pub fold_push : {A B : Type 0} (f : B → A → B) (b : B) (xs : List A) (x : A) → fold f b (xs ++ x ∷ []) ≡ f (fold f b xs) x
fold_push f b [] x = refl
fold_push f b (y ∷ xs) x = fold_push f (f b y) xs x

-- a name stands in a list or doesn't
pub cases_among : (files : List FileName) (f : FileName) → Has files f ⊎ (¬ (Has files f))
cases_among [] f = inr (λ h. h)
cases_among (k ∷ files) f = ⊎_elim (λ here. inl (inl here)) (λ differ. ⊎_elim (λ there. inl (inr there)) (λ out. inr (λ h. ⊎_elim differ out h)) (cases_among files f)) (cases_name k f)

-- what stands in an open group is a direct prerequisite
pub open_is_needed : (groups : List (List ℕ)) (done : List ℕ) (n : ℕ) → InOpenGroup done groups n → Has (flat_map (λ group. group) groups) n
open_is_needed [] done n h = absurd h
open_is_needed (group ∷ groups) done n (inl here) = Has-left group (flat_map (λ group. group) groups) n here
open_is_needed (group ∷ groups) done n (inr there) = Has-right group (flat_map (λ group. group) groups) n (open_is_needed groups done n there.1)

-- what files hold can be put into them, and then agrees with the disk where it did or where it was put
pub put_all_agrees : (d : Disk) (files : List FileName) (cs : List ℕ) (at : Contents) → map (content d) files ≡ map (λ c. Some c) cs → (end : Contents) × (put_all at files cs ≡ Some end) × ((f : FileName) → (at f ≡ content d f) ⊎ Has files f → end f ≡ content d f)
put_all_agrees d [] [] at e = (at, refl, λ f why. ⊎_elim (λ same. same) (λ h. absurd h) why)
put_all_agrees d [] (c ∷ cs) at e = absurd (cc)
put_all_agrees d (k ∷ files) [] at e = absurd (cc)
put_all_agrees d (k ∷ files) (c ∷ cs) at e =
    let at_k : content d k ≡ Some c = cc in
    let rest : map (content d) files ≡ map (λ c. Some c) cs = cc in
    let more = put_all_agrees d files cs (changed at k (Some c)) rest in (
      more.0,
      more.1,
      λ f why. more.2 f (⊎_elim (λ same. inl
          (changed_here at k f (Some c) same ∙ (sym at_k ∙ ap (content d) same)))
          (λ differ. ⊎_elim (λ before. inl (changed_there at k f (Some c) differ ∙ before))
          (λ among. ⊎_elim (λ same. absurd (differ same)) (λ later. inr later) among) why) (cases_name k f)),
    )

module _ (g : Graph) (s : Setting) (graph : IsGraph g) (sound : AreSound g s) (no_race : HaveNoRace g s) (d : Disk) (goals : List ℕ) (part : IsPart goals g.goals) where
  -- the contents agree with the disk in given files and in what these nodes write
  Agrees : Contents → List ℕ → Type 0
  Agrees at ns = (f : FileName) → (is_given s f ≡ true) ⊎ ((o : ℕ) × Has ns o × Has (writes g s o) f) → at f ≡ content d f

  -- the clean build of these nodes, in turn, agrees with the disk
  abbrev BuildAgrees : List ℕ → Type 0
  BuildAgrees ns = (at : Contents) × (make_all_clean g s d.known (Some (given_contents s d)) (reverse ns) ≡ Some at) × Agrees at ns

  module _ (n : ℕ) (ns : List ℕ) (may : CanStart g goals ns n) (turns : IsSchedule g goals ns) (before : BuildAgrees ns) where
    -- the build after one more node
    one_more : make_all_clean g s d.known (Some (given_contents s d)) (reverse (n ∷ ns)) ≡ make_clean g s d.known before.0 n
    one_more =
        let push = fold_push (λ at k. option_and_then (λ (old : Contents). make_clean g s d.known old k) at) (Some (given_contents s d)) (reverse ns) n in
        ap (λ (l : List ℕ). make_all_clean g s d.known (Some (given_contents s d)) l) (reverse-cons n ns) ∙ (push ∙ ap (λ (o : Option Contents). option_and_then (λ (old : Contents). make_clean g s d.known old n) o) before.1)

    -- a node without a recipe
    agrees_without : (node g n).recipe ≡ false → BuildAgrees (n ∷ ns)
    unfolding Agrees
    agrees_without e = (
      before.0,
      one_more ∙ cond-false (node g n).recipe (run_clean g s d.known before.0 n) (Some before.0)
          e,
      λ f why. ⊎_elim (λ given. before.2 f (inl given))
          (λ wrote. ⊎_elim (λ here. absurd (true≢false (sym
          (writer_has_recipe g s n f (subst (λ (k : ℕ). Has (writes g s k) f) (sym here) wrote.2)) ∙ e)))
          (λ there. before.2 f (inr (wrote.0, there, wrote.2))) wrote.1) why,
    )

    -- its recipe sees what the disk holds
    sees_disk : map before.0 (reads g s n) ≡ map (content d) (reads g s n)
    unfolding Agrees
    sees_disk = map_same before.0 (content d) (reads g s n) (λ f read. before.2 f (⊎_elim (λ given. inl given) (λ wrote. inr (wrote.0, writer_is_before g s graph sound no_race n wrote.0 f read wrote.1 (reader n f read) goals ns part turns may, wrote.1)) (sound.known n f read))) where
      reader : (t : ℕ) (f : FileName) → Has (reads g s t) f → (node g t).recipe ≡ true
      reader t f read = reader_has_recipe g s t f read

    -- a node with one that is fresh
    agrees_with : (node g n).recipe ≡ true → IsFresh g s d n → BuildAgrees (n ∷ ns)
    unfolding Agrees
    agrees_with e fresh =
        let put = put_all_agrees d (writes g s n) fresh.written before.0 fresh.holds in
        let ran : run_clean g s d.known before.0 n ≡ Some put.0 = ap (λ (l : List (Option ℕ)). option_and_then (put_all before.0 (writes g s n)) (outcome d.known n l)) sees_disk ∙ (ap (λ (o : Option (List ℕ)). option_and_then (put_all before.0 (writes g s n)) o) fresh.known ∙ put.1) in (
          put.0,
          one_more ∙ (cond-true (node g n).recipe (run_clean g s d.known before.0 n) (Some before.0) e
              ∙ ran),
          λ f why. put.2 f (⊎_elim (λ among. inr among)
              (λ out. inl (before.2 f (⊎_elim (λ given. inl given)
              (λ wrote. ⊎_elim (λ here. absurd (out (subst (λ (k : ℕ). Has (writes g s k) f) (sym here)
              wrote.2))) (λ there. inr (wrote.0, there, wrote.2)) wrote.1) why)))
              (cases_among (writes g s n) f)),
        )

  -- the clean build of a turn list whose recipes are fresh
  build_agrees : (ns : List ℕ) → IsSchedule g goals ns → ((n : ℕ) → Has ns n → (node g n).recipe ≡ true → IsFresh g s d n) → BuildAgrees ns
  unfolding Agrees
  build_agrees [] turns fresh = (given_contents s d, refl, λ f why. ⊎_elim (λ given. cond-true (is_given s f) (content d f) None given) (λ wrote. absurd wrote.1) why)
  build_agrees (n ∷ ns) turns fresh =
      let before = build_agrees ns turns.1 (λ k h. fresh k (inr h)) in
      ⊎_elim (λ e. agrees_with n ns turns.0 turns.1 before e (fresh n (inl refl) e)) (λ e. agrees_without n ns turns.0 turns.1 before e) (cases_Bool (node g n).recipe)

  module _ (done : List ℕ) (turns : IsSchedule g goals done) (all : HasAll done goals) (fresh : (n : ℕ) → Has done n → (node g n).recipe ≡ true → IsFresh g s d n) where
    -- the serial order of the goals, the last node first
    abbrev order : List ℕ
    order = visits g [] (filter (has goals) g.goals)

    -- what is wanted on the way is done
    wanted_is_done : {ns : List ℕ} {n : ℕ} → Wanted g goals ns n → Has done n
    wanted_is_done (wanted_goal {n = n} h) = HasAll-has done goals n all h
    wanted_is_done {ns = ns} (wanted_onward {p = p} {n = n} w h) = turn_has_prerequisites g goals done p n turns (wanted_is_done w) (open_is_needed (node g p).groups ns n h)

    -- each node of a turn list is
    turned_is_done : (ns : List ℕ) → IsSchedule g goals ns → (n : ℕ) → Has ns n → Has done n
    turned_is_done [] t n h = absurd h
    turned_is_done (k ∷ ns) t n (inl here) = subst (λ (j : ℕ). Has done j) here (wanted_is_done t.0.wanted)
    turned_is_done (k ∷ ns) t n (inr there) = turned_is_done ns t.1 n there

    -- what the goals reach stands in their serial order
    reached_in_order : {n : ℕ} → ReachedFrom g goals n → Has order n
    reached_in_order (goal {n = n} h) = HasAll-has order (filter (has goals) g.goals) n (serial_turns g graph.no_cycle goals).1 (goal_is_chosen g graph.no_cycle goals g.goals n (HasAll-has g.goals goals n part.within h) h)
    reached_in_order (onward {n = n} {p = p} r need) = turn_has_prerequisites g goals order n p (serial_turns g graph.no_cycle goals).0 (reached_in_order r) need

    -- where all that the goals reach is done and fresh, they are built
    pub is_built : IsBuilt g s d goals
    unfolding Agrees
    is_built =
        let serial = (serial_turns g graph.no_cycle goals).0 in
        let fresh_in_order : (n : ℕ) → Has order n → (node g n).recipe ≡ true → IsFresh g s d n = λ n h e. fresh n (turned_is_done order serial n h) e in
        let build = build_agrees order serial fresh_in_order in
        record {
          clean = build.0;
          has_value = ap (λ (l : List ℕ). make_all_clean g s d.known (Some (given_contents s d)) l) (order_back g graph.no_cycle goals) ∙ build.1;
          holds = λ t f reached wrote. let in_order = reached_in_order reached in let is = fresh_in_order t in_order (writer_has_recipe g s t f wrote) in let there = is_there d (writes g s t) is.written is.holds f wrote in (there.0, build.2 f (inr (t, in_order, wrote)) ∙ there.1, there.1);
        }
