-- Present footprints suffice: a make from a coherent disk is right.
use Rattle.std.proofs.Common.{◌≡◌, ℕ, List, [], ◌∷◌, ◌++◌, true, Some, None, filter, reverse, inl, inr, refl, sym, ◌∙◌, ap, subst}
use Rattle.std.proofs.lemmas.Bool.{cond-true}
use mathlib.Core.List.{append-nil}
use Rattle.mk_graph.specs.Membership.{Has, has}
use Rattle.mk_graph.specs.Graph.{Graph, node, goal, onward, IsGraph}
use Rattle.mk_graph.specs.Serial.{visits, order_from}
use Rattle.mk_graph.specs.Schedules.{HasAll, Wanted, goal as wanted_goal, onward as wanted_onward, IsSchedule, IsPart}
use Rattle.mk_graph.proofs.Turning.{HasAll-has, turn_has_prerequisites}
use Rattle.mk_graph.proofs.SerialTurns.{serial_turns, order_is, order_back, goal_is_chosen}
use Rattle.mk_build.specs.Setting.{FileName, Setting, is_given, writes}
use Rattle.mk_build.specs.World.{Disk, Making, World, Idle, Busy, content}
use Rattle.mk_build.specs.Steps.{Step, make_of}
use Rattle.mk_build.specs.BuildLaws.{AreInside}
use Rattle.mk_build.specs.Clean.{Contents, given_contents, ReachedFrom}
use Rattle.mk_build.specs.Right.{AreSound, HaveNoRace, HaveWays}
use Rattle.mk_build.proofs.Sound.{writer_has_recipe}
use Rattle.mk_build.proofs.Passing.{is_there}
use Rattle.mk_build.proofs.Coherence.{runs_before, coherent_fits}
use Rattle.mk_build.proofs.Histories.{make_holds}
use Rattle.mk_build.proofs.CleanEnd.{open_is_needed}
use Rattle.mk_build.proofs.StaleHistory.{recipe_among}
use Rattle.mk_build_behaviours.specs.Behaviours.{Behaviours}
use Rattle.mk_build_behaviours.specs.CleanBy.{make_all_by, IsRightBy, ReadWithin, ArePresent}
use Rattle.mk_build_behaviours.specs.StepsBy.{IsLegalBy, after_all_by, AreUndisturbed}
use Rattle.mk_build_behaviours.specs.CoherentBy.{IsCoherentBy}
use Rattle.mk_build_behaviours.proofs.CleanContents.{IsClean, within_split, clean_after}
use Rattle.mk_build_behaviours.proofs.CleanEnd.{build_agrees}
use Rattle.mk_build_behaviours.proofs.Known.{with_known, known, coherent_with_known, known_is_true}
use Rattle.mk_build_behaviours.proofs.Following.{Follows, FollowsIn, done_is_clean, follow_all, all_undisturbed}

-- where there are goals of a part, there are goals
whole_part : (g : Graph) (goals : List ℕ) → IsPart goals g.goals → IsPart g.goals g.goals
whole_part g goals part = record { not_empty = λ none. part.not_empty (empty goals (subst (λ (l : List ℕ). HasAll l goals) none part.within)); within = all_in g.goals g.goals (λ n h. h) } where
  empty : (ns : List ℕ) → HasAll [] ns → ns ≡ []
  empty [] h = refl
  empty (n ∷ ns) h = absurd h.0

  all_in : (ns ms : List ℕ) → ((n : ℕ) → Has ms n → Has ns n) → HasAll ns ms
  all_in ns [] h = tt
  all_in ns (m ∷ ms) h = (h m (inl refl), all_in ns ms (λ n there. h n (inr there)))

module _ (g : Graph) (graph : IsGraph g) where
  -- the serial order of all goals, the last node first
  abbrev pub all_nodes : List ℕ
  all_nodes = visits g [] (filter (has g.goals) g.goals)

  pub all_turns : IsSchedule g g.goals all_nodes
  all_turns = (serial_turns g graph.no_cycle g.goals).0

  -- it has all recipes
  pub all_recipes : (s : Setting) → AreSound g s → (t : ℕ) → (node g t).recipe ≡ true → Has all_nodes t
  all_recipes s sound t recipe = subst (λ (l : List ℕ). Has l t) (append-nil (reverse (order_from g g.goals)) ∙ order_is g graph.no_cycle g.goals) (recipe_among g s graph sound t recipe)

module _ (g : Graph) (graph : IsGraph g) (goals : List ℕ) (part : IsPart goals g.goals) (done : List ℕ) (turns : IsSchedule g goals done) (all : HasAll done goals) where
  -- the serial order of the goals, the last node first
  abbrev pub order : List ℕ
  order = visits g [] (filter (has goals) g.goals)

  -- what is wanted on the way is done
  wanted_is_done : {ns : List ℕ} {n : ℕ} → Wanted g goals ns n → Has done n
  wanted_is_done (wanted_goal {n = n} h) = HasAll-has done goals n all h
  wanted_is_done {ns = ns} (wanted_onward {p = p} {n = n} w h) = turn_has_prerequisites g goals done p n turns (wanted_is_done w) (open_is_needed (node g p).groups ns n h)

  -- each node of a turn list is
  turned_is_done : (ns : List ℕ) → IsSchedule g goals ns → (n : ℕ) → Has ns n → Has done n
  turned_is_done [] t n h = absurd h
  turned_is_done (k ∷ ns) t n (inl here) = subst (λ (j : ℕ). Has done j) here (wanted_is_done t.0.wanted)
  turned_is_done (k ∷ ns) t n (inr there) = turned_is_done ns t.1 n there

  -- what the goals reach stands in their serial order
  pub reached_in_order : {n : ℕ} → ReachedFrom g goals n → Has order n
  reached_in_order (goal {n = n} h) = HasAll-has order (filter (has goals) g.goals) n (serial_turns g graph.no_cycle goals).1 (goal_is_chosen g graph.no_cycle goals g.goals n (HasAll-has g.goals goals n part.within h) h)
  reached_in_order (onward {n = n} {p = p} r need) = turn_has_prerequisites g goals order n p (serial_turns g graph.no_cycle goals).0 (reached_in_order r) need

  -- so it is done
  pub reached_is_done : {n : ℕ} → ReachedFrom g goals n → Has done n
  reached_is_done {n = n} reached = turned_is_done order (serial_turns g graph.no_cycle goals).0 n (reached_in_order reached)

module _ (g : Graph) (s : Setting) (b : Behaviours) (graph : IsGraph g) (sound : AreSound g s) (no_race : HaveNoRace g s) (ways : HaveWays g s) where
  -- a make that follows today's world is right
  pub right_of : (given clean : Contents) (is : IsClean g s b given clean (all_nodes g graph)) (m : Making) (d : Disk) → Follows g s b graph sound no_race ways given clean (all_nodes g graph) is (all_recipes g graph s sound) m d → IsRightBy g s b (Busy m d)
  right_of given clean is m d follows may =
      let order = follows.whole.0.make.order in
      let base_is : (f : FileName) → is_given s f ≡ true → given_contents s d f ≡ clean f = λ f e. cond-true (is_given s f) (content d f) None e ∙ follows.given_clean f e in
      let build = build_agrees g s b graph sound no_race given clean (all_nodes g graph) is (all_recipes g graph s sound) m.goals order.part (given_contents s d) base_is (visits g [] (filter (has m.goals) g.goals)) (serial_turns g graph.no_cycle m.goals).0 in
      record {
        clean = build.0;
        has_value = ap (λ (l : List ℕ). make_all_by g s b (Some (given_contents s d)) l) (order_back g graph.no_cycle m.goals) ∙ build.1;
        holds = λ t f reached wrote.
            let recipe = writer_has_recipe g s t f wrote in
            let done = reached_is_done g graph m.goals order.part m.done order.turns may.0 reached in
            let up = follows.whole.1 t done recipe in
            let there = is_there d (writes g s t) up.ran.whole.written up.ran.whole.holds f wrote in
            let same : content d f ≡ clean f = done_is_clean g s b graph sound no_race ways given clean (all_nodes g graph) is (all_recipes g graph s sound) m d follows t done recipe f wrote in
            (there.0, build.2 f (inr (t, reached_in_order g graph m.goals order.part m.done order.turns may.0 reached, wrote)) ∙ (sym same ∙ there.1), there.1);
      }

  right_in : (given clean : Contents) (is : IsClean g s b given clean (all_nodes g graph)) (w : World) → FollowsIn g s b graph sound no_race ways given clean (all_nodes g graph) is (all_recipes g graph s sound) w → IsRightBy g s b w
  right_in given clean is (Idle d) follows = absurd follows
  right_in given clean is (Busy m d) follows = right_of given clean is m d follows

  module _ (d : Disk) (coherent : IsCoherentBy g s b d) (present : ArePresent g s b d) (jobs : ℕ) (goals : List ℕ) (part : IsPart goals g.goals) where
    -- the clean build of all goals
    within : ReadWithin g s b (given_contents s d) (reverse (all_nodes g graph) ++ [])
    within = subst (λ (l : List ℕ). ReadWithin g s b (given_contents s d) l) (order_back g graph.no_cycle g.goals ∙ sym (append-nil (reverse (all_nodes g graph)))) present

    pub build : (end : Contents) × (make_all_by g s b (Some (given_contents s d)) (reverse (all_nodes g graph)) ≡ Some end) × ReadWithin g s b (given_contents s d) (reverse (all_nodes g graph)) × ReadWithin g s b end []
    build = within_split g s b (given_contents s d) (reverse (all_nodes g graph)) [] within

    pub is_clean : IsClean g s b (given_contents s d) build.0 (all_nodes g graph)
    is_clean = clean_after g s b graph sound no_race (whole_part g goals part) (given_contents s d) (all_nodes g graph) (all_turns g graph) build.2 build.0 build.1

    -- the make begins as one of today's world
    pub begins : Follows g s b graph sound no_race ways (given_contents s d) build.0 (all_nodes g graph) is_clean (all_recipes g graph s sound) (make_of jobs goals) d
    begins =
        let today = coherent_with_known g s b d coherent in
        record {
          epoch = (with_known g s b d coherent).clock;
          runs = runs_before g s (with_known g s b d coherent) today;
          start = d.clock;
          seen = (make_of jobs goals).seen;
          known = known g s b d coherent;
          whole = (make_holds g s graph sound (with_known g s b d coherent).clock (runs_before g s (with_known g s b d coherent) today) (with_known g s b d coherent) jobs goals (coherent_fits g s (with_known g s b d coherent) today) part, λ t done. absurd done);
          true_of = known_is_true g s b d coherent build.0 (λ t recipe. is_clean.within t (all_recipes g graph s sound t recipe) recipe);
          given_clean = λ f e. sym (is_clean.as_given f e ∙ cond-true (is_given s f) (content d f) None e);
          saw = λ t f c runs. absurd runs;
        }

    -- so it is right
    pub present_is_right : (steps : List Step) → AreInside steps → IsLegalBy g s b (Busy (make_of jobs goals) d) steps → IsRightBy g s b (after_all_by g s (Busy (make_of jobs goals) d) steps)
    present_is_right steps inside legal =
        right_in (given_contents s d) build.0 is_clean (after_all_by g s (Busy (make_of jobs goals) d) steps)
        (follow_all g s b graph sound no_race ways (given_contents s d) build.0 (all_nodes g graph) is_clean (all_recipes g graph s sound) (Busy (make_of jobs goals) d) steps begins inside legal)

    -- and disturbs no recipe
    pub present_is_undisturbed : (steps : List Step) → AreInside steps → IsLegalBy g s b (Busy (make_of jobs goals) d) steps → AreUndisturbed g s b (Busy (make_of jobs goals) d) steps
    present_is_undisturbed steps inside legal =
        all_undisturbed g s b graph sound no_race ways (given_contents s d) build.0 (all_nodes g graph) is_clean (all_recipes g graph s sound) (Busy (make_of jobs goals) d) steps begins inside legal
