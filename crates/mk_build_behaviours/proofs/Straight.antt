-- Traces of today's world are traces by behaviours, and those by straight behaviours are of today's world.
use Rattle.std.proofs.Common.{◌≡◌, ℕ, List, [], ◌∷◌, Bool, true, false, Option, Some, map, length, ⊎_elim, refl, sym, ◌∙◌, ap, subst}
use Rattle.std.specs.Prelude.{is_some}
use Rattle.std.proofs.lemmas.Bool.{cases_Bool, cond-true, cond-false}
use Rattle.mk_lemmas.proofs.Results.{IfSome-from}
use Rattle.mk_graph.specs.Membership.{Has}
use Rattle.mk_graph.specs.Graph.{Graph, node}
use Rattle.mk_graph.specs.Serial.{order_from}
use Rattle.mk_build.specs.Setting.{FileName, Setting, reads, writes}
use Rattle.mk_build.specs.World.{Outcome, Disk, Making, World, Idle, Busy, disk_of, outcome}
use Rattle.mk_build.specs.Clean.{Contents, given_contents}
use Rattle.mk_build.specs.Steps.{Step, Edit, Make, Begin, Look, Put, End, Break, Pass, Stop, EndMake, Allowed, MayEnd, IsLeftToRun, after, noted, seen_by, put_by, IsLegal, after_all, disk_after}
use Rattle.mk_build.proofs.InOrder.{Has-without}
use Rattle.mk_build.proofs.Outcomes.{noted_unknown, cases_outcome, noted_new, noted_old}
use Rattle.mk_build.proofs.TurnLists.{put_all_total}
use Rattle.mk_build_behaviours.specs.Behaviours.{Behaviour, Behaviours, behaviour, path, result}
use Rattle.mk_build_behaviours.specs.CleanBy.{run_by, make_by, ReadWithin, ArePresent}
use Rattle.mk_build_behaviours.specs.StepsBy.{saw_in, MayEndBy, AllowedBy, after_by, IsLegalBy, after_all_by}
use Rattle.mk_build_behaviours.specs.Straight.{straight, AreStraight, AgreeWith, AreOutcomesOf, LooksWithin, AllLookWithin, with_outcomes}
use Rattle.mk_build_behaviours.proofs.Known.{outcome_cases}

-- a straight behaviour reads its files
path_straight : (files : List FileName) (write : List (Option ℕ) → List ℕ) (at : Contents) → path (straight files write) at ≡ files
path_straight [] write at = refl
path_straight (f ∷ files) write at = ap (λ (l : List FileName). f ∷ l) (path_straight files (λ seen. write (at f ∷ seen)) at)

-- and writes what the function gives
result_straight : (files : List FileName) (write : List (Option ℕ) → List ℕ) (at : Contents) → result (straight files write) at ≡ write (map at files)
result_straight [] write at = refl
result_straight (f ∷ files) write at = result_straight files (λ seen. write (at f ∷ seen)) at

-- an outcome that agrees may be noted
agree_noted : (write : ℕ → List (Option ℕ) → List ℕ) (d : Disk) (o : Outcome) → AgreeWith write d.known → o.written ≡ write o.recipe o.seen → AgreeWith write (noted d o).known
agree_noted write d o agree own t seen w e =
    ⊎_elim (λ none. ⊎_elim
    (λ found. sym found.2 ∙ (own ∙ (ap (λ (l : List (Option ℕ)). write o.recipe l) found.1 ∙ ap (λ (k : ℕ). write k seen) found.0)))
    (λ old. agree t seen w old)
    (outcome_cases o d.known t seen w (subst (λ (l : List Outcome). outcome l t seen ≡ Some w) (noted_unknown d o none) e)))
    (λ some. agree t seen w (subst (λ (l : List Outcome). outcome l t seen ≡ Some w) (cond-true (is_some (outcome d.known o.recipe o.seen)) d.known (o ∷ d.known) (ap (λ (x : Option (List ℕ)). is_some x) some.1)) e))
    (cases_outcome d o o.recipe o.seen)

module _ (g : Graph) (s : Setting) (b : Behaviours) where
  -- what runs has a recipe
  abbrev pub HaveRecipes : World → Type 0
  HaveRecipes (Idle d) = Unit {0}
  HaveRecipes (Busy m d) = (t : ℕ) → Has m.running t → (node g t).recipe ≡ true

  pub recipes_after : (w : World) (step : Step) → HaveRecipes w → AllowedBy g s b w step → HaveRecipes (after_by g s w step)
  recipes_after (Idle d) (Edit f c) have may = tt
  recipes_after (Idle d) (Make jobs goals) have may = λ t h. absurd h
  recipes_after (Idle d) (Begin t) have may = absurd may
  recipes_after (Idle d) (Look t f) have may = absurd may
  recipes_after (Idle d) (Put t f c) have may = absurd may
  recipes_after (Idle d) (End t) have may = absurd may
  recipes_after (Idle d) (Break t removed) have may = absurd may
  recipes_after (Idle d) (Pass t) have may = absurd may
  recipes_after (Idle d) Stop have may = absurd may
  recipes_after (Idle d) EndMake have may = absurd may
  recipes_after (Busy m d) (Edit f c) have may = absurd may
  recipes_after (Busy m d) (Make jobs goals) have may = absurd may
  recipes_after (Busy m d) (Begin t) have may = λ u h. ⊎_elim (λ here. subst (λ (k : ℕ). (node g k).recipe ≡ true) here may.1) (λ there. have u there) h
  recipes_after (Busy m d) (Look t f) have may = have
  recipes_after (Busy m d) (Put t f c) have may = have
  recipes_after (Busy m d) (End t) have may = λ u h. have u (Has-without t u m.running h).0
  recipes_after (Busy m d) (Break t removed) have may = λ u h. have u (Has-without t u m.running h).0
  recipes_after (Busy m d) (Pass t) have may = λ u h. have u (Has-without t u m.running h).0
  recipes_after (Busy m d) Stop have may = tt
  recipes_after (Busy m d) EndMake have may = tt

  -- what is known stays known over a step
  stays_known : (w : World) (step : Step) (t : ℕ) (seen : List (Option ℕ)) (written : List ℕ) → outcome (disk_of w).known t seen ≡ Some written → outcome (disk_of (after g s w step)).known t seen ≡ Some written
  stays_known (Idle d) (Edit f c) t seen written e = e
  stays_known (Idle d) (Make jobs goals) t seen written e = e
  stays_known (Idle d) (Begin x) t seen written e = e
  stays_known (Idle d) (Look x f) t seen written e = e
  stays_known (Idle d) (Put x f c) t seen written e = e
  stays_known (Idle d) (End x) t seen written e = e
  stays_known (Idle d) (Break x removed) t seen written e = e
  stays_known (Idle d) (Pass x) t seen written e = e
  stays_known (Idle d) Stop t seen written e = e
  stays_known (Idle d) EndMake t seen written e = e
  stays_known (Busy m d) (Edit f c) t seen written e = e
  stays_known (Busy m d) (Make jobs goals) t seen written e = e
  stays_known (Busy m d) (Begin x) t seen written e = e
  stays_known (Busy m d) (Look x f) t seen written e = e
  stays_known (Busy m d) (Put x f c) t seen written e = e
  stays_known (Busy m d) (End x) t seen written e = noted_old d (record { recipe = x; seen = seen_by g s m x; written = put_by g s m x }) t seen written e
  stays_known (Busy m d) (Break x true) t seen written e = e
  stays_known (Busy m d) (Break x false) t seen written e = e
  stays_known (Busy m d) (Pass x) t seen written e = e
  stays_known (Busy m d) Stop t seen written e = e
  stays_known (Busy m d) EndMake t seen written e = e

  all_stay_known : (w : World) (steps : List Step) (t : ℕ) (seen : List (Option ℕ)) (written : List ℕ) → outcome (disk_of w).known t seen ≡ Some written → outcome (disk_of (after_all g s w steps)).known t seen ≡ Some written
  all_stay_known w [] t seen written e = e
  all_stay_known w (first ∷ steps) t seen written e = all_stay_known (after g s w first) steps t seen written (stays_known w first t seen written e)

  -- a step of today's world is one by behaviours, if what is known in the end is theirs
  end_is_by : (m : Making) (d : Disk) (t : ℕ) (steps : List Step) → (node g t).recipe ≡ true → MayEnd g s m d t → AreOutcomesOf g s b (disk_of (after_all g s (after g s (Busy m d) (End t)) steps)).known → MayEndBy g s b m t
  end_is_by m d t steps recipe may agree =
      let now = noted_new d (record { recipe = t; seen = seen_by g s m t; written = put_by g s m t }) may.agrees in
      let theirs = agree t (saw_in m t) (put_by g s m t) recipe (all_stay_known (after g s (Busy m d) (End t)) steps t (seen_by g s m t) (put_by g s m t) now) in
      record {
        runs = may.runs;
        seen = λ f on. may.seen f (theirs.0 f on);
        put = may.put;
        agrees = theirs.1;
      }

  is_by : (w : World) (known : List Outcome) (step : Step) (steps : List Step) → HaveRecipes w → Allowed g s (with_outcomes w known) step → AreOutcomesOf g s b (disk_of (after_all g s (after g s (with_outcomes w known) step) steps)).known → AllowedBy g s b w step × ((more : List Outcome) × (after g s (with_outcomes w known) step ≡ with_outcomes (after_by g s w step) more))
  is_by (Idle d) known (Edit f c) steps have may agree = (may, (known, refl))
  is_by (Idle d) known (Make jobs goals) steps have may agree = (may, (known, refl))
  is_by (Idle d) known (Begin t) steps have may agree = absurd may
  is_by (Idle d) known (Look t f) steps have may agree = absurd may
  is_by (Idle d) known (Put t f c) steps have may agree = absurd may
  is_by (Idle d) known (End t) steps have may agree = absurd may
  is_by (Idle d) known (Break t removed) steps have may agree = absurd may
  is_by (Idle d) known (Pass t) steps have may agree = absurd may
  is_by (Idle d) known Stop steps have may agree = absurd may
  is_by (Idle d) known EndMake steps have may agree = absurd may
  is_by (Busy m d) known (Edit f c) steps have may agree = absurd may
  is_by (Busy m d) known (Make jobs goals) steps have may agree = absurd may
  is_by (Busy m d) known (Begin t) steps have may agree = (may, (known, refl))
  is_by (Busy m d) known (Look t f) steps have may agree = (may.0, (known, refl))
  is_by (Busy m d) known (Put t f c) steps have may agree = (may, (known, refl))
  is_by (Busy m d) known (End t) steps have may agree = (end_is_by m (record d { known = known }) t steps (have t may.runs) may agree, ((noted (record d { known = known }) (record { recipe = t; seen = seen_by g s m t; written = put_by g s m t })).known, refl))
  is_by (Busy m d) known (Break t true) steps have may agree = (may, (known, refl))
  is_by (Busy m d) known (Break t false) steps have may agree = (may, (known, refl))
  is_by (Busy m d) known (Pass t) steps have may agree = (may, (known, refl))
  is_by (Busy m d) known Stop steps have may agree = (may, (known, refl))
  is_by (Busy m d) known EndMake steps have may agree = (may, (known, refl))

  all_by : (w : World) (known : List Outcome) (steps : List Step) → HaveRecipes w → IsLegal g s (with_outcomes w known) steps → AreOutcomesOf g s b (disk_of (after_all g s (with_outcomes w known) steps)).known → IsLegalBy g s b w steps
  all_by w known [] have legal agree = tt
  all_by w known (first ∷ steps) have legal agree =
      let one = is_by w known first steps have legal.0 agree in
      (one.0, all_by (after_by g s w first) one.1.0 steps (recipes_after w first have one.0) (subst (λ (k : World). IsLegal g s k steps) one.1.1 legal.1) (subst (λ (k : World). AreOutcomesOf g s b (disk_of (after_all g s k steps)).known) one.1.1 agree))

  pub todays_is_by : (d : Disk) (steps : List Step) → IsLegal g s (Idle d) steps → AreOutcomesOf g s b (disk_after g s d steps).known → IsLegalBy g s b (Idle d) steps
  todays_is_by d steps legal agree = all_by (Idle d) d.known steps tt legal agree

module _ (g : Graph) (s : Setting) (b : Behaviours) (write : ℕ → List (Option ℕ) → List ℕ) (are : AreStraight g s b write) where
  -- the path of a recipe
  path_is : (t : ℕ) → (node g t).recipe ≡ true → (at : Contents) → path (behaviour g b t) at ≡ reads g s t
  path_is t recipe at = ap (λ (k : Behaviour). path k at) (are t recipe) ∙ path_straight (reads g s t) (write t) at

  -- its result
  result_is : (t : ℕ) → (node g t).recipe ≡ true → (at : Contents) → result (behaviour g b t) at ≡ write t (map at (reads g s t))
  result_is t recipe at = ap (λ (k : Behaviour). result k at) (are t recipe) ∙ result_straight (reads g s t) (write t) at

  -- outcomes that the function gives are those of the behaviours
  pub are_theirs : (known : List Outcome) → AgreeWith write known → AreOutcomesOf g s b known
  are_theirs known agree t at w recipe e = (λ f on. subst (λ (l : List FileName). Has l f) (path_is t recipe at) on, agree t (map at (reads g s t)) w e ∙ sym (result_is t recipe at))

  -- a step by behaviours is one of today's world, which leaves the same but for the known outcomes
  abbrev IsTodays : World → List Outcome → Step → Type 0
  IsTodays w known step = Allowed g s (with_outcomes w known) step × ((more : List Outcome) × AgreeWith write more × (after g s (with_outcomes w known) step ≡ with_outcomes (after_by g s w step) more))

  end_is_todays : (m : Making) (d : Disk) (known : List Outcome) (t : ℕ) → (node g t).recipe ≡ true → AgreeWith write known → MayEndBy g s b m t → IsTodays (Busy m d) known (End t)
  end_is_todays m d known t recipe agree may =
      let wrote : put_by g s m t ≡ write t (seen_by g s m t) = may.agrees ∙ result_is t recipe (saw_in m t) in (
        record {
          runs = may.runs;
          seen = λ f read. may.seen f (subst (λ (l : List FileName). Has l f) (sym (path_is t recipe (saw_in m t))) read);
          put = may.put;
          agrees = IfSome-from (outcome known t (seen_by g s m t)) (λ w. w ≡ put_by g s m t) (λ w e. agree t (seen_by g s m t) w e ∙ sym wrote);
        },
        (
          (noted (record d { known = known }) (record { recipe = t; seen = seen_by g s m t; written = put_by g s m t })).known,
          agree_noted write (record d { known = known }) (record { recipe = t; seen = seen_by g s m t; written = put_by g s m t }) agree wrote,
          refl,
        ),
      )

  break_is_todays : (m : Making) (d : Disk) (known : List Outcome) (t : ℕ) (removed : Bool) → AgreeWith write known → Has m.running t × IsLeftToRun g s d t removed → IsTodays (Busy m d) known (Break t removed)
  break_is_todays m d known t true agree may = (may, (known, agree, refl))
  break_is_todays m d known t false agree may = (may, (known, agree, refl))

  is_todays : (w : World) (known : List Outcome) (step : Step) → HaveRecipes g s b w → AgreeWith write known → LooksWithin g s step → AllowedBy g s b w step → IsTodays w known step
  is_todays (Idle d) known (Edit f c) have agree within may = (may, (known, agree, refl))
  is_todays (Idle d) known (Make jobs goals) have agree within may = (may, (known, agree, refl))
  is_todays (Idle d) known (Begin t) have agree within may = absurd may
  is_todays (Idle d) known (Look t f) have agree within may = absurd may
  is_todays (Idle d) known (Put t f c) have agree within may = absurd may
  is_todays (Idle d) known (End t) have agree within may = absurd may
  is_todays (Idle d) known (Break t removed) have agree within may = absurd may
  is_todays (Idle d) known (Pass t) have agree within may = absurd may
  is_todays (Idle d) known Stop have agree within may = absurd may
  is_todays (Idle d) known EndMake have agree within may = absurd may
  is_todays (Busy m d) known (Edit f c) have agree within may = absurd may
  is_todays (Busy m d) known (Make jobs goals) have agree within may = absurd may
  is_todays (Busy m d) known (Begin t) have agree within may = (may, (known, agree, refl))
  is_todays (Busy m d) known (Look t f) have agree within may = ((may, within), (known, agree, refl))
  is_todays (Busy m d) known (Put t f c) have agree within may = (may, (known, agree, refl))
  is_todays (Busy m d) known (End t) have agree within may = end_is_todays m d known t (have t may.runs) agree may
  is_todays (Busy m d) known (Break t removed) have agree within may = break_is_todays m d known t removed agree may
  is_todays (Busy m d) known (Pass t) have agree within may = (may, (known, agree, refl))
  is_todays (Busy m d) known Stop have agree within may = (may, (known, agree, refl))
  is_todays (Busy m d) known EndMake have agree within may = (may, (known, agree, refl))

  -- so is a trace
  all_todays : (w : World) (known : List Outcome) (steps : List Step) → HaveRecipes g s b w → AgreeWith write known → AllLookWithin g s steps → IsLegalBy g s b w steps → IsLegal g s (with_outcomes w known) steps × ((more : List Outcome) × (after_all g s (with_outcomes w known) steps ≡ with_outcomes (after_all_by g s w steps) more))
  all_todays w known [] have agree within legal = (tt, (known, refl))
  all_todays w known (first ∷ steps) have agree within legal =
      let one = is_todays w known first have agree within.0 legal.0 in
      let rest = all_todays (after_by g s w first) one.1.0 steps (recipes_after g s b w first have legal.0) one.1.1 within.1 legal.1 in
      ((one.0, subst (λ (k : World). IsLegal g s k steps) (sym one.1.2) rest.0), (rest.1.0, ap (λ (k : World). after_all g s k steps) one.1.2 ∙ rest.1.1))

  pub straight_is_todays : (d : Disk) → AgreeWith write d.known → (steps : List Step) → AllLookWithin g s steps → IsLegalBy g s b (Idle d) steps → IsLegal g s (Idle d) steps × ((known : List Outcome) × (after_all g s (Idle d) steps ≡ with_outcomes (after_all_by g s (Idle d) steps) known))
  straight_is_todays d agree steps within legal = all_todays (Idle d) d.known steps tt agree within legal

  -- footprints are present
  module _ (many : (t : ℕ) (seen : List (Option ℕ)) → length (write t seen) ≡ length (writes g s t)) where
    made : (at : Contents) (n : ℕ) → (next : Contents) × (make_by g s b at n ≡ Some next)
    made at n =
        ⊎_elim (λ recipe. let put = put_all_total at (writes g s n) (result (behaviour g b n) at) (ap (λ (l : List ℕ). length l) (result_is n recipe at) ∙ many n (map at (reads g s n))) in (put.0, cond-true (node g n).recipe (run_by g s b at n) (Some at) recipe ∙ put.1))
        (λ none. (at, cond-false (node g n).recipe (run_by g s b at n) (Some at) none))
        (cases_Bool (node g n).recipe)

    read_within : (at : Contents) (ns : List ℕ) → ReadWithin g s b at ns
    read_within at [] = tt
    read_within at (n ∷ ns) =
        let next = made at n in
        (λ recipe f on. subst (λ (l : List FileName). Has l f) (path_is n recipe at) on, (next.0, next.1, read_within next.0 ns))

    pub straight_is_present : (d : Disk) → ArePresent g s b d
    straight_is_present d = read_within (given_contents s d) (order_from g g.goals)
