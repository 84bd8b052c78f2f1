-- The history that shows a race, step by step.
use Rattle.std.proofs.Common.{◌≡◌, ℕ, ◌+◌, ◌*◌, ◌≤◌, List, [], ◌∷◌, map, reverse, true, sym, subst, arith}
use Rattle.std.specs.Prelude.{Option, None, MatchOption}
use Rattle.mk_world.proofs.RunsAgree.{legal_front}
use Rattle.mk_foot.specs.Setting as recorded
use Rattle.mk_graph.specs.Membership.{Has}
use Rattle.mk_graph.specs.Graph.{Graph, IsGraph, node}
use Rattle.mk_graph.specs.Serial.{serial_order}
use Rattle.mk_build.specs.Setting.{writings}
use Rattle.mk_build.specs.World.{Disk, Idle, Busy, IsFirstDisk, last_stamp}
use Rattle.mk_build.specs.ScheduleMake.{until_begin, RunsAlone}
use Rattle.mk_graph.specs.Schedules.{IsScheduleWithout}
use Rattle.mk_build.specs.Steps.{Step, Make, Begin, make_of, IsLegal, after_all}
use Rattle.mk_build.specs.NodeByNode.{MakesAllBut}
use Rattle.mk_build.specs.BuildLaws.{FirstIsAStart, SchedulesRun}
use Rattle.mk_graph.specs.Laws.{SerialReachesEachOnce}
use Rattle.mk_world.specs.State.{Scene, setting_of, disk_of}
use Rattle.mk_world.specs.Steps.{step_of, IsFirstOf}
use Rattle.mk_find_evidence.specs.Shown.{EndsInRace}
use Rattle.mk_find_evidence.specs.Histories.{History, MayGoOn, GoesOn, MayMake, GoesOnMaking}
use Rattle.mk_find_evidence.proofs.FirstDisks.{one_first}
use Rattle.mk_find_evidence.proofs.Taken.{Taken, nothing_taken, taken_further, may_go_on, may_go_behind, makes_behind}
use Rattle.mk_find_evidence.proofs.Races.{all_are_part, turns_run, not_done_before}

-- what is said of an option without a value
pub none_of : {A : Type 0} (P : Type 0) (Q : A → Type 0) {o : Option A} → o ≡ None → MatchOption o P Q → P
none_of P Q e h = subst (λ o. MatchOption o P Q) e h

module _ (g : Graph) (r : recorded.Setting) (h : History) (first : IsFirstOf g r h.world)
    (none : h.steps ≡ []) (o t : ℕ) (turns : List ℕ) (is : IsGraph g) (run : SchedulesRun)
    (once : SerialReachesEachOnce) (starts : FirstIsAStart) (past : IsScheduleWithout g o t (reverse turns))
    (recipe : (node g t).recipe ≡ true) (room : (disk_of h.world.disk).clock +
    (2 * writings g (setting_of r) (serial_order g) + 1) ≤ last_stamp) where
  -- The make may start,
  pub may_start : MayGoOn h (Make 1 h.world.scene.graph.goals ∷ [])
  may_start =
      let legal : IsLegal g (setting_of r) (Idle (disk_of h.world.disk)) (Make 1 g.goals ∷ []) = ((omega arith, all_are_part g o t (reverse turns) past), tt) in
      subst (λ (k : Scene). MayGoOn h (Make 1 k.graph.goals ∷ [])) (sym first.scene) (may_go_on g r (disk_of h.world.disk) [] (Make 1 g.goals ∷ []) h (nothing_taken g r h first none) legal)

  module _ (started : History) (starting : GoesOn h started (Make 1 h.world.scene.graph.goals ∷ [])) (passed : List ℕ) (empty : (n : ℕ) → ¬ (Has passed n)) where
    has_started : Taken g r (disk_of h.world.disk) (Make 1 g.goals ∷ []) started
    has_started = taken_further g r (disk_of h.world.disk) [] (Make 1 g.goals ∷ []) h started (nothing_taken g r h first none) (subst (λ (k : Scene). GoesOn h started (Make 1 k.graph.goals ∷ [])) first.scene starting)

    turned : (steps : List Step) → MakesAllBut g (setting_of r) (Has passed)
        (Busy (make_of 1 g.goals) (disk_of h.world.disk)) turns steps
        → IsLegal g (setting_of r) (Idle (disk_of h.world.disk)) (until_begin g.goals steps t)
        × RunsAlone (reverse turns) t (after_all g (setting_of r) (Idle (disk_of h.world.disk))
        (until_begin g.goals steps t))
    turned steps makes = turns_run g (setting_of r) (disk_of h.world.disk) o t turns is run once (starts g (setting_of r) (disk_of h.world.disk) first.first) past recipe room passed empty steps makes

    -- the turns may be made,
    pub may_make : MayMake started passed turns
    may_make = λ steps makes.
        let legal = turned steps (makes_behind g r (disk_of h.world.disk) (Make 1 g.goals ∷ []) started passed turns steps has_started makes) in
        may_go_on g r (disk_of h.world.disk) (Make 1 g.goals ∷ []) steps started has_started (legal_front g (setting_of r) (Busy (make_of 1 g.goals) (disk_of h.world.disk)) steps (Begin t ∷ []) legal.0.1)

    module _ (made : History) (making : GoesOnMaking started made passed turns) where
      has_made : Taken g r (disk_of h.world.disk) (Make 1 g.goals ∷ making.steps) made
      has_made = taken_further g r (disk_of h.world.disk) (Make 1 g.goals ∷ []) making.steps started made has_started making.goes_on

      all_legal : IsLegal g (setting_of r) (Idle (disk_of h.world.disk)) (until_begin g.goals making.steps t) × RunsAlone (reverse turns) t (after_all g (setting_of r) (Idle (disk_of h.world.disk)) (until_begin g.goals making.steps t))
      all_legal = turned making.steps (makes_behind g r (disk_of h.world.disk) (Make 1 g.goals ∷ []) started passed turns making.steps has_started making.makes)

      -- the recipe may begin,
      pub may_begin : MayGoOn made (Begin t ∷ [])
      may_begin = may_go_behind g r (disk_of h.world.disk) (Make 1 g.goals ∷ making.steps) (Begin t ∷ []) made has_made all_legal.0

      -- and what was done then shows the race.
      pub ends_in_race : (end : History) → GoesOn made end (Begin t ∷ []) → (d : Disk) → IsFirstDisk g (setting_of r) d → EndsInRace g (setting_of r) d o t (map (step_of g) end.steps)
      ends_in_race end beginning d other =
          let all = taken_further g r (disk_of h.world.disk) (Make 1 g.goals ∷ making.steps) (Begin t ∷ []) made end has_made beginning in
          let here : EndsInRace g (setting_of r) (disk_of h.world.disk) o t (map (step_of g) end.steps) = record {
            before = Make 1 g.goals ∷ making.steps;
            last = all.are;
            legal = subst (λ (l : List Step). IsLegal g (setting_of r) (Idle (disk_of h.world.disk)) l) (sym all.are) all_legal.0;
            not_done = not_done_before g (setting_of r) (disk_of h.world.disk) o t turns is run once (starts g (setting_of r) (disk_of h.world.disk) first.first) past recipe room (Make 1 g.goals ∷ making.steps) all_legal.1;
          } in
          subst (λ (k : Disk). EndsInRace g (setting_of r) k o t (map (step_of g) end.steps)) (one_first g (setting_of r) (disk_of h.world.disk) d first.first other) here
