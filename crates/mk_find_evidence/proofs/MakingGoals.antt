-- How histories go on by makes of all goals and by edits.
use Rattle.std.proofs.Common.{◌≡◌, ℕ, ◌+◌, ◌*◌, ◌<◌, ◌≤◌, List, [], ◌∷◌, ◌++◌, length, map, Option, Some, None, ◌↔◌, refl, sym, ◌∙◌, ap, subst, append_assoc}
use Rattle.std.proofs.lemmas.List.{map-append}
use Rattle.mk_world.proofs.RunsAgree.{legal_front}
use Rattle.mk_graph.proofs.Nodes.{reached_is_node}
use Rattle.mk_graph.specs.Membership.{Has}
use Rattle.mk_graph.specs.Graph.{Graph, IsGraph}
use Rattle.mk_graph.specs.Laws.{OrderOfAllGoals, SerialReachesEachOnce}
use Rattle.mk_graph.specs.Serial.{serial_order, order_from}
use Rattle.mk_build.specs.Setting.{FileName, Setting, writings}
use Rattle.mk_build.specs.BuildLaws.{FirstIsAStart, StaleIsShown}
use Rattle.mk_build.specs.World.{Disk, World, Idle, Busy, IsFirstDisk, last_stamp}
use Rattle.mk_build.specs.World as model_world
use Rattle.mk_build.specs.Steps as model
use Rattle.mk_build.specs.NodeByNode.{MakesAllBut}
use Rattle.mk_build.specs.SerialMake.{one_make}
use Rattle.mk_build.specs.Stale.{Chain, IsEditOf, stale_history, MakesGoalsBut, ShowsStale}
use Rattle.mk_world.specs.State.{Scene, DiskState, MakeState, setting, disk_of, world_in, world_of}
use Rattle.mk_world.specs.Steps.{step_of, IsFirstOf}
use Rattle.mk_find.specs.Candidates.{static_candidates}
use Rattle.mk_find.specs.Conditions.{IsStale}
use Rattle.mk_find.specs.FindingLaws.{NothingFoundIsSound}
use Rattle.mk_find.specs.Listing.{Lists}
use Rattle.mk_subject.specs.Subject.{Subject, IsSubject, footprints}
use Rattle.mk_find_evidence.specs.Histories.{History, MayGoOn, GoesOn, MakesOn, GoesOnMaking}
use Rattle.mk_find_evidence.specs.Makes.{HasNoMake, MakesGoalsOn, MayMakeGoals, GoesOnMakingGoals, MayEdit, GoesOnEditing}
use Rattle.mk_find_evidence.specs.Shown.{EndsStale}
use Rattle.mk_find_evidence.proofs.Histories.{goes_further, may_further}
use Rattle.mk_find_evidence.proofs.Steps.{makes_alike, makes_exist, after_appended}
use Rattle.mk_find_evidence.proofs.StaleSteps.{AreShown, first_legal, edit_legal, second_legal}
use Rattle.mk_find_evidence.proofs.FirstDisks.{one_first}

-- the nodes of the serial order are nodes of the graph
pub order_low : SerialReachesEachOnce → (g : Graph) → IsGraph g → (order : List ℕ) → order ≡ serial_order g → (n : ℕ) → Has order n → n < length g.nodes
order_low reaches g is order same n h = reached_is_node g is n (((reaches g is.no_cycle).1 n).0 (subst (λ (l : List ℕ). Has l n) same h))

-- where a make may end it is in progress, and then it is not
idle_behind : (g : Graph) (s : Setting) (w : World) → model.Allowed g s w model.EndMake → (d : Disk) × (model.after g s w model.EndMake ≡ Idle d)
idle_behind g s (Idle d) none = absurd none
idle_behind g s (Busy m d) allowed = (d, refl)

-- a world without a make has none in its state
none_made : (scene : Scene) (disk : DiskState) (make : Option MakeState) (d : Disk) → world_in scene disk make ≡ Idle d → make ≡ None
none_made scene disk None d e = refl
none_made scene disk (Some m) d e = absurd (cc)

module _ (old : History) (idle : HasNoMake old) (passed order : List ℕ) (in_order : order ≡ serial_order old.world.scene.graph) (all : OrderOfAllGoals) (may : MayMakeGoals old passed) where
  -- the world of the history before the make
  is_idle : world_of old.world ≡ Idle (disk_of old.world.disk)
  is_idle = ap (λ (make : Option MakeState). world_in old.world.scene old.world.disk make) idle

  -- the make may start
  pub may_start : MayGoOn old (model.Make 1 old.world.scene.graph.goals ∷ [])
  may_start =
      let some = makes_exist old.world.scene.graph (setting old.world.scene) passed (Busy (model.make_of 1 old.world.scene.graph.goals) (disk_of old.world.disk)) (order_from old.world.scene.graph old.world.scene.graph.goals) in
      ((may some.0 some.1).0, tt)

  module _ (begun : History) (starts : GoesOn old begun (model.Make 1 old.world.scene.graph.goals ∷ [])) where
    -- what makes the nodes from there makes all goals
    makes_goals : (steps : List model.Step) → MakesOn begun passed order steps → MakesGoalsOn old passed steps
    makes_goals steps makes =
        let at_old : MakesAllBut old.world.scene.graph (setting old.world.scene) (Has passed) (world_of begun.world) order steps = subst (λ (scene : Scene). MakesAllBut scene.graph (setting scene) (Has passed) (world_of begun.world) order steps) starts.scene makes in
        let same : world_of begun.world ≡ Busy (model.make_of 1 old.world.scene.graph.goals) (disk_of old.world.disk) = starts.leaves ∙ ap (λ (w : World). model.after old.world.scene.graph (setting old.world.scene) w (model.Make 1 old.world.scene.graph.goals)) is_idle in
        let whole : order ≡ order_from old.world.scene.graph old.world.scene.graph.goals = in_order ∙ sym (all old.world.scene.graph) in
        subst (λ (ns : List ℕ). MakesAllBut old.world.scene.graph (setting old.world.scene) (Has passed) (Busy (model.make_of 1 old.world.scene.graph.goals) (disk_of old.world.disk)) ns steps) whole
        (subst (λ (w : World). MakesAllBut old.world.scene.graph (setting old.world.scene) (Has passed) w order steps) same at_old)

    -- all that makes the nodes is legal
    pub may_make : (steps : List model.Step) → MakesOn begun passed order steps → MayGoOn begun steps
    may_make steps makes =
        may_further old begun (model.Make 1 old.world.scene.graph.goals ∷ []) steps starts (legal_front old.world.scene.graph (setting old.world.scene) (world_of old.world) (model.Make 1 old.world.scene.graph.goals ∷ steps) (model.EndMake ∷ []) (may steps (makes_goals steps makes)))

    module _ (made : History) (makes : GoesOnMaking begun made passed order) where
      -- the steps up to there
      up_to : GoesOn old made (model.Make 1 old.world.scene.graph.goals ∷ makes.steps)
      up_to = goes_further old begun made (model.Make 1 old.world.scene.graph.goals ∷ []) makes.steps starts makes.goes_on

      -- and the make may end
      pub may_end : MayGoOn made (model.EndMake ∷ [])
      may_end = may_further old made (model.Make 1 old.world.scene.graph.goals ∷ makes.steps) (model.EndMake ∷ []) up_to (may makes.steps (makes_goals makes.steps makes.makes))

      -- at its end all goals are made
      pub all_made : (new : History) → GoesOn made new (model.EndMake ∷ []) → GoesOnMakingGoals old new passed
      all_made new ended =
          let quiet = idle_behind made.world.scene.graph (setting made.world.scene) (world_of made.world) may_end.0 in
          record {
            steps = makes.steps;
            makes = makes_goals makes.steps makes.makes;
            goes_on = goes_further old made new (model.Make 1 old.world.scene.graph.goals ∷ makes.steps) (model.EndMake ∷ []) up_to ended;
            idle = none_made new.world.scene new.world.disk new.world.make quiet.0 (ended.leaves ∙ quiet.1);
          }

-- an edit
module _ (old : History) (idle : HasNoMake old) (f : FileName) where
  still_idle : world_of old.world ≡ Idle (disk_of old.world.disk)
  still_idle = ap (λ (make : Option MakeState). world_in old.world.scene old.world.disk make) idle

  -- there is a stamp for it
  pub has_stamp : MayGoOn old (model.Edit f (old.world.disk.clock + 1) ∷ []) → old.world.disk.clock < last_stamp
  has_stamp may = (subst (λ (w : World). model.Allowed old.world.scene.graph (setting old.world.scene) w (model.Edit f (old.world.disk.clock + 1))) still_idle may.0).1

  -- behind it the history is idle
  pub idle_edited : (new : History) (c : ℕ) → GoesOn old new (model.Edit f c ∷ []) → HasNoMake new
  idle_edited new c goes =
      none_made new.world.scene new.world.disk new.world.make (model_world.written (disk_of old.world.disk) f c) (goes.leaves ∙ ap (λ (w : World). model.after old.world.scene.graph (setting old.world.scene) w (model.Edit f c)) still_idle)

-- From this disk the steps led to the history, which is idle.
pub record Came (x : Subject) (d : Disk) (h : History) (steps : List model.Step) : Type 0 where
  pub scene : h.world.scene ≡ record { graph = x.graph; recorded = x.setting }
  pub idle : HasNoMake h
  pub named : map (step_of x.graph) h.steps ≡ steps
  pub leaves : world_of h.world ≡ model.after_all x.graph (footprints x.setting) (Idle d) steps

-- no step has led to the first
pub came_first : (x : Subject) (h : History) → IsFirstOf x.graph x.setting h.world → h.steps ≡ [] → Came x (disk_of h.world.disk) h []
came_first x h first none = record {
  scene = first.scene;
  idle = first.idle;
  named = ap (map (step_of x.graph)) none;
  leaves = ap (λ (make : Option MakeState). world_in h.world.scene h.world.disk make) first.idle;
}

module _ (x : Subject) (d : Disk) (h : History) (xs : List model.Step) (came : Came x d h xs) where
  -- more steps
  pub came_on : (k : History) (ys : List model.Step) → GoesOn h k ys → HasNoMake k → Came x d k (xs ++ ys)
  came_on k ys goes idle =
      let g = x.graph in
      let s = footprints x.setting in
      let same_steps : map (step_of g) goes.more ≡ ys = subst (λ (scene : Scene). map (step_of scene.graph) goes.more ≡ ys) came.scene goes.are in
      let same_world : world_of k.world ≡ model.after_all g s (world_of h.world) ys = subst (λ (scene : Scene). world_of k.world ≡ model.after_all scene.graph (setting scene) (world_of h.world) ys) came.scene goes.leaves in
      record {
        scene = goes.scene ∙ came.scene;
        idle = idle;
        named = ap (map (step_of g)) goes.added ∙ (map-append (step_of g) h.steps goes.more ∙ (ap (λ (l : List model.Step). l ++ map (step_of g) goes.more) came.named ∙ ap (λ (l : List model.Step). xs ++ l) same_steps));
        leaves = same_world ∙ (ap (λ (w : World). model.after_all g s w ys) came.leaves ∙ sym (after_appended g s (Idle d) xs ys));
      }

  -- its disk
  disk_is : disk_of h.world.disk ≡ model.disk_after x.graph (footprints x.setting) d xs
  disk_is = ap (λ (w : World). model_world.disk_of w) (sym (ap (λ (make : Option MakeState). world_in h.world.scene h.world.disk make) came.idle) ∙ came.leaves)

  -- its world
  world_is : world_in (record { graph = x.graph; recorded = x.setting }) h.world.disk h.world.make ≡ model.after_all x.graph (footprints x.setting) (Idle d) xs
  world_is = sym (ap (λ (scene : Scene). world_in scene h.world.disk h.world.make) came.scene) ∙ came.leaves

  -- what is legal behind the steps is legal from the history: makes of all goals
  pub may_make_goals : (passed : List ℕ) → ((steps : List model.Step)
      → MakesGoalsBut x.graph (footprints x.setting) (Has passed)
      (model.disk_after x.graph (footprints x.setting) d xs) steps
      → model.IsLegal x.graph (footprints x.setting) (model.after_all x.graph (footprints x.setting) (Idle d)
      xs) (one_make x.graph.goals steps)) → MayMakeGoals h passed
  may_make_goals passed legal =
      subst (λ (scene : Scene). (steps : List model.Step) → MakesGoalsBut scene.graph (setting scene) (Has passed) (disk_of h.world.disk) steps → model.IsLegal scene.graph (setting scene) (world_in scene h.world.disk h.world.make) (one_make scene.graph.goals steps)) (sym came.scene)
      (λ steps makes. subst (λ (w : World). model.IsLegal x.graph (footprints x.setting) w (one_make x.graph.goals steps)) (sym world_is) (legal steps (subst (λ (e : Disk). MakesGoalsBut x.graph (footprints x.setting) (Has passed) e steps) disk_is makes)))

  -- and edits
  pub may_edit : (f : FileName) → ((edit : List model.Step) → IsEditOf (footprints x.setting) f (model.disk_after x.graph (footprints x.setting) d xs) edit → model.IsLegal x.graph (footprints x.setting) (model.after_all x.graph (footprints x.setting) (Idle d) xs) edit) → MayEdit h f
  may_edit f legal =
      subst (λ (scene : Scene). (edit : List model.Step) → IsEditOf (setting scene) f (disk_of h.world.disk) edit → model.IsLegal scene.graph (setting scene) (world_in scene h.world.disk h.world.make) edit) (sym came.scene)
      (λ edit is. subst (λ (w : World). model.IsLegal x.graph (footprints x.setting) w edit) (sym world_is) (legal edit (subst (λ (e : Disk). IsEditOf (footprints x.setting) f e edit) disk_is is)))

  -- by a make of all goals
  module _ (k : History) (passed : List ℕ) (made : GoesOnMakingGoals h k passed) where
    pub makes_there : MakesGoalsBut x.graph (footprints x.setting) (Has passed) (model.disk_after x.graph (footprints x.setting) d xs) made.steps
    makes_there =
        subst (λ (e : Disk). MakesGoalsBut x.graph (footprints x.setting) (Has passed) e made.steps) disk_is (subst (λ (scene : Scene). MakesGoalsBut scene.graph (setting scene) (Has passed) (disk_of h.world.disk) made.steps) came.scene made.makes)

    pub came_making : Came x d k (xs ++ one_make x.graph.goals made.steps)
    came_making =
        came_on k (one_make x.graph.goals made.steps) (subst (λ (scene : Scene). GoesOn h k (one_make scene.graph.goals made.steps)) came.scene made.goes_on) made.idle

  -- by an edit
  module _ (k : History) (f : FileName) (edited : GoesOnEditing h k f) where
    pub edits_there : IsEditOf (footprints x.setting) f (model.disk_after x.graph (footprints x.setting) d xs) edited.edit
    edits_there =
        subst (λ (e : Disk). IsEditOf (footprints x.setting) f e edited.edit) disk_is (subst (λ (scene : Scene). IsEditOf (setting scene) f (disk_of h.world.disk) edited.edit) came.scene edited.is)

    pub came_editing : Came x d k (xs ++ edited.edit)
    came_editing = came_on k edited.edit edited.goes_on edited.idle

-- where nothing static is found, and there are stamps enough, a stale read can be shown
pub are_shown : FirstIsAStart → NothingFoundIsSound → OrderOfAllGoals → StaleIsShown → (x : Subject) → IsGraph x.graph → IsSubject x → Lists x (static_candidates x) [] → (t : ℕ) (f : FileName) → IsStale x t f → (d : Disk) → IsFirstDisk x.graph (footprints x.setting) d
    → d.clock + (2 * writings x.graph (footprints x.setting) (serial_order x.graph) + 1) ≤ last_stamp → AreShown x.graph (footprints x.setting) t f d
are_shown starts sound all stale x is is_subject none t f is_stale d first room edited_first edit second shows =
    stale x.graph (footprints x.setting) is (sound x is is_subject none) t f is_stale.0 is_stale.1 is_stale.2
    d (starts x.graph (footprints x.setting) d first) (subst
    (λ (order : List ℕ). d.clock + (2 * writings x.graph (footprints x.setting) order + 1) ≤ last_stamp)
    (sym (all x.graph)) room) edited_first edit second shows

-- The history of a stale read, part by part.
module _ (x : Subject) (t : ℕ) (f : FileName) (passed : List ℕ)
    (exact : (n : ℕ) → Has passed n ↔ Chain x.graph (footprints x.setting) t n) (none : List ℕ)
    (empty : (n : ℕ) → ¬ (Has none n)) (one : History) (first : IsFirstOf x.graph x.setting one.world)
    (no_steps : one.steps ≡ []) (shown : AreShown x.graph (footprints x.setting) t f (disk_of one.world.disk))
  where
    came_one : Came x (disk_of one.world.disk) one []
    came_one = came_first x one first no_steps

    -- where nothing is to be passed all is made
    makes_all : (steps : List model.Step) → MakesGoalsBut x.graph (footprints x.setting) (Has none) (disk_of one.world.disk) steps → MakesGoalsBut x.graph (footprints x.setting) (λ n. ⊥) (disk_of one.world.disk) steps
    makes_all steps makes = makes_alike x.graph (footprints x.setting) (Has none) (λ n. ⊥) empty (λ n h. absurd h) makes

    -- the first make
    pub may_make_first : MayMakeGoals one none
    may_make_first = may_make_goals x (disk_of one.world.disk) one [] came_one none (λ steps makes. first_legal x.graph (footprints x.setting) t f (disk_of one.world.disk) shown passed exact steps (makes_all steps makes))

    module _ (two : History) (made : GoesOnMakingGoals one two none) where
      makes_first : MakesGoalsBut x.graph (footprints x.setting) (λ n. ⊥) (disk_of one.world.disk) made.steps
      makes_first = makes_all made.steps (makes_there x (disk_of one.world.disk) one [] came_one two none made)

      pub came_two : Came x (disk_of one.world.disk) two (one_make x.graph.goals made.steps)
      came_two = came_making x (disk_of one.world.disk) one [] came_one two none made

      -- the edit
      pub may_edit_then : MayEdit two f
      may_edit_then = may_edit x (disk_of one.world.disk) two (one_make x.graph.goals made.steps) came_two f (λ edit is. edit_legal x.graph (footprints x.setting) t f (disk_of one.world.disk) shown passed exact made.steps makes_first edit is)

      module _ (three : History) (edited : GoesOnEditing two three f) where
        edits_then : IsEditOf (footprints x.setting) f (model.disk_after x.graph (footprints x.setting) (disk_of one.world.disk) (one_make x.graph.goals made.steps)) edited.edit
        edits_then = edits_there x (disk_of one.world.disk) two (one_make x.graph.goals made.steps) came_two three f edited

        pub came_three : Came x (disk_of one.world.disk) three (one_make x.graph.goals made.steps ++ edited.edit)
        came_three = came_editing x (disk_of one.world.disk) two (one_make x.graph.goals made.steps) came_two three f edited

        -- what the set has is passed
        makes_but : (steps : List model.Step) → (e : Disk) → MakesGoalsBut x.graph (footprints x.setting) (Has passed) e steps → MakesGoalsBut x.graph (footprints x.setting) (Chain x.graph (footprints x.setting) t) e steps
        makes_but steps e makes = makes_alike x.graph (footprints x.setting) (Has passed) (Chain x.graph (footprints x.setting) t) (λ n. (exact n).0) (λ n. (exact n).1) makes

        -- the second make
        pub may_make_second : MayMakeGoals three passed
        may_make_second =
            may_make_goals x (disk_of one.world.disk) three (one_make x.graph.goals made.steps ++ edited.edit)
            came_three passed (λ steps makes. second_legal x.graph (footprints x.setting) t f
            (disk_of one.world.disk) shown passed exact made.steps makes_first edited.edit edits_then steps
            (makes_but steps (model.disk_after x.graph (footprints x.setting) (disk_of one.world.disk)
            (one_make x.graph.goals made.steps ++ edited.edit)) makes))

        module _ (four : History) (again : GoesOnMakingGoals three four passed) where
          -- the history is the described one
          pub all_shown : ShowsStale x.graph (footprints x.setting) t f (disk_of one.world.disk) made.steps edited.edit again.steps
          all_shown = record {
            makes_all = makes_first;
            edits = edits_then;
            makes_again = makes_but again.steps (model.disk_after x.graph (footprints x.setting) (disk_of one.world.disk) (one_make x.graph.goals made.steps ++ edited.edit)) (makes_there x (disk_of one.world.disk) three (one_make x.graph.goals made.steps ++ edited.edit) came_three four passed again);
          }

          -- its steps
          steps_are : map (step_of x.graph) four.steps ≡ stale_history x.graph made.steps edited.edit again.steps
          steps_are =
              (came_making x (disk_of one.world.disk) three (one_make x.graph.goals made.steps ++ edited.edit) came_three four passed again).named ∙ append_assoc (one_make x.graph.goals made.steps) edited.edit (one_make x.graph.goals again.steps)

          -- from the first disk it shows the stale read
          pub ends_stale : (d : Disk) → IsFirstDisk x.graph (footprints x.setting) d → EndsStale x.graph (footprints x.setting) d t f (map (step_of x.graph) four.steps)
          ends_stale d is =
              let whole = shown made.steps edited.edit again.steps all_shown in
              subst (λ (e : Disk). EndsStale x.graph (footprints x.setting) e t f (map (step_of x.graph) four.steps)) (sym (one_first x.graph (footprints x.setting) d (disk_of one.world.disk) is first.first))
              (subst (λ (steps : List model.Step). EndsStale x.graph (footprints x.setting) (disk_of one.world.disk) t f steps) (sym steps_are)
              (record { first = made.steps; edit = edited.edit; second = again.steps; parts = refl; shows = all_shown; legal = whole.0; later = whole.1 }))
