-- Runs of plans: the steps of each line, and what is printed.
use Rattle.std.specs.Prelude.{◌≡◌, ℕ, ◌+◌, Bool, true, false, ◌&&◌, List, [], ◌∷◌, ◌++◌, map, min, Option, None, Some, option_map, unwrap_or, Result, Ok, Err, OnOk, IfErr, ◌⊎◌}
use Rattle.std.specs.declared.alloc.AllocError.{AllocError}
use Rattle.std.specs.List.{list_all, flat_map}
use Rattle.std.specs.Fmt.{decimal}
use Rattle.mk_lines.specs.Names.{has_name}
use Rattle.mk_graph.specs.declared.node.Node.{Node}
use Rattle.mk_graph.specs.Membership.{Has}
use Rattle.mk_graph.specs.Graph.{Graph, node}
use Rattle.mk_graph.specs.Serial.{serial_order}
use Rattle.mk_build.specs.Setting.{FileName, Setting, reads, writes}
use Rattle.mk_build.specs.World.{Disk, Making, World, Idle, Busy, disk_of, content, last_stamp, outcome}
use Rattle.mk_build.specs.World as world
use Rattle.mk_build.specs.Steps as model
use Rattle.mk_build.specs.SerialMake.{rest_of_run, whole_run}
use Rattle.mk_world.specs.declared.fault.StepFault.{StepFault}
use Rattle.mk_world.specs.declared.fault.StepFault.TheVariants.{PlanLine, Memory}
use Rattle.mk_world.specs.declared.file.Listed.{Listed}
use Rattle.mk_world.specs.declared.plan.PlanCommand.{PlanCommand}
use Rattle.mk_world.specs.declared.plan.PlanCommand.TheVariants.{Make, Stop, Begin, Look, Put, Done, Break, Finish, Run, Pass, End, Edit}
use Rattle.mk_world.specs.declared.plan.PlanLine as line
use Rattle.mk_world.specs.State as state
use Rattle.mk_world.specs.State.{State, number_of, setting, world_of}
use Rattle.mk_world.specs.Listing.{there_among}
use Rattle.mk_world.specs.Steps.{IsFaultOf}

-- What no step changes: the graph, the build inputs, and the names of the world in the order of
-- their bytes.
pub record Stage : Type 0 where
  pub graph : Graph
  pub setting : Setting
  pub names : List FileName

-- What no step changes in a state.
abbrev pub stage_of : State → Stage
stage_of w = record { graph = w.scene.graph; setting = setting w.scene; names = w.disk.names }

-- Whether the name is that of a node.
abbrev pub is_node : Graph → FileName → Bool
is_node g t = has_name (map (λ (n : Node). n.name) g.nodes) t

-- Whether all names in a command are known.
abbrev pub is_known : Graph → (names : List FileName) → PlanCommand → Bool
is_known g names (Make jobs goals) = list_all (is_node g) goals
is_known g names Stop = true
is_known g names (Begin t) = is_node g t
is_known g names (Look t f) = is_node g t && has_name names f
is_known g names (Put t f c) = is_node g t && has_name names f
is_known g names (Done t) = is_node g t
is_known g names (Break t removed) = is_node g t
is_known g names (Finish t) = is_node g t
is_known g names (Run t) = is_node g t
is_known g names (Pass t) = is_node g t
is_known g names End = true
is_known g names (Edit f c) = has_name names f

-- The node is idle: it is ready and has no recipe.
abbrev pub IsIdle : Graph → Making → ℕ → Type 0
IsIdle g m n = model.Ready g m n × ((node g n).recipe ≡ false)

-- The node is the first idle one of these nodes.
abbrev pub IsFirstIdle : Graph → Making → List ℕ → ℕ → Type 0
IsFirstIdle g m [] n = ⊥
IsFirstIdle g m (next ∷ ns) n =
    (IsIdle g m next × (n ≡ next)) ⊎ ((¬ (IsIdle g m next)) × IsFirstIdle g m ns n)

-- None of these nodes is idle.
abbrev pub AreNotIdle : Graph → Making → List ℕ → Type 0
AreNotIdle g m ns = (n : ℕ) → Has ns n → ¬ (IsIdle g m n)

-- These idle nodes are passed in order; each is the first idle node in the serial order at that
-- point.
abbrev pub Passes : Graph → Making → List ℕ → Making → Type 0
Passes g m [] end = end ≡ m
Passes g m (n ∷ ns) end = IsFirstIdle g m (serial_order g) n × Passes g (model.finished m n) ns end

-- Idle nodes are passed until there is none.
pub record PassesAll (g : Graph) (m : Making) (d : Disk) (behind : World) : Type 0 where
  pub nodes : List ℕ
  pub end : Making
  pub passes : Passes g m nodes end
  pub none_left : AreNotIdle g end (serial_order g)
  pub leaves : behind ≡ Busy end d

-- If a make is in progress, its idle nodes are passed until there is none.
abbrev pub PassesAllIn : Graph → (old behind : World) → Type 0
PassesAllIn g (Idle d) behind = behind ≡ Idle d
PassesAllIn g (Busy m d) behind = PassesAll g m d behind

-- Some idle nodes are passed in order; each is the first idle node at that point.
pub record PassesSome (g : Graph) (m : Making) (d : Disk) (new : World) : Type 0 where
  pub nodes : List ℕ
  pub end : Making
  pub passes : Passes g m nodes end
  pub leaves : new ≡ Busy end d

-- If a make is in progress, some of its idle nodes are passed.
abbrev pub PassesSomeIn : Graph → (old new : World) → Type 0
PassesSomeIn g (Idle d) new = new ≡ Idle d
PassesSomeIn g (Busy m d) new = PassesSome g m d new

-- Before `begin`, `run`, `pass` and `end` some of the idle nodes are passed.
abbrev pub PassesSomeBefore : Graph → PlanCommand → (old new : World) → Type 0
PassesSomeBefore g (Begin t) old new = PassesSomeIn g old new
PassesSomeBefore g (Run t) old new = PassesSomeIn g old new
PassesSomeBefore g (Pass t) old new = PassesSomeIn g old new
PassesSomeBefore g End old new = PassesSomeIn g old new
PassesSomeBefore g order old new = new ≡ old

-- Before `begin`, `run`, `pass` and `end` the idle nodes are passed.
abbrev pub PassesBefore : Graph → PlanCommand → (old behind : World) → Type 0
PassesBefore g (Begin t) old behind = PassesAllIn g old behind
PassesBefore g (Run t) old behind = PassesAllIn g old behind
PassesBefore g (Pass t) old behind = PassesAllIn g old behind
PassesBefore g End old behind = PassesAllIn g old behind
PassesBefore g order old behind = behind ≡ old

-- The next stamp, or the last one if there is no further stamp.
abbrev pub new_stamp : (clock : ℕ) → ℕ
new_stamp clock = min (clock + 1) last_stamp

-- The stamps that these files take if they are written in order.
abbrev pub new_stamps : (clock : ℕ) → List FileName → List ℕ
new_stamps clock [] = []
new_stamps clock (f ∷ files) = new_stamp clock ∷ new_stamps (clock + 1) files

-- What `finish` writes for a recipe: the known outcome for what its reads contain now, or, if none
-- is known, the new stamps.
abbrev pub contents_of : Graph → Setting → Disk → ℕ → List ℕ
contents_of g s d t =
    unwrap_or (outcome d.known t (map (content d) (reads g s t)))
    (new_stamps d.clock (writes g s t))

-- The content that the line gives, or else the new stamp.
abbrev pub content_or_stamp : Disk → Option ℕ → ℕ
content_or_stamp d c = unwrap_or c (new_stamp d.clock)

-- The numbers of the goals that the line names, or all goals if it names none.
abbrev pub goals_among : Graph → List FileName → List ℕ
goals_among g [] = g.goals
goals_among g (goal ∷ goals) = map (number_of g) (goal ∷ goals)

-- The steps of a command on this disk, without the passes of idle nodes before it.
abbrev pub own_steps : Graph → Setting → Disk → PlanCommand → List model.Step
own_steps g s d (Make jobs goals) = model.Make jobs (goals_among g goals) ∷ []
own_steps g s d Stop = model.Stop ∷ []
own_steps g s d (Begin t) = model.Begin (number_of g t) ∷ []
own_steps g s d (Look t f) = model.Look (number_of g t) f ∷ []
own_steps g s d (Put t f c) = model.Put (number_of g t) f (content_or_stamp d c) ∷ []
own_steps g s d (Done t) = model.End (number_of g t) ∷ []
own_steps g s d (Break t removed) = model.Break (number_of g t) removed ∷ []
own_steps g s d (Finish t) = rest_of_run g s (number_of g t) (contents_of g s d (number_of g t))
own_steps g s d (Run t) = whole_run g s (number_of g t) (contents_of g s d (number_of g t))
own_steps g s d (Pass t) = model.Pass (number_of g t) ∷ []
own_steps g s d End = model.EndMake ∷ []
own_steps g s d (Edit f c) = model.Edit f (content_or_stamp d c) ∷ []

-- The steps are taken one after another, all of them or up to the first that is refused.
pub data TakesInTurn (g : Graph) (s : Setting) : (old new : World) → List model.Step →
    Result (Unit {0}) StepFault → Type 0 where
  -- No step is left, and the world stays.
  ends : {w : World} → TakesInTurn g s w w [] (Ok tt)
  -- The next step is allowed, and the steps behind it are taken in turn.
  takes : {old new : World} {next : model.Step} {steps : List model.Step}
      {result : Result (Unit {0}) StepFault} → model.Allowed g s old next →
      TakesInTurn g s (model.after g s old next) new steps result →
      TakesInTurn g s old new (next ∷ steps) result
  -- The next step is refused, and the world stays.
  refused : {w : World} {next : model.Step} {steps : List model.Step} {fault : StepFault} →
      IsFaultOf g s w next fault → TakesInTurn g s w w (next ∷ steps) (Err fault)

-- The result of taking these steps one after another; the graph, the build inputs and the names of
-- the world don't change.
pub record AnswersInTurn (old new : State) (steps : List model.Step)
    (result : Result (Unit {0}) StepFault) : Type 0 where
  pub scene : new.scene ≡ old.scene
  pub names : new.disk.names ≡ old.disk.names
  pub takes : TakesInTurn old.scene.graph (setting old.scene) (world_of old) (world_of new) steps
      result

-- A trace leads from the first world to the second.
pub record LeadsTo (g : Graph) (s : Setting) (old new : World) : Type 0 where
  pub steps : List model.Step
  pub legal : model.IsLegal g s old steps
  pub leaves : new ≡ model.after_all g s old steps

-- The world is what the first of these steps leave: none, some or all of them.
pub record LeavesPartly (g : Graph) (s : Setting) (old new : World) (steps : List model.Step) :
    Type 0 where
  pub front : List model.Step
  pub rest : List model.Step
  pub are : steps ≡ front ++ rest
  pub leaves : new ≡ model.after_all g s old front

-- The result of taking allowed steps: the world is what the steps leave, or, if memory runs out,
-- what the first of them leave. The graph, the build inputs and the names of the world stay.
pub record TakesAllAllowed (old new : State) (steps : List model.Step)
    (result : Result (Unit {0}) AllocError) : Type 0 where
  pub scene : new.scene ≡ old.scene
  pub names : new.disk.names ≡ old.disk.names
  pub leaves : OnOk result (world_of new ≡
      model.after_all old.scene.graph (setting old.scene) (world_of old) steps)
  pub part : LeavesPartly old.scene.graph (setting old.scene) (world_of old) (world_of new) steps

-- The steps of a command in this state, without the passes of idle nodes before it.
abbrev pub steps_of : State → PlanCommand → List model.Step
steps_of w order = own_steps w.scene.graph (setting w.scene) (state.disk_of w.disk) order

-- The steps of `finish T` in this state.
abbrev pub finish_steps : State → FileName → List model.Step
finish_steps w t = steps_of w (Finish t)

-- The steps of `run T` in this state.
abbrev pub run_steps : State → FileName → List model.Step
run_steps w t = steps_of w (Run t)

-- A line is executed: its names are known, idle nodes are passed if the command needs that, and its
-- steps are taken, all of them or up to the first that is refused.
pub record Follows (stage : Stage) (old new : World) (order : PlanCommand)
    (result : Result (Unit {0}) StepFault) : Type 0 where
  pub known : is_known stage.graph stage.names order ≡ true
  pub behind : World
  pub passes : PassesBefore stage.graph order old behind
  pub takes : TakesInTurn stage.graph stage.setting behind new
      (own_steps stage.graph stage.setting (disk_of behind) order) result

-- A name in the line isn't known, and nothing is done.
pub record Misnames (stage : Stage) (old new : World) (order : PlanCommand) (fault : StepFault) :
    Type 0
  where
    pub unknown : is_known stage.graph stage.names order ≡ false
    pub is : fault ≡ PlanLine
    pub unchanged : new ≡ old

-- The line is refused with this fault: a name in it isn't known, or one of its steps is refused.
abbrev pub IsRefusal : Stage → (old new : World) → PlanCommand → StepFault → Type 0
IsRefusal stage old new order fault =
    Misnames stage old new order fault ⊎
    ((¬ (fault ≡ Memory)) × Follows stage old new order (Err fault))

-- The file with this name, if it exists.
abbrev pub listed_at : Disk → FileName → Option Listed
listed_at d f =
    option_map (λ (file : world.File). record {
      name = f;
      content = file.content;
      stamp = file.stamp;
    }) (d.files f)

-- The text `name content stamp` and a newline.
abbrev pub file_text : Listed → List ℕ
file_text x = x.name ++ 32 ∷ (decimal x.content ++ 32 ∷ (decimal x.stamp ++ 10 ∷ []))

-- The lines of all files that exist, by the bytes of their names.
abbrev pub files_text : (names : List FileName) → Disk → List ℕ
files_text names d = flat_map file_text (there_among (listed_at d) names)

-- What is printed after a command: the files after an `end`, and nothing after the others.
abbrev pub printed : (names : List FileName) → PlanCommand → World → List ℕ
printed names End w = files_text names (disk_of w)
printed names order w = []

-- The result of passing all idle nodes; on out of memory some of them have been passed.
pub record PassesIdle (old new : State) (result : Result (Unit {0}) AllocError) : Type 0 where
  pub scene : new.scene ≡ old.scene
  pub names : new.disk.names ≡ old.disk.names
  pub ok : OnOk result (PassesAllIn old.scene.graph (world_of old) (world_of new))
  pub some : PassesSomeIn old.scene.graph (world_of old) (world_of new)

-- The result of preparing for a command; on out of memory some idle nodes have been passed.
pub record Prepares (old new : State) (order : PlanCommand)
    (result : Result (Unit {0}) AllocError) :
    Type 0 where
  pub scene : new.scene ≡ old.scene
  pub names : new.disk.names ≡ old.disk.names
  pub ok : OnOk result (PassesBefore old.scene.graph order (world_of old) (world_of new))
  pub some : PassesSomeBefore old.scene.graph order (world_of old) (world_of new)

-- Memory runs out in a line whose names are known: some of the idle nodes that its command passes
-- have been passed, or all of them and then the first of its steps have been taken, but not all.
abbrev pub FollowsPartly : Stage → (old new : World) → PlanCommand → Type 0
FollowsPartly stage old new order =
    ((is_known stage.graph stage.names order ≡ true) × PassesSomeBefore stage.graph order old new) ⊎
    Follows stage old new order (Err Memory)

-- The result of executing a line; on out of memory a part of its steps has been taken.
pub record AnswersLine (old new : State) (order : PlanCommand)
    (result : Result (Unit {0}) StepFault) :
    Type 0 where
  pub scene : new.scene ≡ old.scene
  pub names : new.disk.names ≡ old.disk.names
  pub ok : OnOk result (Follows (stage_of old) (world_of old) (world_of new) order (Ok tt))
  pub err : IfErr result (λ fault.
      ((fault ≡ Memory) × FollowsPartly (stage_of old) (world_of old) (world_of new) order) ⊎
      IsRefusal (stage_of old) (world_of old) (world_of new) order fault)
  pub leads : LeadsTo old.scene.graph (setting old.scene) (world_of old) (world_of new)

-- The run of these lines, one after another, all of them or up to the first that is refused: the
-- text that it prints, the refused line's number and fault, and the world that it leaves.
pub data RunsTo (stage : Stage) : World → List line.PlanLine → (text : List ℕ) →
    (refusal : Option (ℕ × StepFault)) → World → Type 0 where
  -- No line is left: nothing is printed or refused, and the world stays.
  ends : {w : World} → RunsTo stage w [] [] None w
  -- The next line is followed to its end, and the run goes on behind it.
  follows : {old behind new : World} {next : line.PlanLine} {lines : List line.PlanLine}
      {later : List ℕ} {refusal : Option (ℕ × StepFault)} →
      Follows stage old behind next.order (Ok tt) → RunsTo stage behind lines later refusal new →
      RunsTo stage old (next ∷ lines) (printed stage.names next.order behind ++ later) refusal new
  -- The next line is refused: nothing is printed, and the lines behind it aren't run.
  refused : {old new : World} {next : line.PlanLine} {lines : List line.PlanLine}
      {fault : StepFault} → IsRefusal stage old new next.order fault →
      RunsTo stage old (next ∷ lines) [] (Some (next.number, fault)) new

-- Nothing is done, or memory runs out in the first of these lines.
abbrev pub StopsIn : Stage → (old new : World) → List line.PlanLine → Type 0
StopsIn stage old new [] = new ≡ old
StopsIn stage old new (next ∷ lines) = (new ≡ old) ⊎ FollowsPartly stage old new next.order

-- The run of a plan until memory runs out: the first lines are run whole, without a refusal, and at
-- most a part of the next line's steps is taken.
pub record RunsPartly (stage : Stage) (old new : World) (lines : List line.PlanLine) : Type 0 where
  pub front : List line.PlanLine
  pub rest : List line.PlanLine
  pub are : lines ≡ front ++ rest
  pub text : List ℕ
  pub behind : World
  pub ran : RunsTo stage old front text None behind
  pub stops : StopsIn stage behind new rest
