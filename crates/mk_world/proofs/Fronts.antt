-- Histories of steps that are asked for, and the fronts of plans.
use Rattle.std.proofs.Common.{◌≡◌, ℕ, List, [], ◌∷◌, ◌++◌, map, Option, Result, Ok, Err, refl, sym, ap, ◌∙◌, subst, inl, inr, append_assoc}
use Rattle.std.proofs.lemmas.Bool.{false≢true}
use Rattle.mk_graph.specs.Membership.{Has}
use Rattle.mk_graph.specs.Graph.{Graph}
use Rattle.mk_graph.specs.Serial.{serial_order}
use Rattle.mk_build.specs.Setting.{Setting}
use Rattle.mk_build.specs.World.{World, Disk, Making, Idle, Busy, disk_of}
use Rattle.mk_build.specs.Steps as model
use Rattle.mk_build.specs.Steps.{IsLegal, after, after_all, finished}
use Rattle.mk_world.specs.NamedStep as code
use Rattle.mk_world.specs.declared.fault.StepFault.{StepFault}
use Rattle.mk_world.specs.declared.fault.StepFault.TheVariants as faults
use Rattle.mk_world.specs.declared.plan.PlanCommand.{PlanCommand}
use Rattle.mk_world.specs.declared.plan.PlanLine.{PlanLine}
use Rattle.mk_world.specs.declared.plan.PlanCommand.TheVariants.{Make, Stop, Begin, Look, Put, Done, Break, Finish, Run, Pass, End, Edit}
use Rattle.mk_world.specs.State.{State, Scene, setting, world_of}
use Rattle.mk_world.specs.Steps.{step_of}
use Rattle.mk_world.specs.Faults.{Check, checks, AllHold, FirstFails}
use Rattle.mk_world.specs.Running.{Stage, IsFirstIdle, AreNotIdle, Passes, PassesAll, PassesAllIn, PassesBefore, TakesInTurn, Follows, IsRefusal, RunsTo, ends, follows, takes, refused, own_steps, printed}
use Rattle.mk_world.specs.RunLaws.{AreLegal, TakenStepsAreLegal, LegalStepsAreTaken, FrontsRunFirst}
use Rattle.mk_world.proofs.Idle.{first_is_idle}
use Rattle.mk_world.proofs.StepTests.{allowed_as}

-- what holds throughout has no first that fails
pub none_fails : (cs : List Check) (fault : StepFault) → AllHold cs → FirstFails cs fault → ⊥
none_fails [] fault h none = none
none_fails (c ∷ cs) fault h fails = elim fails [ inl f ↦ f.0 h.0 | inr later ↦ none_fails cs fault h.1 later.1 ]

-- an allowed step has no test that fails
pub not_refused : (g : Graph) (s : Setting) (w : World) (one : model.Step) (fault : StepFault) → model.Allowed g s w one → FirstFails (checks g s w one) fault → ⊥
not_refused g s w one fault allowed fails = none_fails (checks g s w one) fault ((allowed_as g s w one).0 allowed) fails

legal_in : (now first : State) (steps : List code.Step) → now.scene ≡ first.scene → AreLegal now steps → IsLegal first.scene.graph (setting first.scene) (world_of now) (map (step_of first.scene.graph) steps)
legal_in now first steps e h = subst (λ (k : Scene). IsLegal k.graph (setting k) (world_of now) (map (step_of k.graph) steps)) e h

pub taken_legal : TakenStepsAreLegal
taken_legal old new [] h = (tt, ap world_of h.0)
taken_legal old new (x ∷ steps) h = elim h [
  | inl t ↦
      let rest = taken_legal t.0 new steps t.2 in
      let scene = t.1.scene in
      let leaves = t.1.judged.leaves in
      let legal = legal_in t.0 old steps scene rest.0 in
      let leads = subst (λ (k : Scene). world_of new ≡ after_all k.graph (setting k) (world_of t.0) (map (step_of k.graph) steps)) scene rest.1 in (
        (t.1.judged.allowed, subst (λ (w : World). IsLegal old.scene.graph (setting old.scene) w (map (step_of old.scene.graph) steps)) leaves legal),
        subst (λ (w : World). world_of new ≡ after_all old.scene.graph (setting old.scene) w (map (step_of old.scene.graph) steps)) leaves leads,
      )
  | inr stopped ↦ absurd (no_error stopped.0 stopped.2)
]
  where
    no_error : (fault : StepFault) → let ok : Result (Unit {0}) StepFault = Ok tt in ok ≡ Err fault → ⊥
    no_error fault e = cc

pub legal_taken : LegalStepsAreTaken
legal_taken old new [] result h legal = inl h.1
legal_taken old new (x ∷ steps) result h legal = elim h [
  | inl t ↦
      let here = subst (λ (w : World). IsLegal old.scene.graph (setting old.scene) w (map (step_of old.scene.graph) steps)) (sym t.1.judged.leaves) legal.1 in
      let rest : AreLegal t.0 steps = subst (λ (k : Scene). IsLegal k.graph (setting k) (world_of t.0) (map (step_of k.graph) steps)) (sym t.1.scene) here in
      legal_taken t.0 new steps result t.2 rest
  | inr stopped ↦ elim stopped.1.judged [
    | inl memory ↦ inr (stopped.2 ∙ ap (λ f. Err f) memory)
    | inr fails ↦ absurd (not_refused old.scene.graph (setting old.scene) (world_of old) (step_of old.scene.graph x) stopped.0 legal.0 fails)
  ]
]

-- there is one first idle node, and it stands among the nodes
first_one : (g : Graph) (m : Making) (xs : List ℕ) (n k : ℕ) → IsFirstIdle g m xs n → IsFirstIdle g m xs k → n ≡ k
first_one g m [] n k h j = absurd h
first_one g m (x ∷ xs) n k h j = elim h [
  | inl a ↦ elim j [ inl b ↦ a.1 ∙ sym b.1 | inr b ↦ absurd (b.0 a.0) ]
  | inr a ↦ elim j [ inl b ↦ absurd (a.0 b.0) | inr b ↦ first_one g m xs n k a.1 b.1 ]
]

first_there : (g : Graph) (m : Making) (xs : List ℕ) (n : ℕ) → IsFirstIdle g m xs n → Has xs n
first_there g m [] n h = h
first_there g m (x ∷ xs) n h = elim h [ inl a ↦ inl (sym a.1) | inr b ↦ inr (first_there g m xs n b.1) ]

first_or_none : (g : Graph) (m : Making) (xs : List ℕ) (n : ℕ) → IsFirstIdle g m xs n → AreNotIdle g m xs → ⊥
first_or_none g m xs n h none = none n (first_there g m xs n h) (first_is_idle g m xs n h)

-- all that can be passed leaves one make
passes_one : (g : Graph) (m : Making) (ns ks : List ℕ) (end other : Making) → Passes g m ns end → AreNotIdle g end (serial_order g) → Passes g m ks other → AreNotIdle g other (serial_order g) → end ≡ other
passes_one g m [] [] end other h none j also = h ∙ sym j
passes_one g m [] (k ∷ ks) end other h none j also = absurd (first_or_none g m (serial_order g) k j.0 (subst (λ (w : Making). AreNotIdle g w (serial_order g)) h none))
passes_one g m (n ∷ ns) [] end other h none j also = absurd (first_or_none g m (serial_order g) n h.0 (subst (λ (w : Making). AreNotIdle g w (serial_order g)) j also))
passes_one g m (n ∷ ns) (k ∷ ks) end other h none j also =
    let same = first_one g m (serial_order g) k n j.0 h.0 in
    passes_one g (finished m n) ns ks end other h.1 none (subst (λ (i : ℕ). Passes g (finished m i) ks other) same j.1) also

passes_all_one : (g : Graph) (m : Making) (d : Disk) (a b : World) → PassesAll g m d a → PassesAll g m d b → a ≡ b
passes_all_one g m d a b h j =
    h.leaves ∙ (ap (λ (k : Making). Busy k d) (passes_one g m h.nodes j.nodes h.end j.end h.passes h.none_left j.passes j.none_left) ∙ sym j.leaves)

passes_in_one : (g : Graph) (old a b : World) → PassesAllIn g old a → PassesAllIn g old b → a ≡ b
passes_in_one g (Idle d) a b h j = h ∙ sym j
passes_in_one g (Busy m d) a b h j = passes_all_one g m d a b h j

pub before_one : (g : Graph) (order : PlanCommand) (old a b : World) → PassesBefore g order old a → PassesBefore g order old b → a ≡ b
before_one g (Make jobs goals) old a b h j = h ∙ sym j
before_one g Stop old a b h j = h ∙ sym j
before_one g (Begin t) old a b h j = passes_in_one g old a b h j
before_one g (Look t f) old a b h j = h ∙ sym j
before_one g (Put t f c) old a b h j = h ∙ sym j
before_one g (Done t) old a b h j = h ∙ sym j
before_one g (Break t removed) old a b h j = h ∙ sym j
before_one g (Finish t) old a b h j = h ∙ sym j
before_one g (Run t) old a b h j = passes_in_one g old a b h j
before_one g (Pass t) old a b h j = passes_in_one g old a b h j
before_one g End old a b h j = passes_in_one g old a b h j
before_one g (Edit f c) old a b h j = h ∙ sym j

-- steps that are all taken are legal, and leave one world
takes_legal : (g : Graph) (s : Setting) (old new : World) (steps : List model.Step) → TakesInTurn g s old new steps (Ok tt) → IsLegal g s old steps × (new ≡ after_all g s old steps)
takes_legal g s old new steps ends = (tt, refl)
takes_legal g s old new steps (takes {next = x} {steps = others} allowed more) = let rest = takes_legal g s (after g s old x) new others more in ((allowed, rest.0), rest.1)

-- legal steps are refused only on out of memory
legal_or : (g : Graph) (s : Setting) (old new : World) (steps : List model.Step) (fault : StepFault) → TakesInTurn g s old new steps (Err fault) → ¬ (fault ≡ faults.Memory) → IsLegal g s old steps → ⊥
legal_or g s old new steps fault (takes {next = x} {steps = others} allowed more) not legal = legal_or g s (after g s old x) new others fault more not legal.1
legal_or g s old new steps fault (refused (inl memory)) not legal = not memory
legal_or g s old new steps fault (refused {next = x} (inr fails)) not legal = not_refused g s old x fault legal.0 fails

-- a line that is followed leaves one world, and isn't refused
pub follows_one : (stage : Stage) (old a b : World) (order : PlanCommand) → Follows stage old a order (Ok tt) → Follows stage old b order (Ok tt) → a ≡ b
follows_one stage old a b order h j =
    let same = before_one stage.graph order old j.behind h.behind j.passes h.passes in
    let moved = subst (λ (w : World). TakesInTurn stage.graph stage.setting w b (own_steps stage.graph stage.setting (disk_of w) order) (Ok tt)) same j.takes in
    (takes_legal stage.graph stage.setting h.behind a _ h.takes).1 ∙ sym (takes_legal stage.graph stage.setting h.behind b _ moved).1

pub follows_or : (stage : Stage) (old a b : World) (order : PlanCommand) (fault : StepFault) → Follows stage old a order (Ok tt) → IsRefusal stage old b order fault → ⊥
follows_or stage old a b order fault h refusal = elim refusal [
  | inl unknown ↦ false≢true (sym unknown.unknown ∙ h.known)
  | inr fails ↦
      let same = before_one stage.graph order old fails.1.behind h.behind fails.1.passes h.passes in
      let moved = subst (λ (w : World). TakesInTurn stage.graph stage.setting w b (own_steps stage.graph stage.setting (disk_of w) order) (Err fault)) same fails.1.takes in
      legal_or stage.graph stage.setting h.behind b _ fault moved fails.0 (takes_legal stage.graph stage.setting h.behind a _ h.takes).0
]

-- a run of a line and of those behind it begins with the line
behind_first : (stage : Stage) (old mid behind : World) (x : PlanLine) (lines rest : List PlanLine) (text : List ℕ) → Follows stage old behind x.order (Ok tt)
    → (whole : List ℕ) (refusal : Option (ℕ × StepFault)) (new : World)
    → ((all : List ℕ) → RunsTo stage behind (lines ++ rest) all refusal new → (later : List ℕ) × RunsTo stage mid rest later refusal new × (all ≡ text ++ later))
    → RunsTo stage old (x ∷ (lines ++ rest)) whole refusal new
    → (later : List ℕ) × RunsTo stage mid rest later refusal new × (whole ≡ (printed stage.names x.order behind ++ text) ++ later)
behind_first stage old mid behind x lines rest text f whole refusal new front (follows {behind = there} {later = more} k run) =
    let same = follows_one stage old there behind x.order k f in
    let deep = front more (subst (λ (w : World). RunsTo stage w (lines ++ rest) more refusal new) same run) in
    let piece = printed stage.names x.order behind in
    let joined = ap (λ (w : World). printed stage.names x.order w ++ more) same ∙ (ap (λ (t : List ℕ). piece ++ t) deep.2 ∙ sym (append_assoc piece text deep.0)) in
    (deep.0, deep.1, joined)
behind_first stage old mid behind x lines rest text f whole refusal new front (refused {fault = fault} r) = absurd (follows_or stage old behind new x.order fault f r)

pub fronts_first : FrontsRunFirst
fronts_first stage old mid front rest text ends whole refusal new = (
  λ h. (whole, h, refl),
  λ h. subst (λ (t : List ℕ). RunsTo stage old rest t refusal new) (sym h.2) h.1,
)
fronts_first stage old mid front rest text (follows {behind = behind} {next = x} {lines = lines} {later = more} f run) whole refusal new = (
  behind_first stage old mid behind x lines rest more f whole refusal new (λ later. (fronts_first stage behind mid lines rest more run later refusal new).0),
  λ h.
      let joined = h.2 ∙ append_assoc (printed stage.names x.order behind) more h.0 in
      subst (λ (t : List ℕ). RunsTo stage old (x ∷ (lines ++ rest)) t refusal new) (sym joined) (follows f ((fronts_first stage behind mid lines rest more run (more ++ h.0) refusal new).1 (h.0, h.1, refl))),
)
