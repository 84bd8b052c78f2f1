-- There is one run of a plan.
use Rattle.std.proofs.Common.{◌≡◌, ℕ, List, [], ◌∷◌, ◌++◌, Some, Err, refl, sym, ap, ◌∙◌, subst, inl, inr}
use Rattle.std.proofs.lemmas.Bool.{false≢true}
use Rattle.mk_graph.specs.Graph.{Graph}
use Rattle.mk_build.specs.Setting.{Setting}
use Rattle.mk_build.specs.World.{World, disk_of}
use Rattle.mk_build.specs.Steps as model
use Rattle.mk_world.specs.declared.fault.StepFault.{StepFault}
use Rattle.mk_world.specs.declared.fault.StepFault.TheVariants as faults
use Rattle.mk_world.specs.declared.plan.PlanCommand.{PlanCommand}
use Rattle.mk_world.specs.Faults.{Check, checks, FirstFails}
use Rattle.mk_world.specs.Steps.{IsFaultOf}
use Rattle.mk_world.specs.Running.{Stage, TakesInTurn, takes, IsRefusal, RunsTo, ends, follows, refused, own_steps, printed}
use Rattle.mk_world.specs.OneRun.{RunIsOne}
use Rattle.mk_world.proofs.Fronts.{before_one, follows_one, follows_or, not_refused}

-- the first test that fails has one fault
fault_one : (cs : List Check) (a b : StepFault) → FirstFails cs a → FirstFails cs b → a ≡ b
fault_one [] a b h j = absurd h
fault_one (c ∷ cs) a b h j = elim h [
  | inl f ↦ elim j [ inl k ↦ f.1 ∙ sym k.1 | inr later ↦ absurd (f.0 later.0) ]
  | inr later ↦ elim j [ inl k ↦ absurd (k.0 later.0) | inr more ↦ fault_one cs a b later.1 more.1 ]
]

-- which isn't out of memory
tested : (g : Graph) (s : Setting) (w : World) (one : model.Step) (fault : StepFault) → ¬ (fault ≡ faults.Memory) → IsFaultOf g s w one fault → FirstFails (checks g s w one) fault
tested g s w one fault not (inl memory) = absurd (not memory)
tested g s w one fault not (inr fails) = fails

-- steps in turn are refused with one fault, and leave one world
takes_one : (g : Graph) (s : Setting) (old new other : World) (steps : List model.Step) (a b : StepFault) → ¬ (a ≡ faults.Memory) → ¬ (b ≡ faults.Memory) → TakesInTurn g s old new steps (Err a) → TakesInTurn g s old other steps (Err b) → (a ≡ b) × (new ≡ other)
takes_one g s old new other steps a b not nor (takes {next = x} {steps = rest} allowed more) (takes also others) = takes_one g s (model.after g s old x) new other rest a b not nor more others
takes_one g s old new other steps a b not nor (takes {next = x} allowed more) (refused q) = absurd (not_refused g s old x b allowed (tested g s old x b nor q))
takes_one g s old new other steps a b not nor (refused {next = x} r) (takes allowed more) = absurd (not_refused g s old x a allowed (tested g s old x a not r))
takes_one g s old new other steps a b not nor (refused {next = x} r) (refused q) = (fault_one (checks g s old x) a b (tested g s old x a not r) (tested g s old x b nor q), refl)

-- so has a line
refusal_one : (stage : Stage) (old new other : World) (order : PlanCommand) (a b : StepFault) → IsRefusal stage old new order a → IsRefusal stage old other order b → (a ≡ b) × (new ≡ other)
refusal_one stage old new other order a b h j = elim h [
  | inl m ↦ elim j [
    | inl k ↦ (m.is ∙ sym k.is, m.unchanged ∙ sym k.unchanged)
    | inr f ↦ absurd (false≢true (sym m.unknown ∙ f.1.known))
  ]
  | inr f ↦ elim j [
    | inl k ↦ absurd (false≢true (sym k.unknown ∙ f.1.known))
    | inr e ↦
        let same = before_one stage.graph order old e.1.behind f.1.behind e.1.passes f.1.passes in
        let moved = subst (λ (w : World). TakesInTurn stage.graph stage.setting w other (own_steps stage.graph stage.setting (disk_of w) order) (Err b)) same e.1.takes in
        takes_one stage.graph stage.setting f.1.behind new other (own_steps stage.graph stage.setting (disk_of f.1.behind) order) a b f.0 e.0 f.1.takes moved
  ]
]

pub run_one : RunIsOne
run_one stage old lines text also refusal again new other ends ends = (refl, refl, refl)
run_one stage old lines text also refusal again new other (follows {behind = behind} {next = x} {lines = rest} {later = later} f run) (follows {behind = there} {later = more} k other_run) =
    let same = follows_one stage old there behind x.order k f in
    let moved = subst (λ (w : World). RunsTo stage w rest more again other) same other_run in
    let one = run_one stage behind rest later more refusal again new other run moved in
    (ap (λ (t : List ℕ). printed stage.names x.order behind ++ t) one.0 ∙ ap (λ (w : World). printed stage.names x.order w ++ more) (sym same), one.1, one.2)
run_one stage old lines text also refusal again new other (follows {behind = behind} {next = x} f run) (refused {fault = fault} r) = absurd (follows_or stage old behind other x.order fault f r)
run_one stage old lines text also refusal again new other (refused {next = x} {fault = fault} r) (follows {behind = behind} f run) = absurd (follows_or stage old behind new x.order fault f r)
run_one stage old lines text also refusal again new other (refused {next = x} {fault = a} r) (refused {fault = b} q) =
    let same = refusal_one stage old new other x.order a b r q in
    (refl, ap (λ (e : StepFault). Some (x.number, e)) same.0, same.1)
