-- Why steps are refused: the tests of each step, in order.
use Rattle.std.specs.Prelude.{◌≡◌, ◌<◌, List, [], ◌∷◌, length, true, false, ◌⊎◌}
use Rattle.mk_graph.specs.Membership.{Has}
use Rattle.mk_graph.specs.Graph.{Graph, node}
use Rattle.mk_build.specs.Setting.{Setting, is_editable, reads, writes}
use Rattle.mk_build.specs.World.{World, Idle, Busy, last_stamp}
use Rattle.mk_graph.specs.Schedules.{HasAll, IsPart}
use Rattle.mk_build.specs.Steps.{Step, Edit, Make, Begin, Look, Put, End, Break, Pass, Stop, EndMake, Ready, MustRun, HasSeenAll, HasPutAll, HasPutWhatIsKnown, IsLeftToRun}
use Rattle.mk_world.specs.declared.fault.StepFault.{StepFault}
use Rattle.mk_world.specs.declared.fault.StepFault.TheVariants.{ClockSpent, OtherOutcome, NoMake, MakeRuns, NotReady, NoJobFree, OutOfDate, NotRunning, NotInFootprint, NotAllDone, NotEditable, NotAGoal, NotLeftToRun}

-- A condition, and the fault if it doesn't hold.
pub record Check : Type 1 where
  pub holds : Type 0
  pub fault : StepFault

infixl 20 ◌otherwise◌
-- A test: P must hold, otherwise the step has this fault.
abbrev pub ◌otherwise◌ : Type 0 → StepFault → Check
P otherwise fault = record { holds = P; fault = fault }

-- The tests of a step in a world, in order.
abbrev pub checks : Graph → Setting → World → Step → List Check
checks g s (Idle d) (Edit f c) =
    ((is_editable s f ≡ true) otherwise NotEditable) ∷
    ((d.clock < last_stamp) otherwise ClockSpent) ∷ []
checks g s (Busy m d) (Edit f c) = (⊥ otherwise MakeRuns) ∷ []
checks g s (Idle d) (Make jobs goals) =
    ((0 < jobs) otherwise NoJobFree) ∷ ((IsPart goals g.goals) otherwise NotAGoal) ∷ []
checks g s (Busy m d) (Make jobs goals) = (⊥ otherwise MakeRuns) ∷ []
checks g s (Busy m d) (Begin t) =
    ((Ready g m t × ((node g t).recipe ≡ true)) otherwise NotReady) ∷
    ((length m.running < m.jobs) otherwise NoJobFree) ∷ []
checks g s (Busy m d) (Look t f) =
    ((Has m.running t) otherwise NotRunning) ∷ ((Has (reads g s t) f) otherwise NotInFootprint) ∷ []
checks g s (Busy m d) (Put t f c) =
    ((Has m.running t) otherwise NotRunning) ∷ ((Has (writes g s t) f) otherwise NotInFootprint) ∷
    ((d.clock < last_stamp) otherwise ClockSpent) ∷ []
checks g s (Busy m d) (End t) =
    ((Has m.running t) otherwise NotRunning) ∷
    ((HasSeenAll g s m t × HasPutAll g s m t) otherwise NotAllDone) ∷
    ((HasPutWhatIsKnown g s m d t) otherwise OtherOutcome) ∷ []
checks g s (Busy m d) (Break t removed) =
    ((Has m.running t) otherwise NotRunning) ∷
    ((IsLeftToRun g s d t removed) otherwise NotLeftToRun) ∷ []
checks g s (Busy m d) (Pass n) =
    ((Ready g m n) otherwise NotReady) ∷
    ((((node g n).recipe ≡ false) ⊎ (¬ (MustRun g d n))) otherwise OutOfDate) ∷ []
checks g s (Busy m d) Stop = ((m.running ≡ []) otherwise NotAllDone) ∷ []
checks g s (Busy m d) EndMake =
    ((HasAll m.done m.goals × (m.running ≡ [])) otherwise NotAllDone) ∷ []
checks g s (Idle d) other = (⊥ otherwise NoMake) ∷ []

-- All tests hold.
abbrev pub AllHold : List Check → Type 0
AllHold [] = Unit {0}
AllHold (c ∷ cs) = c.holds × AllHold cs

-- The first test that doesn't hold has this fault.
abbrev pub FirstFails : List Check → StepFault → Type 0
FirstFails [] fault = ⊥
FirstFails (c ∷ cs) fault =
    ((¬ c.holds) × (fault ≡ c.fault)) ⊎ (c.holds × FirstFails cs fault)
