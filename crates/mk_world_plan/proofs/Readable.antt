-- Legal histories speak of names of the world alone.
use Rattle.std.proofs.Common.{◌≡◌, ℕ, ◌<◌, true, not, List, [], ◌∷◌, length, map, nat_eq, refl, sym, ap, subst, inl, inr, arith}
use Rattle.std.proofs.lemmas.Bool.{and_parts}
use Rattle.mk_lemmas.proofs.Members.{Has-from_filter}
use Rattle.mk_graph.proofs.Parts.{Has-from_HasAll}
use Rattle.mk_graph.proofs.Nodes.{recipe_is_node}
use Rattle.mk_lines.proofs.NameTests.{Has-from_has_name}
use Rattle.mk_lines.specs.Names.{has_name}
use Rattle.mk_graph.specs.Membership.{Has, IsWithin}
use Rattle.mk_graph.specs.Graph.{Graph, IsGraph, node}
use Rattle.mk_build.specs.Setting.{FileName, Setting}
use Rattle.mk_build.specs.World.{Disk, Making, World, Idle, Busy, IsOfWorld}
use Rattle.mk_build.specs.Steps as model
use Rattle.mk_build.specs.Steps.{Allowed, IsLegal, after}
use Rattle.mk_world.specs.NamedStep.{Step, Edit, Make, Begin, Look, Put, End, Break, Pass, Stop, EndMake}
use Rattle.mk_world.specs.State.{number_of, setting, world_in, world_of}
use Rattle.mk_world.specs.State as lists
use Rattle.mk_world.specs.Steps.{step_of}
use Rattle.mk_world.specs.Running.{stage_of}
use Rattle.mk_world_plan.specs.Spelling.{IsWellSpelled, PlainPathsAreWellSpelled}
use Rattle.mk_world_plan.specs.PlanLaws.{EachRunIsAsWritten, HasARun, IsHistory, HasReadableNumbers, IsReadable, LegalStepsAreReadable, WrittenHistoryRuns, WrittenPlanRuns, WrittenTextIsRead, plan_of_steps}
use Rattle.mk_world_plan.proofs.Numbers.{low_number}
use Rattle.mk_world_plan.proofs.Agreeing.{wanted_low}

-- the make's goals are of the graph, and what runs are recipes
abbrev IsOfGraph : Graph → World → Type 0
IsOfGraph g (Idle d) = Unit {0}
IsOfGraph g (Busy m d) = IsWithin m.goals g.goals × ((t : ℕ) → Has m.running t → (node g t).recipe ≡ true)

-- a step leaves it so
stays : (g : Graph) (s : Setting) (w : World) (x : model.Step) → IsOfGraph g w → Allowed g s w x → IsOfGraph g (after g s w x)
stays g s (Idle d) (model.Edit f c) of a = tt
stays g s (Idle d) (model.Make jobs goals) of a = (Has-from_HasAll g.goals goals a.1.within, λ t h. absurd h)
stays g s (Idle d) (model.Begin t) of a = absurd a
stays g s (Idle d) (model.Look t f) of a = absurd a
stays g s (Idle d) (model.Put t f c) of a = absurd a
stays g s (Idle d) (model.End t) of a = absurd a
stays g s (Idle d) (model.Break t removed) of a = absurd a
stays g s (Idle d) (model.Pass n) of a = absurd a
stays g s (Idle d) model.Stop of a = absurd a
stays g s (Idle d) model.EndMake of a = absurd a
stays g s (Busy m d) (model.Edit f c) of a = absurd a
stays g s (Busy m d) (model.Make jobs goals) of a = absurd a
stays g s (Busy m d) (model.Begin t) of a = (of.0, λ n h. elim h [ inl e ↦ subst (λ i. (node g i).recipe ≡ true) e a.1 | inr r ↦ of.1 n r ])
stays g s (Busy m d) (model.Look t f) of a = of
stays g s (Busy m d) (model.Put t f c) of a = of
stays g s (Busy m d) (model.End t) of a = (of.0, λ n h. of.1 n ((Has-from_filter (λ r. not (nat_eq t r)) m.running n h).0))
stays g s (Busy m d) (model.Break t removed) of a = (of.0, λ n h. of.1 n ((Has-from_filter (λ r. not (nat_eq t r)) m.running n h).0))
stays g s (Busy m d) (model.Pass t) of a = (of.0, λ n h. of.1 n ((Has-from_filter (λ r. not (nat_eq t r)) m.running n h).0))
stays g s (Busy m d) model.Stop of a = tt
stays g s (Busy m d) model.EndMake of a = tt

module _ (g : Graph) (s : Setting) (is : IsGraph g) (spelled : (f : FileName) → IsOfWorld g s f → IsWellSpelled f) where
  node_spelled : (t : FileName) → number_of g t < length g.nodes → IsWellSpelled t
  node_spelled t low = spelled t (inl (number_of g t, low_number g t low))

  runs_spelled : (m : Making) (d : Disk) (t : FileName) → IsOfGraph g (Busy m d) → Has m.running (number_of g t) → IsWellSpelled t
  runs_spelled m d t of runs = node_spelled t (recipe_is_node g (number_of g t) (of.1 (number_of g t) runs))

  goals_spelled : (goals : List FileName) → IsWithin (map (number_of g) goals) g.goals → (f : FileName) → Has goals f → IsWellSpelled f
  goals_spelled [] within f h = absurd h
  goals_spelled (goal ∷ goals) within f (inl e) = subst IsWellSpelled e (node_spelled goal (is.sound.goals (number_of g goal) (within (number_of g goal) (inl refl))))
  goals_spelled (goal ∷ goals) within f (inr r) = goals_spelled goals (λ n k. within n (inr k)) f r

  -- an allowed step can be read
  one_readable : (w : World) (step : Step) → IsOfGraph g w → Allowed g s w (step_of g step) → HasReadableNumbers step → IsReadable step
  one_readable (Idle d) (Edit f c) of a small = (spelled f (inr (inl (Has-from_has_name s.sources f (and_parts (has_name s.sources f) _ a.0).0))), small)
  one_readable (Idle d) (Make jobs goals) of a small = (omega (arith, a.0), small, goals_spelled goals (Has-from_HasAll g.goals (map (number_of g) goals) a.1.within))
  one_readable (Idle d) (Begin t) of a small = absurd a
  one_readable (Idle d) (Look t f) of a small = absurd a
  one_readable (Idle d) (Put t f c) of a small = absurd a
  one_readable (Idle d) (End t) of a small = absurd a
  one_readable (Idle d) (Break t removed) of a small = absurd a
  one_readable (Idle d) (Pass t) of a small = absurd a
  one_readable (Idle d) Stop of a small = absurd a
  one_readable (Idle d) EndMake of a small = absurd a
  one_readable (Busy m d) (Edit f c) of a small = absurd a
  one_readable (Busy m d) (Make jobs goals) of a small = absurd a
  one_readable (Busy m d) (Begin t) of a small = node_spelled t (recipe_is_node g (number_of g t) a.1)
  one_readable (Busy m d) (Look t f) of a small = (runs_spelled m d t of a.0, spelled f (inr (inr (number_of g t, inl a.1))))
  one_readable (Busy m d) (Put t f c) of a small = (runs_spelled m d t of a.0, spelled f (inr (inr (number_of g t, inr a.1))), small)
  one_readable (Busy m d) (End t) of a small = runs_spelled m d t of a.runs
  one_readable (Busy m d) (Break t removed) of a small = runs_spelled m d t of a.0
  one_readable (Busy m d) (Pass t) of a small = node_spelled t (wanted_low g m.goals m.done is of.0 (number_of g t) a.0.0.wanted)
  one_readable (Busy m d) Stop of a small = tt
  one_readable (Busy m d) EndMake of a small = tt

  all_readable : (w : World) (steps : List Step) → IsOfGraph g w → IsLegal g s w (map (step_of g) steps) → (one : Step) → Has steps one → HasReadableNumbers one → IsReadable one
  all_readable w [] of legal one h small = absurd h
  all_readable w (x ∷ steps) of legal one h small = elim h [
    | inl e ↦ subst IsReadable e (one_readable w x of legal.0 (subst HasReadableNumbers (sym e) small))
    | inr r ↦ all_readable (after g s w (step_of g x)) steps (stays g s w (step_of g x) of legal.0) legal.1 one r small
  ]

pub steps_readable : LegalStepsAreReadable
steps_readable g s d steps is spelled legal step h small = all_readable g s is spelled (Idle d) steps tt legal step h small

pub history_runs : WrittenTextIsRead → PlainPathsAreWellSpelled → LegalStepsAreReadable → WrittenPlanRuns → WrittenHistoryRuns
history_runs read plain readable runs w steps first is can =
    let g = w.scene.graph in
    let s = setting w.scene in
    let start = Idle (lists.disk_of w.disk) in
    let rest : world_of w ≡ start = ap (world_in w.scene w.disk) first.idle in
    let known : (f : FileName) → IsOfWorld g s f → has_name w.disk.names f ≡ true = λ f h. (first.names.all f).1 h in
    let from : IsLegal g s start (map (step_of g) steps) = subst (λ (v : World). IsLegal g s v (map (step_of g) steps)) rest can.legal in
    let each = readable g s (lists.disk_of w.disk) steps is (λ f h. plain f (can.paths f (known f h))) from in
    let history : IsHistory (stage_of w) (lists.disk_of w.disk) steps = record { graph = is; known = known; legal = from } in
    let run = runs (stage_of w) (lists.disk_of w.disk) steps history in (
      plan_of_steps g steps,
      read g steps (λ step h. each step h (can.numbers step h)) can.few,
      subst (λ (v : World). HasARun (stage_of w) v (plan_of_steps g steps)) (sym rest) run.0,
      subst (λ (v : World). EachRunIsAsWritten (stage_of w) v steps (plan_of_steps g steps)) (sym rest) run.1,
    )
