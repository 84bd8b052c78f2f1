-- The plan of a legal history runs to its end.
use Rattle.std.proofs.Common.{◌≡◌, ℕ, ◌+◌, ◌<◌, Bool, true, false, cond, not, List, [], ◌∷◌, ◌++◌, length, map, filter_map, Option, None, Some, Ok, Err, refl, sym, ap, ◌∙◌, subst, inl, inr}
use Rattle.std.specs.List.{list_all, enumerate_from, cons_option}
use Rattle.std.proofs.lemmas.Bool.{and_from, and_parts, true≢false}
use Rattle.mk_world.proofs.Fronts.{none_fails}
use Rattle.mk_graph.proofs.Parts.{Has-from_HasAll}
use Rattle.mk_graph.proofs.Nodes.{recipe_is_node}
use Rattle.mk_lines.proofs.NameTests.{Has-from_has_name}
use Rattle.mk_lines.specs.Names.{has_name}
use Rattle.mk_graph.specs.Membership.{Has, IsWithin}
use Rattle.mk_graph.specs.Graph.{Graph, IsGraph, node}
use Rattle.mk_graph.specs.Laws.{SerialReachesEachOnce}
use Rattle.mk_build.specs.BuildLaws.{NamesHaveOneNumber}
use Rattle.mk_graph.specs.ScheduleLaws.{CanStartStays}
use Rattle.mk_build.specs.Setting.{FileName, Setting}
use Rattle.mk_build.specs.World.{Disk, Making, World, Idle, Busy, IsOfWorld, disk_of}
use Rattle.mk_build.specs.Steps as model
use Rattle.mk_build.specs.Steps.{Allowed, IsLegal, after, after_all}
use Rattle.mk_world.specs.NamedStep.{Step, Edit, Make, Begin, Look, Put, End, Break, Pass, Stop, EndMake}
use Rattle.mk_world.specs.declared.plan.PlanCommand.{PlanCommand}
use Rattle.mk_world.specs.declared.plan.PlanCommand.TheVariants as order
use Rattle.mk_world.specs.declared.fault.StepFault.{StepFault}
use Rattle.mk_world.specs.declared.fault.StepFault.TheVariants.{Memory}
use Rattle.mk_world.specs.State.{number_of}
use Rattle.mk_world.specs.Steps.{step_of}
use Rattle.mk_world.specs.StepLaws.{AllowedWhereAllHolds}
use Rattle.mk_world.specs.Faults.{checks}
use Rattle.mk_world.specs.Running.{Follows, Stage, PassesBefore, IsRefusal, RunsTo, ends, follows, refused, TakesInTurn, takes, is_known, is_node, own_steps, printed}
use Rattle.mk_world_plan.specs.PlanText.{are_all_named, is_idle}
use Rattle.mk_world_plan.specs.PlanLaws.{HasARun, WrittenPlanRuns, is_idle_pass, named_goals, command_of_step, plan_line, run_step_of, without_idle_passes}
use Rattle.mk_world_plan.proofs.Numbers.{busy_is, idle_is, low_known}
use Rattle.mk_world_plan.proofs.Agreeing.{AgreesIn, wanted_low}
use Rattle.mk_world_plan.proofs.Passing.{HasGoalsOf, passed_before}
use Rattle.mk_world_plan.proofs.Following.{Agrees, GoesOn, at_rest, begin_goes, break_goes, edit_goes, end_goes, end_make_goes, goals_read, in_make, look_goes, make_goes, pass_goes, passed_agrees, put_goes, stop_goes}

-- the names of the world are known
abbrev AreKnown : Stage → Type 0
AreKnown stage = (f : FileName) → IsOfWorld stage.graph stage.setting f → has_name stage.names f ≡ true

-- The line of a step is followed.
record IsFollowed (stage : Stage) (past old : World) (step : Step) (o : PlanCommand) : Type 0 where
  known : is_known stage.graph stage.names o ≡ true
  own : (d : Disk) → own_steps stage.graph stage.setting d o ≡ run_step_of stage.graph step ∷ []
  goes : (behind : World) → PassesBefore stage.graph o old behind → GoesOn stage.graph stage.setting past old behind (step_of stage.graph step) (run_step_of stage.graph step)

-- a step without a line is taken in the history alone
record IsLeftOut (g : Graph) (s : Setting) (past old : World) (step : Step) : Type 0 where
  agrees : Agrees g (after g s past (step_of g step)) old
  not_counted : is_idle_pass g (run_step_of g step) ≡ true

abbrev IsDone : Stage → (past old : World) → Step → Option PlanCommand → Type 0
IsDone stage past old step None = IsLeftOut stage.graph stage.setting past old step
IsDone stage past old step (Some o) = IsFollowed stage past old step o

goals_known : (g : Graph) (names : List FileName) → IsGraph g → IsWithin (map (number_of g) names) g.goals → list_all (is_node g) names ≡ true
goals_known g [] is within = refl
goals_known g (f ∷ names) is within =
    and_from (is_node g f) (list_all (is_node g) names) (low_known g f (is.sound.goals (number_of g f) (within (number_of g f) (inl refl)))) (goals_known g names is (λ n h. within n (inr h)))

named_known : (g : Graph) (names : List FileName) → IsGraph g → IsWithin (map (number_of g) names) g.goals → list_all (is_node g) (named_goals g names) ≡ true
named_known g names is within = at (are_all_named g names)
  where
    at : (b : Bool) → list_all (is_node g) (cond b [] names) ≡ true
    at true = refl
    at false = goals_known g names is within

module _ (one : NamesHaveOneNumber) (stay : CanStartStays) (reaches : SerialReachesEachOnce) where
  ready_low : (g : Graph) (m k : Making) (n : ℕ) → IsGraph g → AgreesIn g m k → model.Ready g m n → n < length g.nodes
  ready_low g m k n is agrees ready = wanted_low g m.goals m.done is (λ i h. agrees.of_graph i (agrees.goals i h)) n ready.0.wanted

  runs_known : (g : Graph) (m k : Making) (t : FileName) → AgreesIn g m k → Has m.running (number_of g t) → is_node g t ≡ true
  runs_known g m k t agrees runs = low_known g t (recipe_is_node g (number_of g t) (agrees.recipes (number_of g t) runs))

  pass_done : (stage : Stage) (m k : Making) (d : Disk) (t : FileName) (b : Bool) → IsGraph stage.graph
      → AgreesIn stage.graph m k → Allowed stage.graph stage.setting (Busy m d)
      (model.Pass (number_of stage.graph t)) → is_idle stage.graph t ≡ b
      → IsDone stage (Busy m d) (Busy k d) (Pass t) (cond b None (Some (order.Pass t)))
  pass_done stage m k d t true is agrees allowed e =
      let low = ready_low stage.graph m k (number_of stage.graph t) is agrees allowed.0 in
      let off = idle_is one stage.graph t is low e in
      record { agrees = in_make (passed_agrees stage.graph m k (number_of stage.graph t) agrees allowed.0 off); not_counted = ap not off }
  pass_done stage m k d t false is agrees allowed e =
      let low = ready_low stage.graph m k (number_of stage.graph t) is agrees allowed.0 in
      let on = busy_is stage.graph t low e in
      record {
        known = low_known stage.graph t low;
        own = λ f. refl;
        goes = λ behind passes. pass_goes one stay reaches stage.graph stage.setting m k d behind (number_of stage.graph t) is agrees passes on allowed;
      }

  idle_done : (stage : Stage) (d : Disk) (step : Step) → IsGraph stage.graph → AreKnown stage → Allowed stage.graph stage.setting (Idle d) (step_of stage.graph step) → IsDone stage (Idle d) (Idle d) step (command_of_step stage.graph step)
  idle_done stage d (Edit f c) is known allowed = record {
    known = known f (inr (inl (Has-from_has_name stage.setting.sources f (and_parts (has_name stage.setting.sources f) _ allowed.0).0)));
    own = λ e. refl;
    goes = λ behind passes. subst (λ w. GoesOn stage.graph stage.setting (Idle d) (Idle d) w (model.Edit f c) (model.Edit f c)) (sym passes) (edit_goes stage.graph stage.setting d f c allowed);
  }
  idle_done stage d (Make jobs goals) is known allowed = record {
    known = named_known stage.graph goals is (Has-from_HasAll stage.graph.goals (map (number_of stage.graph) goals) allowed.1.within);
    own = λ e. ap (λ l. model.Make jobs l ∷ []) (goals_read stage.graph goals allowed.1.not_empty);
    goes = λ behind passes. subst (λ w. GoesOn stage.graph stage.setting (Idle d) (Idle d) w (step_of stage.graph (Make jobs goals)) (run_step_of stage.graph (Make jobs goals))) (sym passes) (make_goes one stage.graph stage.setting d jobs goals is allowed);
  }
  idle_done stage d (Begin t) is known allowed = absurd allowed
  idle_done stage d (Look t f) is known allowed = absurd allowed
  idle_done stage d (Put t f c) is known allowed = absurd allowed
  idle_done stage d (End t) is known allowed = absurd allowed
  idle_done stage d (Break t removed) is known allowed = absurd allowed
  idle_done stage d (Pass t) is known allowed = absurd allowed
  idle_done stage d Stop is known allowed = absurd allowed
  idle_done stage d EndMake is known allowed = absurd allowed

  busy_done : (stage : Stage) (m k : Making) (d : Disk) (step : Step) → IsGraph stage.graph → AreKnown stage → AgreesIn stage.graph m k → Allowed stage.graph stage.setting (Busy m d) (step_of stage.graph step) → IsDone stage (Busy m d) (Busy k d) step (command_of_step stage.graph step)
  busy_done stage m k d (Edit f c) is known agrees allowed = absurd allowed
  busy_done stage m k d (Make jobs goals) is known agrees allowed = absurd allowed
  busy_done stage m k d (Begin t) is known agrees allowed = record {
    known = low_known stage.graph t (recipe_is_node stage.graph (number_of stage.graph t) allowed.1);
    own = λ e. refl;
    goes = λ behind passes. begin_goes one stay reaches stage.graph stage.setting m k d behind (number_of stage.graph t) is agrees passes allowed;
  }
  busy_done stage m k d (Look t f) is known agrees allowed = record {
    known = and_from (is_node stage.graph t) (has_name stage.names f) (runs_known stage.graph m k t agrees allowed.0) (known f (inr (inr (number_of stage.graph t, inl allowed.1))));
    own = λ e. refl;
    goes = λ behind passes. subst (λ w. GoesOn stage.graph stage.setting (Busy m d) (Busy k d) w (model.Look (number_of stage.graph t) f) (model.Look (number_of stage.graph t) f)) (sym passes) (look_goes stage.graph stage.setting m k d (number_of stage.graph t) f agrees allowed);
  }
  busy_done stage m k d (Put t f c) is known agrees allowed = record {
    known = and_from (is_node stage.graph t) (has_name stage.names f) (runs_known stage.graph m k t agrees allowed.0) (known f (inr (inr (number_of stage.graph t, inr allowed.1))));
    own = λ e. refl;
    goes = λ behind passes. subst (λ w. GoesOn stage.graph stage.setting (Busy m d) (Busy k d) w (model.Put (number_of stage.graph t) f c) (model.Put (number_of stage.graph t) f c)) (sym passes) (put_goes stage.graph stage.setting m k d (number_of stage.graph t) f c agrees allowed);
  }
  busy_done stage m k d (End t) is known agrees allowed = record {
    known = runs_known stage.graph m k t agrees allowed.runs;
    own = λ e. refl;
    goes = λ behind passes. subst (λ w. GoesOn stage.graph stage.setting (Busy m d) (Busy k d) w (model.End (number_of stage.graph t)) (model.End (number_of stage.graph t))) (sym passes) (end_goes stage.graph stage.setting m k d (number_of stage.graph t) agrees allowed);
  }
  busy_done stage m k d (Break t removed) is known agrees allowed = record {
    known = runs_known stage.graph m k t agrees allowed.0;
    own = λ e. refl;
    goes = λ behind passes. subst (λ w. GoesOn stage.graph stage.setting (Busy m d) (Busy k d) w (model.Break (number_of stage.graph t) removed) (model.Break (number_of stage.graph t) removed)) (sym passes) (break_goes stage.graph stage.setting m k d (number_of stage.graph t) removed agrees allowed);
  }
  busy_done stage m k d (Pass t) is known agrees allowed = pass_done stage m k d t (is_idle stage.graph t) is agrees allowed refl
  busy_done stage m k d Stop is known agrees allowed = record {
    known = refl;
    own = λ e. refl;
    goes = λ behind passes. subst (λ w. GoesOn stage.graph stage.setting (Busy m d) (Busy k d) w model.Stop model.Stop) (sym passes) (stop_goes stage.graph stage.setting m k d agrees allowed);
  }
  busy_done stage m k d EndMake is known agrees allowed = record {
    known = refl;
    own = λ e. refl;
    goes = λ behind passes. end_make_goes one stay reaches stage.graph stage.setting m k d behind is agrees passes allowed;
  }

  step_done : (stage : Stage) (past old : World) (step : Step) → IsGraph stage.graph → AreKnown stage → Agrees stage.graph past old → Allowed stage.graph stage.setting past (step_of stage.graph step) → IsDone stage past old step (command_of_step stage.graph step)
  step_done stage past old step is known (at_rest {d = d}) allowed = idle_done stage d step is known allowed
  step_done stage past old step is known (in_make {m = m} {k = k} {d = d} agrees) allowed = busy_done stage m k d step is known agrees allowed

-- a step that is taken leaves the world after it
one_taken : (g : Graph) (s : Setting) (old new : World) (x : model.Step) → TakesInTurn g s old new (x ∷ []) (Ok tt) → new ≡ after g s old x
one_taken g s old new x (takes allowed ends) = refl

takes_one : (g : Graph) (s : Setting) (old new : World) (x : model.Step) (steps : List model.Step) → steps ≡ x ∷ [] → TakesInTurn g s old new steps (Ok tt) → new ≡ after g s old x
takes_one g s old new x steps is taken = one_taken g s old new x (subst (λ l. TakesInTurn g s old new l (Ok tt)) is taken)

module _ (holds : AllowedWhereAllHolds) where
  -- an allowed step isn't refused
  one_refused : (g : Graph) (s : Setting) (old new : World) (x : model.Step) (fault : StepFault) → Allowed g s old x → ¬ (fault ≡ Memory) → TakesInTurn g s old new (x ∷ []) (Err fault) → ⊥
  one_refused g s old new x fault allowed not (takes also more) = elim more [ ]
  one_refused g s old new x fault allowed not (refused (inl memory)) = not memory
  one_refused g s old new x fault allowed not (refused (inr fails)) = none_fails (checks g s old x) fault ((holds g s old x).0 allowed) fails

  not_refused : (g : Graph) (s : Setting) (old new : World) (x : model.Step) (steps : List model.Step) (fault : StepFault) → steps ≡ x ∷ [] → Allowed g s old x → ¬ (fault ≡ Memory) → TakesInTurn g s old new steps (Err fault) → ⊥
  not_refused g s old new x steps fault is allowed not taken = one_refused g s old new x fault allowed not (subst (λ l. TakesInTurn g s old new l (Err fault)) is taken)

  -- a line that can be followed isn't refused
  no_refusal : (stage : Stage) (past old new : World) (taken : Step) (o : PlanCommand) (fault : StepFault) → IsFollowed stage past old taken o → IsRefusal stage old new o fault → ⊥
  no_refusal stage past old new taken o fault followed (inl unknown) = true≢false (sym followed.known ∙ unknown.unknown)
  no_refusal stage past old new taken o fault followed (inr fails) =
      let goes = followed.goes fails.1.behind fails.1.passes in
      not_refused stage.graph stage.setting fails.1.behind new (run_step_of stage.graph taken) (own_steps stage.graph stage.setting (disk_of fails.1.behind) o) fault (followed.own (disk_of fails.1.behind)) goes.allowed fails.0 fails.1.takes

-- histories one behind the other

legal_append : (g : Graph) (s : Setting) (w : World) (xs ys : List model.Step) → IsLegal g s w xs → IsLegal g s (after_all g s w xs) ys → IsLegal g s w (xs ++ ys)
legal_append g s w [] ys h k = k
legal_append g s w (x ∷ xs) ys h k = (h.0, legal_append g s (after g s w x) xs ys h.1 k)

after_append : (g : Graph) (s : Setting) (w : World) (xs ys : List model.Step) → after_all g s w (xs ++ ys) ≡ after_all g s (after_all g s w xs) ys
after_append g s w [] ys = refl
after_append g s w (x ∷ xs) ys = after_append g s (after g s w x) xs ys

passes_left_out : (g : Graph) (ns : List ℕ) (steps : List model.Step) → ((n : ℕ) → Has ns n → (node g n).recipe ≡ false) → without_idle_passes g (map (λ n. model.Pass n) ns ++ steps) ≡ without_idle_passes g steps
passes_left_out g [] steps idle = refl
passes_left_out g (n ∷ ns) steps idle =
    ap (λ b. cond (not (not b)) (model.Pass n ∷ without_idle_passes g (map (λ i. model.Pass i) ns ++ steps)) (without_idle_passes g (map (λ i. model.Pass i) ns ++ steps))) (idle n (inl refl)) ∙ passes_left_out g ns steps (λ i h. idle i (inr h))

counted_first : (g : Graph) (y : model.Step) (steps : List model.Step) → is_idle_pass g y ≡ false → without_idle_passes g (y ∷ steps) ≡ y ∷ without_idle_passes g steps
counted_first g y steps e = ap (λ b. cond (not b) (y ∷ without_idle_passes g steps) (without_idle_passes g steps)) e

left_out_first : (g : Graph) (y : model.Step) (steps : List model.Step) → is_idle_pass g y ≡ true → without_idle_passes g (y ∷ steps) ≡ without_idle_passes g steps
left_out_first g y steps e = ap (λ b. cond (not b) (y ∷ without_idle_passes g steps) (without_idle_passes g steps)) e

-- The run went to its end and agrees with the history.
record WentOn (g : Graph) (s : Setting) (past old : World) (steps : List Step) (refusal : Option (ℕ × StepFault)) (new : World) : Type 0 where
  to_its_end : refusal ≡ None
  agrees : Agrees g (after_all g s past (map (step_of g) steps)) new
  taken : List model.Step
  legal : IsLegal g s old taken
  takes : new ≡ after_all g s old taken
  same : without_idle_passes g taken ≡ without_idle_passes g (map (run_step_of g) steps)

-- one line more
one_line : (g : Graph) (s : Setting) (past old behind : World) (step : Step) (steps : List Step)
    (refusal : Option (ℕ × StepFault)) (new : World) → GoesOn g s past old behind (step_of g step)
    (run_step_of g step) → WentOn g s (after g s past (step_of g step))
    (after g s behind (run_step_of g step)) steps refusal new → WentOn g s past old (step ∷ steps) refusal new
one_line g s past old behind step steps refusal new goes rest =
    let y = run_step_of g step in
    let passes = map (λ n. model.Pass n) goes.prepared.nodes in
    record {
      to_its_end = rest.to_its_end;
      agrees = rest.agrees;
      taken = passes ++ y ∷ rest.taken;
      legal = legal_append g s old passes (y ∷ rest.taken) goes.prepared.legal (subst (λ w. IsLegal g s w (y ∷ rest.taken)) goes.prepared.leads (goes.allowed, rest.legal));
      takes = rest.takes ∙ (ap (λ w. after_all g s w (y ∷ rest.taken)) goes.prepared.leads ∙ sym (after_append g s old passes (y ∷ rest.taken)));
      same = passes_left_out g goes.prepared.nodes (y ∷ rest.taken) goes.prepared.idle ∙ (counted_first g y rest.taken goes.counted ∙ (ap (λ l. y ∷ l) rest.same ∙ sym (counted_first g y (map (run_step_of g) steps) goes.counted)));
    }

no_line : (g : Graph) (s : Setting) (past old : World) (step : Step) (steps : List Step) (refusal : Option (ℕ × StepFault)) (new : World) → IsLeftOut g s past old step → WentOn g s (after g s past (step_of g step)) old steps refusal new → WentOn g s past old (step ∷ steps) refusal new
no_line g s past old step steps refusal new out rest = record {
  to_its_end = rest.to_its_end;
  agrees = rest.agrees;
  taken = rest.taken;
  legal = rest.legal;
  takes = rest.takes;
  same = rest.same ∙ sym (left_out_first g (run_step_of g step) (map (run_step_of g) steps) out.not_counted);
}

module _ (holds : AllowedWhereAllHolds) (one : NamesHaveOneNumber) (reaches : SerialReachesEachOnce) (stay : CanStartStays) where
  -- The run of the lines that are left, numbered on from n.
  abbrev RunsOn : Stage → List Step → Type 0
  RunsOn stage steps =
      (past old : World) (n : ℕ) (text : List ℕ) (refusal : Option (ℕ × StepFault)) (new : World)
      → Agrees stage.graph past old → IsLegal stage.graph stage.setting past
      (map (step_of stage.graph) steps) → RunsTo stage old
      (map plan_line (enumerate_from n (filter_map (command_of_step stage.graph) steps))) text refusal new
      → WentOn stage.graph stage.setting past old steps refusal new

  goes_on : (stage : Stage) (past old : World) (n : ℕ) (step : Step) (steps : List Step)
      (o : Option PlanCommand) (text : List ℕ) (refusal : Option (ℕ × StepFault)) (new : World)
      → IsDone stage past old step o → IsLegal stage.graph stage.setting
      (after stage.graph stage.setting past (step_of stage.graph step)) (map (step_of stage.graph) steps)
      → RunsOn stage steps → RunsTo stage old (map plan_line
      (enumerate_from n (cons_option o (filter_map (command_of_step stage.graph) steps)))) text refusal new
      → WentOn stage.graph stage.setting past old (step ∷ steps) refusal new
  goes_on stage past old n step steps None text refusal new done legal rest run =
      no_line stage.graph stage.setting past old step steps refusal new done (rest (after stage.graph stage.setting past (step_of stage.graph step)) old n text refusal new done.agrees legal run)
  goes_on stage past old n step steps (Some o) text refusal new done legal rest (refused {fault = fault} stopped) = absurd (no_refusal holds stage past old new step o fault done stopped)
  goes_on stage past old n step steps (Some o) text refusal new done legal rest (follows {behind = there} {later = later} line run) =
      let goes = done.goes line.behind line.passes in
      let is = takes_one stage.graph stage.setting line.behind there (run_step_of stage.graph step) (own_steps stage.graph stage.setting (disk_of line.behind) o) (done.own (disk_of line.behind)) line.takes in
      let moved = subst (λ w. RunsTo stage w (map plan_line (enumerate_from (n + 1) (filter_map (command_of_step stage.graph) steps))) later refusal new) is run in
      one_line stage.graph stage.setting past old line.behind step steps refusal new goes (rest (after stage.graph stage.setting past (step_of stage.graph step)) (after stage.graph stage.setting line.behind (run_step_of stage.graph step)) (n + 1) later refusal new goes.agrees legal moved)

  runs_on : (stage : Stage) (steps : List Step) → IsGraph stage.graph → AreKnown stage → RunsOn stage steps
  runs_on stage [] is known past old n text refusal new agrees legal ends = record {
    to_its_end = refl;
    agrees = agrees;
    taken = [];
    legal = tt;
    takes = refl;
    same = refl;
  }
  runs_on stage (step ∷ steps) is known past old n text refusal new agrees legal run =
      goes_on stage past old n step steps (command_of_step stage.graph step) text refusal new (step_done one stay reaches stage past old step is known agrees legal.0) legal.1 (runs_on stage steps is known) run

  same_disk : (g : Graph) (past old : World) → Agrees g past old → disk_of old ≡ disk_of past
  same_disk g past old at_rest = refl
  same_disk g past old (in_make agrees) = refl

  goals_of : (g : Graph) (past old : World) → Agrees g past old → HasGoalsOf g old
  goals_of g past old at_rest = tt
  goals_of g past old (in_make agrees) = agrees.of_graph

  -- The lines that are left have a run to their end.
  abbrev HasRunOn : Stage → List Step → Type 0
  HasRunOn stage steps =
      (past old : World) (n : ℕ) → Agrees stage.graph past old → IsLegal stage.graph stage.setting past (map (step_of stage.graph) steps) → HasARun stage old (map plan_line (enumerate_from n (filter_map (command_of_step stage.graph) steps)))

  line_runs : (stage : Stage) (past old : World) (n : ℕ) (step : Step) (steps : List Step)
      (o : Option PlanCommand) → IsGraph stage.graph → HasGoalsOf stage.graph old
      → IsDone stage past old step o → IsLegal stage.graph stage.setting
      (after stage.graph stage.setting past (step_of stage.graph step)) (map (step_of stage.graph) steps)
      → HasRunOn stage steps → HasARun stage old (map plan_line
      (enumerate_from n (cons_option o (filter_map (command_of_step stage.graph) steps))))
  line_runs stage past old n step steps None is of done legal rest = rest (after stage.graph stage.setting past (step_of stage.graph step)) old n done.agrees legal
  line_runs stage past old n step steps (Some o) is of done legal rest =
      let before = passed_before stage.graph o old is of in
      let goes = done.goes before.0 before.1 in
      let behind = after stage.graph stage.setting before.0 (run_step_of stage.graph step) in
      let later = rest (after stage.graph stage.setting past (step_of stage.graph step)) behind (n + 1) goes.agrees legal in
      let taken = subst (λ l. TakesInTurn stage.graph stage.setting before.0 behind l (Ok tt)) (sym (done.own (disk_of before.0))) (takes goes.allowed ends) in
      let line : Follows stage old behind o (Ok tt) = record { known = done.known; behind = before.0; passes = before.1; takes = taken } in
      (printed stage.names o behind ++ later.0, later.1, follows line later.2)

  has_run : (stage : Stage) (steps : List Step) → IsGraph stage.graph → AreKnown stage → HasRunOn stage steps
  has_run stage [] is known past old n agrees legal = ([], old, ends)
  has_run stage (step ∷ steps) is known past old n agrees legal =
      line_runs stage past old n step steps (command_of_step stage.graph step) is (goals_of stage.graph past old agrees) (step_done one stay reaches stage past old step is known agrees legal.0) legal.1 (has_run stage steps is known)

  pub plan_runs : WrittenPlanRuns
  plan_runs stage d steps history = (
    has_run stage steps history.graph history.known (Idle d) (Idle d) 1 at_rest history.legal,
    λ text refusal new run.
        let went = runs_on stage steps history.graph history.known (Idle d) (Idle d) 1 text refusal new at_rest history.legal run in
        record {
          to_its_end = went.to_its_end;
          leaves = same_disk stage.graph _ new went.agrees;
          taken = went.taken;
          legal = went.legal;
          takes = went.takes;
          same = went.same;
        },
  )
