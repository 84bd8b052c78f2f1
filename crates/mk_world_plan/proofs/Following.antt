-- Steps of a history and the lines of a run that follow them.
use Rattle.std.proofs.Common.{◌≡◌, ℕ, ◌<◌, Bool, true, false, cond, not, List, [], ◌∷◌, length, map, filter, nat_eq, Option, None, Some, unwrap_or, refl, sym, ap, ◌∙◌, subst, inl, inr, ap₂}
use Rattle.std.specs.Prelude.{IfSome}
use Rattle.std.specs.Option.{option_flatten}
use Rattle.mk_lemmas.proofs.Members.{Has-from_filter}
use Rattle.mk_world.proofs.Idle.{first_is_idle}
use Rattle.mk_graph.proofs.Parts.{Has-from_HasAll, HasAll-from_Has}
use Rattle.mk_graph.specs.Membership.{Has, IsWithin}
use Rattle.mk_graph.specs.Graph.{Graph, IsGraph, node}
use Rattle.mk_graph.specs.Serial.{serial_order}
use Rattle.mk_graph.specs.Laws.{SerialReachesEachOnce}
use Rattle.mk_build.specs.BuildLaws.{NamesHaveOneNumber}
use Rattle.mk_graph.specs.ScheduleLaws.{CanStartStays}
use Rattle.mk_build.specs.Setting.{FileName, Setting, reads, writes}
use Rattle.mk_graph.specs.Schedules.{IsPart}
use Rattle.mk_build.specs.World.{Disk, Making, World, Idle, Busy, changed, content, outcome}
use Rattle.mk_build.specs.Steps as model
use Rattle.mk_build.specs.Steps.{Allowed, IsLegal, after, after_all, begun, broken_off, finished, has_put, looked, make_of, noted, put_by, seen_by}
use Rattle.mk_world.specs.State.{number_of}
use Rattle.mk_world.specs.Running.{Passes, PassesAll, goals_among}
use Rattle.mk_world_plan.specs.PlanText.{are_all_named}
use Rattle.mk_world_plan.specs.PlanLaws.{is_idle_pass, named_goals, run_goals}
use Rattle.mk_world_plan.proofs.Numbers.{all_named}
use Rattle.mk_world_plan.proofs.Agreeing.{AgreesIn, all_done, changed_beside, changed_same, nothing_out, on_off, passes_agree, ready_too}

-- The world of a run agrees with that of the history.
pub data Agrees (g : Graph) : World → World → Type 0 where
  at_rest : {d : Disk} → Agrees g (Idle d) (Idle d)
  in_make : {m k : Making} {d : Disk} → AgreesIn g m k → Agrees g (Busy m d) (Busy k d)

-- Nodes without recipe are passed on the way.
pub record Prepared (g : Graph) (s : Setting) (old behind : World) : Type 0 where
  pub nodes : List ℕ
  pub idle : (n : ℕ) → Has nodes n → (node g n).recipe ≡ false
  pub legal : IsLegal g s old (map (λ n. model.Pass n) nodes)
  pub leads : behind ≡ after_all g s old (map (λ n. model.Pass n) nodes)

-- Behind these passes the run takes a step, and agrees with the history behind its own.
pub record GoesOn (g : Graph) (s : Setting) (past old behind : World) (x y : model.Step) : Type 0 where
  pub prepared : Prepared g s old behind
  pub allowed : Allowed g s behind y
  pub agrees : Agrees g (after g s past x) (after g s behind y)
  pub counted : is_idle_pass g y ≡ false

not_prepared : (g : Graph) (s : Setting) (w : World) → Prepared g s w w
not_prepared g s w = record { nodes = []; idle = λ n h. absurd h; legal = tt; leads = refl }

-- what passing all idle nodes leaves
record Passed (g : Graph) (s : Setting) (m k : Making) (d : Disk) (behind : World) : Type 0 where
  end : Making
  is : behind ≡ Busy end d
  agrees : AgreesIn g m end
  within : IsWithin m.done end.done
  prepared : Prepared g s (Busy k d) (Busy end d)

passes_idle : (g : Graph) (k : Making) (ns : List ℕ) (end : Making) → Passes g k ns end → (n : ℕ) → Has ns n → (node g n).recipe ≡ false
passes_idle g k [] end h n there = absurd there
passes_idle g k (x ∷ ns) end h n (inl e) = subst (λ i. (node g i).recipe ≡ false) e (first_is_idle g k (serial_order g) x h.0).1
passes_idle g k (x ∷ ns) end h n (inr r) = passes_idle g (finished k x) ns end h.1 n r

passes_legal : (g : Graph) (s : Setting) (d : Disk) (k : Making) (ns : List ℕ) (end : Making) → Passes g k ns end → IsLegal g s (Busy k d) (map (λ n. model.Pass n) ns)
passes_legal g s d k [] end h = tt
passes_legal g s d k (n ∷ ns) end h =
    let first = first_is_idle g k (serial_order g) n h.0 in
    ((first.0, inl first.1), passes_legal g s d (finished k n) ns end h.1)

passes_leave : (g : Graph) (s : Setting) (d : Disk) (k : Making) (ns : List ℕ) (end : Making) → Passes g k ns end → Busy end d ≡ after_all g s (Busy k d) (map (λ n. model.Pass n) ns)
passes_leave g s d k [] end h = ap (λ (j : Making). Busy j d) h
passes_leave g s d k (n ∷ ns) end h = passes_leave g s d (finished k n) ns end h.1

-- makes

made : (g : Graph) (jobs : ℕ) (xs ys : List ℕ) → IsWithin xs ys → IsWithin ys xs → IsWithin ys g.goals → AgreesIn g (make_of jobs xs) (make_of jobs ys)
made g jobs xs ys some no_more of_graph = record {
  jobs = refl;
  goals = some;
  no_more_goals = no_more;
  of_graph = of_graph;
  running = refl;
  broken = refl;
  recipes = λ t h. absurd h;
  broken_recipes = λ t h. absurd h;
  seen = λ t h. absurd h;
  put = λ t h. absurd h;
  done = λ t on h. h;
  no_more_done = λ t on h. h;
  in_turn = tt;
}

some_goals : (xs all : List ℕ) → IsPart xs all → ¬ (all ≡ [])
some_goals [] all part none = part.not_empty refl
some_goals (x ∷ xs) all part none = subst (λ l. Has l x) none part.within.0

-- the goals that are read of a line are those that the run takes
pub goals_read : (g : Graph) (names : List FileName) → ¬ (map (number_of g) names ≡ []) → goals_among g (named_goals g names) ≡ run_goals g names
goals_read g names some = at (are_all_named g names) names some
  where
    at : (b : Bool) (fs : List FileName) → ¬ (map (number_of g) fs ≡ []) → goals_among g (cond b [] fs) ≡ cond b g.goals (map (number_of g) fs)
    at true fs some = refl
    at false [] some = absurd (some refl)
    at false (f ∷ fs) some = refl

pub make_goes : (one : NamesHaveOneNumber) (g : Graph) (s : Setting) (d : Disk) (jobs : ℕ)
    (names : List FileName) → IsGraph g → Allowed g s (Idle d) (model.Make jobs (map (number_of g) names))
    → GoesOn g s (Idle d) (Idle d) (Idle d) (model.Make jobs (map (number_of g) names))
    (model.Make jobs (run_goals g names))
make_goes one g s d jobs names is allowed = at (are_all_named g names) refl
  where
    within : IsWithin (map (number_of g) names) g.goals
    within = Has-from_HasAll g.goals (map (number_of g) names) allowed.1.within

    at : (b : Bool) → are_all_named g names ≡ b → GoesOn g s (Idle d) (Idle d) (Idle d) (model.Make jobs (map (number_of g) names)) (model.Make jobs (cond b g.goals (map (number_of g) names)))
    at true e = record {
      prepared = not_prepared g s (Idle d);
      allowed = (allowed.0, record { not_empty = some_goals (map (number_of g) names) g.goals allowed.1; within = HasAll-from_Has g.goals g.goals (λ n h. h) });
      agrees = in_make (made g jobs (map (number_of g) names) g.goals within (λ n h. all_named one g names n is e h) (λ n h. h));
      counted = refl;
    }
    at false e = record {
      prepared = not_prepared g s (Idle d);
      allowed = allowed;
      agrees = in_make (made g jobs (map (number_of g) names) (map (number_of g) names) (λ n h. h) (λ n h. h) within);
      counted = refl;
    }

pub edit_goes : (g : Graph) (s : Setting) (d : Disk) (f : FileName) (c : ℕ) → Allowed g s (Idle d) (model.Edit f c) → GoesOn g s (Idle d) (Idle d) (Idle d) (model.Edit f c) (model.Edit f c)
edit_goes g s d f c allowed = record { prepared = not_prepared g s (Idle d); allowed = allowed; agrees = at_rest; counted = refl }

-- recipes

begun_agrees : (g : Graph) (m k : Making) (n : ℕ) → AgreesIn g m k → (node g n).recipe ≡ true → AgreesIn g (begun m n) (begun k n)
begun_agrees g m k n agrees on = record {
  jobs = agrees.jobs;
  goals = agrees.goals;
  no_more_goals = agrees.no_more_goals;
  of_graph = agrees.of_graph;
  running = ap (λ l. n ∷ l) agrees.running;
  broken = agrees.broken;
  recipes = λ t h. elim h [ inl e ↦ subst (λ i. (node g i).recipe ≡ true) e on | inr r ↦ agrees.recipes t r ];
  broken_recipes = agrees.broken_recipes;
  seen = λ t h. changed_same k.seen m.seen n (λ f. None) (λ f. None) t refl (λ apart. elim h [ inl e ↦ absurd (apart e) | inr r ↦ agrees.seen t r ]);
  put = λ t h. changed_same k.put m.put n (λ f. None) (λ f. None) t refl (λ apart. elim h [ inl e ↦ absurd (apart e) | inr r ↦ agrees.put t r ]);
  done = agrees.done;
  no_more_done = agrees.no_more_done;
  in_turn = agrees.in_turn;
}

looked_agrees : (g : Graph) (m k : Making) (n : ℕ) (f : FileName) (c : Option ℕ) → AgreesIn g m k → Has m.running n → AgreesIn g (looked m n f c) (looked k n f c)
looked_agrees g m k n f c agrees runs = record {
  jobs = agrees.jobs;
  goals = agrees.goals;
  no_more_goals = agrees.no_more_goals;
  of_graph = agrees.of_graph;
  running = agrees.running;
  broken = agrees.broken;
  recipes = agrees.recipes;
  broken_recipes = agrees.broken_recipes;
  seen = λ t h. changed_same k.seen m.seen n (changed (k.seen n) f (Some c)) (changed (m.seen n) f (Some c)) t (ap (λ at. changed at f (Some c)) (agrees.seen n runs)) (λ apart. agrees.seen t h);
  put = agrees.put;
  done = agrees.done;
  no_more_done = agrees.no_more_done;
  in_turn = agrees.in_turn;
}

put_agrees : (g : Graph) (m k : Making) (n : ℕ) (f : FileName) (c : ℕ) → AgreesIn g m k → Has m.running n → AgreesIn g (has_put m n f c) (has_put k n f c)
put_agrees g m k n f c agrees runs = record {
  jobs = agrees.jobs;
  goals = agrees.goals;
  no_more_goals = agrees.no_more_goals;
  of_graph = agrees.of_graph;
  running = agrees.running;
  broken = agrees.broken;
  recipes = agrees.recipes;
  broken_recipes = agrees.broken_recipes;
  seen = agrees.seen;
  put = λ t h. changed_same k.put m.put n (changed (k.put n) f (Some c)) (changed (m.put n) f (Some c)) t (ap (λ at. changed at f (Some c)) (agrees.put n runs)) (λ apart. agrees.put t h);
  done = agrees.done;
  no_more_done = agrees.no_more_done;
  in_turn = agrees.in_turn;
}

-- a node with a recipe is done in both
finished_agrees : (g : Graph) (m k : Making) (n : ℕ) → AgreesIn g m k → (node g n).recipe ≡ true → AgreesIn g (finished m n) (finished k n)
finished_agrees g m k n agrees on = record {
  jobs = agrees.jobs;
  goals = agrees.goals;
  no_more_goals = agrees.no_more_goals;
  of_graph = agrees.of_graph;
  running = ap (filter (λ r. not (nat_eq n r))) agrees.running;
  broken = agrees.broken;
  recipes = λ t h. agrees.recipes t ((Has-from_filter (λ r. not (nat_eq n r)) m.running t h).0);
  broken_recipes = agrees.broken_recipes;
  seen = λ t h. changed_same k.seen m.seen n (λ f. None) (λ f. None) t refl (λ apart. agrees.seen t ((Has-from_filter (λ r. not (nat_eq n r)) m.running t h).0));
  put = λ t h. changed_same k.put m.put n (λ f. None) (λ f. None) t refl (λ apart. agrees.put t ((Has-from_filter (λ r. not (nat_eq n r)) m.running t h).0));
  done = λ t runs h. elim h [ inl e ↦ inl e | inr r ↦ inr (agrees.done t runs r) ];
  no_more_done = λ t runs h. elim h [ inl e ↦ inl e | inr r ↦ inr (agrees.no_more_done t runs r) ];
  in_turn = (λ off. absurd (on_off on off), agrees.in_turn);
}

-- a running recipe breaks off in both
broken_agrees : (g : Graph) (m k : Making) (n : ℕ) → AgreesIn g m k → (node g n).recipe ≡ true → AgreesIn g (broken_off m n) (broken_off k n)
broken_agrees g m k n agrees on = record {
  jobs = agrees.jobs;
  goals = agrees.goals;
  no_more_goals = agrees.no_more_goals;
  of_graph = agrees.of_graph;
  running = ap (filter (λ r. not (nat_eq n r))) agrees.running;
  broken = ap (λ l. n ∷ l) agrees.broken;
  recipes = λ t h. agrees.recipes t ((Has-from_filter (λ r. not (nat_eq n r)) m.running t h).0);
  broken_recipes = λ t h. elim h [ inl e ↦ subst (λ i. (node g i).recipe ≡ true) e on | inr r ↦ agrees.broken_recipes t r ];
  seen = λ t h. changed_same k.seen m.seen n (λ f. None) (λ f. None) t refl (λ apart. agrees.seen t ((Has-from_filter (λ r. not (nat_eq n r)) m.running t h).0));
  put = λ t h. changed_same k.put m.put n (λ f. None) (λ f. None) t refl (λ apart. agrees.put t ((Has-from_filter (λ r. not (nat_eq n r)) m.running t h).0));
  done = agrees.done;
  no_more_done = agrees.no_more_done;
  in_turn = agrees.in_turn;
}

-- one without is done in the history alone
pub passed_agrees : (g : Graph) (m k : Making) (n : ℕ) → AgreesIn g m k → model.Ready g m n → (node g n).recipe ≡ false → AgreesIn g (finished m n) k
passed_agrees g m k n agrees ready off =
    let same = nothing_out n m.running ready.1 in
    let runs : (t : ℕ) → Has (filter (λ r. not (nat_eq n r)) m.running) t → Has m.running t = λ t h. (Has-from_filter (λ r. not (nat_eq n r)) m.running t h).0 in
    let apart : (t : ℕ) → Has m.running t → ¬ (n ≡ t) = λ t h e. ready.1 (subst (Has m.running) (sym e) h) in
    record {
      jobs = agrees.jobs;
      goals = agrees.goals;
      no_more_goals = agrees.no_more_goals;
      of_graph = agrees.of_graph;
      running = agrees.running ∙ sym same;
      broken = agrees.broken;
      recipes = λ t h. agrees.recipes t (runs t h);
      broken_recipes = agrees.broken_recipes;
      seen = λ t h. agrees.seen t (runs t h) ∙ sym (changed_beside m.seen n (λ f. None) t (apart t (runs t h)));
      put = λ t h. agrees.put t (runs t h) ∙ sym (changed_beside m.put n (λ f. None) t (apart t (runs t h)));
      done = λ t on h. elim h [ inl e ↦ absurd (on_off on (subst (λ i. (node g i).recipe ≡ false) e off)) | inr r ↦ agrees.done t on r ];
      no_more_done = λ t on h. inr (agrees.no_more_done t on h);
      in_turn = (λ same_off. ready.0, agrees.in_turn);
    }

pub look_goes : (g : Graph) (s : Setting) (m k : Making) (d : Disk) (n : ℕ) (f : FileName) → AgreesIn g m k → Allowed g s (Busy m d) (model.Look n f) → GoesOn g s (Busy m d) (Busy k d) (Busy k d) (model.Look n f) (model.Look n f)
look_goes g s m k d n f agrees allowed = record {
  prepared = not_prepared g s (Busy k d);
  allowed = (subst (λ l. Has l n) (sym agrees.running) allowed.0, allowed.1);
  agrees = in_make (looked_agrees g m k n f (content d f) agrees allowed.0);
  counted = refl;
}

pub put_goes : (g : Graph) (s : Setting) (m k : Making) (d : Disk) (n : ℕ) (f : FileName) (c : ℕ) → AgreesIn g m k → Allowed g s (Busy m d) (model.Put n f c) → GoesOn g s (Busy m d) (Busy k d) (Busy k d) (model.Put n f c) (model.Put n f c)
put_goes g s m k d n f c agrees allowed = record {
  prepared = not_prepared g s (Busy k d);
  allowed = (subst (λ l. Has l n) (sym agrees.running) allowed.0, allowed.1, allowed.2);
  agrees = in_make (put_agrees g m k n f c agrees allowed.0);
  counted = refl;
}

pub end_goes : (g : Graph) (s : Setting) (m k : Making) (d : Disk) (n : ℕ) → AgreesIn g m k → Allowed g s (Busy m d) (model.End n) → GoesOn g s (Busy m d) (Busy k d) (Busy k d) (model.End n) (model.End n)
end_goes g s m k d n agrees allowed =
    let seen = agrees.seen n allowed.runs in
    let put = agrees.put n allowed.runs in
    let same_seen : seen_by g s k n ≡ seen_by g s m n = ap (λ (at : FileName → Option (Option ℕ)). map (λ f. option_flatten (at f)) (reads g s n)) seen in
    let same_put : put_by g s k n ≡ put_by g s m n = ap (λ (at : FileName → Option ℕ). map (λ f. unwrap_or (at f) 0) (writes g s n)) put in
    let agree = subst (λ l. IfSome (outcome d.known n l) (λ known. known ≡ put_by g s k n)) (sym same_seen) (subst (λ l. IfSome (outcome d.known n (seen_by g s m n)) (λ known. known ≡ l)) (sym same_put) allowed.agrees) in
    let same_disk : noted d (record { recipe = n; seen = seen_by g s k n; written = put_by g s k n }) ≡ noted d (record { recipe = n; seen = seen_by g s m n; written = put_by g s m n }) = ap₂ (λ l r. noted d (record { recipe = n; seen = l; written = r })) same_seen same_put in
    record {
      prepared = not_prepared g s (Busy k d);
      allowed = record {
        runs = subst (λ l. Has l n) (sym agrees.running) allowed.runs;
        seen = λ f h none. allowed.seen f h (sym (ap (λ (at : FileName → Option (Option ℕ)). at f) seen) ∙ none);
        put = λ f h none. allowed.put f h (sym (ap (λ (at : FileName → Option ℕ). at f) put) ∙ none);
        agrees = agree;
      };
      agrees = subst (λ (e : Disk). Agrees g (after g s (Busy m d) (model.End n)) (Busy (finished k n) e)) (sym same_disk) (in_make (finished_agrees g m k n agrees (agrees.recipes n allowed.runs)));
      counted = refl;
    }

pub break_goes : (g : Graph) (s : Setting) (m k : Making) (d : Disk) (n : ℕ) (removed : Bool) → AgreesIn g m k → Allowed g s (Busy m d) (model.Break n removed) → GoesOn g s (Busy m d) (Busy k d) (Busy k d) (model.Break n removed) (model.Break n removed)
break_goes g s m k d n removed agrees allowed = record {
  prepared = not_prepared g s (Busy k d);
  allowed = (subst (λ l. Has l n) (sym agrees.running) allowed.0, allowed.1);
  agrees = in_make (broken_agrees g m k n agrees (agrees.recipes n allowed.0));
  counted = refl;
}

pub stop_goes : (g : Graph) (s : Setting) (m k : Making) (d : Disk) → AgreesIn g m k → Allowed g s (Busy m d) model.Stop → GoesOn g s (Busy m d) (Busy k d) (Busy k d) model.Stop model.Stop
stop_goes g s m k d agrees allowed = record {
  prepared = not_prepared g s (Busy k d);
  allowed = agrees.running ∙ allowed;
  agrees = at_rest;
  counted = refl;
}

module _ (one : NamesHaveOneNumber) (stay : CanStartStays) (reaches : SerialReachesEachOnce) where
  passed : (g : Graph) (s : Setting) (m k : Making) (d : Disk) (behind : World) → IsGraph g → AgreesIn g m k → PassesAll g k d behind → Passed g s m k d behind
  passed g s m k d behind is agrees all =
      let end_agrees = passes_agree g m k all.nodes all.end agrees all.passes in
      record {
        end = all.end;
        is = all.leaves;
        agrees = end_agrees;
        within = all_done stay reaches g m all.end is end_agrees all.none_left;
        prepared = record {
          nodes = all.nodes;
          idle = passes_idle g k all.nodes all.end all.passes;
          legal = passes_legal g s d k all.nodes all.end all.passes;
          leads = passes_leave g s d k all.nodes all.end all.passes;
        };
      }

  pub begin_goes : (g : Graph) (s : Setting) (m k : Making) (d : Disk) (behind : World) (n : ℕ) → IsGraph g → AgreesIn g m k → PassesAll g k d behind → Allowed g s (Busy m d) (model.Begin n) → GoesOn g s (Busy m d) (Busy k d) behind (model.Begin n) (model.Begin n)
  begin_goes g s m k d behind n is agrees all allowed =
      let p = passed g s m k d behind is agrees all in
      subst (λ w. GoesOn g s (Busy m d) (Busy k d) w (model.Begin n) (model.Begin n)) (sym p.is) (record {
        prepared = p.prepared;
        allowed = (ready_too stay reaches g m p.end n is p.agrees p.within allowed.1 allowed.0, allowed.1, subst (λ l. length l < p.end.jobs) (sym p.agrees.running) (subst (λ j. length m.running < j) (sym p.agrees.jobs) allowed.2));
        agrees = in_make (begun_agrees g m p.end n p.agrees allowed.1);
        counted = refl;
      })

  pub pass_goes : (g : Graph) (s : Setting) (m k : Making) (d : Disk) (behind : World) (n : ℕ) → IsGraph g → AgreesIn g m k → PassesAll g k d behind → (node g n).recipe ≡ true → Allowed g s (Busy m d) (model.Pass n) → GoesOn g s (Busy m d) (Busy k d) behind (model.Pass n) (model.Pass n)
  pass_goes g s m k d behind n is agrees all on allowed =
      let p = passed g s m k d behind is agrees all in
      subst (λ w. GoesOn g s (Busy m d) (Busy k d) w (model.Pass n) (model.Pass n)) (sym p.is) (record {
        prepared = p.prepared;
        allowed = (ready_too stay reaches g m p.end n is p.agrees p.within on allowed.0, allowed.1);
        agrees = in_make (finished_agrees g m p.end n p.agrees on);
        counted = ap not on;
      })

  pub end_make_goes : (g : Graph) (s : Setting) (m k : Making) (d : Disk) (behind : World) → IsGraph g → AgreesIn g m k → PassesAll g k d behind → Allowed g s (Busy m d) model.EndMake → GoesOn g s (Busy m d) (Busy k d) behind model.EndMake model.EndMake
  end_make_goes g s m k d behind is agrees all allowed =
      let p = passed g s m k d behind is agrees all in
      let done : IsWithin p.end.goals p.end.done = λ n h. p.within n (Has-from_HasAll m.done m.goals allowed.0 n (p.agrees.no_more_goals n h)) in
      subst (λ w. GoesOn g s (Busy m d) (Busy k d) w model.EndMake model.EndMake) (sym p.is) (record {
        prepared = p.prepared;
        allowed = (HasAll-from_Has p.end.done p.end.goals done, p.agrees.running ∙ allowed.1);
        agrees = at_rest;
        counted = refl;
      })
