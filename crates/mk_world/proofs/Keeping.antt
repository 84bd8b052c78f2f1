-- What is kept of the make in progress, as steps are taken.
use Rattle.std.proofs.Common.{◌≡◌, ℕ, ◌<◌, true, false, List, [], ◌∷◌, ◌++◌, map, length, filter, not, nat_eq, Option, None, Some, Result, Ok, Err, OnOk, OnErr, inl, inr, ◌⊎◌, refl, sym, ap, subst, ◌∙◌}
use Rattle.std.proofs.lemmas.Bool.{true≢false}
use Rattle.mk_graph.specs.Membership.{Has}
use Rattle.mk_graph.specs.Graph.{Graph, node}
use Rattle.mk_graph.specs.ScheduleLaws.{CanStartStays}
use Rattle.mk_build.specs.Steps.{Step, Edit, Make, Begin, Look, Put, End, Break, Pass, Stop, EndMake, looked, has_put}
use Rattle.mk_build.specs.SerialMake.{puts, rest_of_run}
use Rattle.mk_build.specs.Setting.{FileName, Setting, reads, writes}
use Rattle.mk_graph.specs.Serial.{serial_order}
use Rattle.mk_graph.specs.Schedules.{CanStart}
use Rattle.mk_build.specs.World.{Disk, Making, World, Idle, Busy, content, written}
use Rattle.mk_graph_ready.specs.Progress.{Progress, Starts, GoesOn}
use Rattle.mk_graph_ready.specs.Progress as ready
use Rattle.mk_world.specs.declared.fault.StepFault.{StepFault}
use Rattle.mk_world.specs.State.{Scene, MakeState, DiskState, setting, making_of, disk_of, busy, start_of}
use Rattle.mk_world.specs.State as lists
use Rattle.mk_world.specs.Fits.{Fits}
use Rattle.mk_world.specs.Kept.{IsKept, IsKeptIn}
use Rattle.mk_world.specs.Running.{IsIdle, IsFirstIdle, AreNotIdle, TakesInTurn, ends, takes, refused}
use Rattle.mk_world.specs.Steps.{Takes, Judges}
use Rattle.mk_world.proofs.Changes.{left}

-- the goals, the done nodes and the running recipes of a world in which a make is in progress
abbrev pub goals_in : World → List ℕ
goals_in (Idle d) = []
goals_in (Busy m d) = m.goals

abbrev pub done_in : World → List ℕ
done_in (Idle d) = []
done_in (Busy m d) = m.done

abbrev pub running_in : World → List ℕ
running_in (Idle d) = []
running_in (Busy m d) = m.running

-- and those that broke off
abbrev pub broken_in : World → List ℕ
broken_in (Idle d) = []
broken_in (Busy m d) = m.broken

module _ (scene : Scene) where
  pub kept_graph : (make : Option MakeState) (p : Progress) → IsKeptIn scene make p → p.graph ≡ scene.graph
  kept_graph None p k = k
  kept_graph (Some m) p k = k.graph

  -- where no make is in progress
  pub kept_idle : (make : Option MakeState) (p : Progress) → make ≡ None → p.graph ≡ scene.graph → IsKeptIn scene make p
  kept_idle make p none same = subst (λ (o : Option MakeState). IsKeptIn scene o p) (sym none) same

  -- where one begins
  pub kept_started : (m : MakeState) (p q : Progress) (jobs : ℕ) (goals : List ℕ) (many : ℕ) → p.graph ≡ scene.graph → Starts p q goals → m ≡ start_of jobs goals many → IsKept scene m q
  kept_started m p q jobs goals many same s is =
      subst (λ (w : MakeState). IsKept scene w q) (sym is) (record { graph = s.graph ∙ same; goals = s.names; done = λ n. (s.done n, λ h. absurd h); recipes = λ t h. absurd h; broken = λ t h. absurd h })

  module _ (stay : CanStartStays) (m : MakeState) (p : Progress) (k : IsKept scene m p) where
    -- whose turn may come by what is kept
    pub turn_from : (n : ℕ) → CanStart p.graph p.goals p.done n → CanStart scene.graph m.goals m.done n
    turn_from n h = stay scene.graph p.goals m.goals p.done m.done (λ x a. (k.goals x).0 a) (λ x a. (k.done x).0 a) n (λ d. h.not_done ((k.done n).1 d)) (subst (λ (g : Graph). CanStart g p.goals p.done n) k.graph h)

    pub turn_to : (n : ℕ) → CanStart scene.graph m.goals m.done n → CanStart p.graph p.goals p.done n
    turn_to n h = subst (λ (g : Graph). CanStart g p.goals p.done n) (sym k.graph) (stay scene.graph m.goals p.goals m.done p.done (λ x a. (k.goals x).1 a) (λ x a. (k.done x).1 a) n (λ d. h.not_done ((k.done n).0 d)) h)

    -- and what is idle
    idle_from : (n : ℕ) → ready.IsIdle p n → IsIdle scene.graph (making_of scene m) n
    idle_from n h =
        let plain : (node scene.graph n).recipe ≡ false = subst (λ (g : Graph). (node g n).recipe ≡ false) k.graph h.1 in
        ((turn_from n h.0, λ r. true≢false (sym (k.recipes n r) ∙ plain), λ b. true≢false (sym (k.broken n b) ∙ plain)), plain)

    idle_to : (n : ℕ) → IsIdle scene.graph (making_of scene m) n → ready.IsIdle p n
    idle_to n h = (turn_to n h.0.0, subst (λ (g : Graph). (node g n).recipe ≡ false) (sym k.graph) h.1)

    first_among : (ns : List ℕ) (n : ℕ) → ready.IsFirstIdle p ns n → IsFirstIdle scene.graph (making_of scene m) ns n
    first_among [] n h = absurd h
    first_among (next ∷ ns) n h = elim h [
      | inl here ↦ inl (idle_from next here.0, here.1)
      | inr later ↦ inr (λ i. later.0 (idle_to next i), first_among ns n later.1)
    ]

    pub first_from : (n : ℕ) → ready.IsFirstIdle p (serial_order p.graph) n → IsFirstIdle scene.graph (making_of scene m) (serial_order scene.graph) n
    first_from n h = first_among (serial_order scene.graph) n (subst (λ (g : Graph). ready.IsFirstIdle p (serial_order g) n) k.graph h)

    pub none_from : ready.AreNotIdle p (serial_order p.graph) → AreNotIdle scene.graph (making_of scene m) (serial_order scene.graph)
    none_from h n there idle = h n (subst (λ (g : Graph). Has (serial_order g) n) (sym k.graph) there) (idle_to n idle)

  -- goals and done nodes are the same
  moves : (old new : MakeState) (p : Progress) → IsKept scene old p → new.goals ≡ old.goals → new.done ≡ old.done
      → ((t : ℕ) → Has new.running t → Has old.running t ⊎ ((node scene.graph t).recipe ≡ true))
      → ((t : ℕ) → Has new.broken t → Has old.broken t ⊎ ((node scene.graph t).recipe ≡ true)) → IsKept scene new p
  moves old new p k goals done runs broke = record {
    graph = k.graph;
    goals = λ n. (λ h. subst (λ (l : List ℕ). Has l n) (sym goals) ((k.goals n).0 h), λ h. (k.goals n).1 (subst (λ (l : List ℕ). Has l n) goals h));
    done = λ n. (λ h. subst (λ (l : List ℕ). Has l n) (sym done) ((k.done n).0 h), λ h. (k.done n).1 (subst (λ (l : List ℕ). Has l n) done h));
    recipes = λ t h. elim (runs t h) [ inl ran ↦ k.recipes t ran | inr is ↦ is ];
    broken = λ t h. elim (broke t h) [ inl was ↦ k.broken t was | inr is ↦ is ];
  }

  -- one node more is done
  pub does : (old new : MakeState) (p q : Progress) (t : ℕ) → IsKept scene old p → GoesOn p q t → new.goals ≡ old.goals → new.done ≡ t ∷ old.done
      → new.running ≡ filter (λ n. not (nat_eq t n)) old.running → new.broken ≡ old.broken → IsKept scene new q
  does old new p q t k on goals done runs broke = record {
    graph = on.graph ∙ k.graph;
    goals = λ n. (
      λ h. subst (λ (l : List ℕ). Has l n) (sym goals) ((k.goals n).0 (subst (λ (l : List ℕ). Has l n) on.goals h)),
      λ h. subst (λ (l : List ℕ). Has l n) (sym on.goals) ((k.goals n).1 (subst (λ (l : List ℕ). Has l n) goals h)),
    );
    done = λ n. (
      λ h. subst (λ (l : List ℕ). Has l n) (sym done) (elim ((on.done n).0 h) [ inl is ↦ inl (sym is) | inr was ↦ inr ((k.done n).0 was) ]),
      λ h. (on.done n).1 (elim (subst (λ (l : List ℕ). Has l n) done h) [ inl is ↦ inl (sym is) | inr was ↦ inr ((k.done n).1 was) ]),
    );
    recipes = λ n h. k.recipes n (left t old.running n (subst (λ (l : List ℕ). Has l n) runs h)).0;
    broken = λ n h. k.broken n (subst (λ (l : List ℕ). Has l n) broke h);
  }

  -- the same of a make in lists
  pub kept_done : (old new : MakeState) (p q : Progress) (t : ℕ) → IsKept scene old p → GoesOn p q t → new ≡ lists.finished old t → IsKept scene new q
  kept_done old new p q t k on is =
      subst (λ (m : MakeState). IsKept scene m q) (sym is) (does old (lists.finished old t) p q t k on refl refl refl refl)

  -- no node is done by these steps
  abbrev pub IsQuiet : Step → Type 0
  IsQuiet (Begin t) = Unit {0}
  IsQuiet (Look t f) = Unit {0}
  IsQuiet (Put t f c) = Unit {0}
  IsQuiet (Break t removed) = Unit {0}
  IsQuiet (Edit f c) = ⊥
  IsQuiet (Make jobs goals) = ⊥
  IsQuiet (End t) = ⊥
  IsQuiet (Pass n) = ⊥
  IsQuiet Stop = ⊥
  IsQuiet EndMake = ⊥

  kept_quiet : (old new : MakeState) (d e : DiskState) (step : Step) (p : Progress) → IsQuiet step → Takes scene.graph (setting scene) (busy scene old d) (busy scene new e) step → IsKept scene old p → IsKept scene new p
  kept_quiet old new d e (Begin t) p q taken k =
      moves old new p k (ap goals_in taken.leaves) (ap done_in taken.leaves) (λ n h. elim (subst (λ (l : List ℕ). Has l n) (ap running_in taken.leaves) h) [
        | inl is ↦ inr (subst (λ j. (node scene.graph j).recipe ≡ true) is taken.allowed.1)
        | inr ran ↦ inl ran
      ]) (λ n h. inl (subst (λ (l : List ℕ). Has l n) (ap broken_in taken.leaves) h))
  kept_quiet old new d e (Look t f) p q taken k =
      moves old new p k (ap goals_in taken.leaves) (ap done_in taken.leaves) (λ n h. inl (subst (λ (l : List ℕ). Has l n) (ap running_in taken.leaves) h)) (λ n h. inl (subst (λ (l : List ℕ). Has l n) (ap broken_in taken.leaves) h))
  kept_quiet old new d e (Put t f c) p q taken k =
      moves old new p k (ap goals_in taken.leaves) (ap done_in taken.leaves) (λ n h. inl (subst (λ (l : List ℕ). Has l n) (ap running_in taken.leaves) h)) (λ n h. inl (subst (λ (l : List ℕ). Has l n) (ap broken_in taken.leaves) h))
  kept_quiet old new d e (Break t removed) p q taken k =
      moves old new p k (ap goals_in taken.leaves) (ap done_in taken.leaves) (λ n h. inl (left t old.running n (subst (λ (l : List ℕ). Has l n) (ap running_in taken.leaves) h)).0) (λ n h. elim (subst (λ (l : List ℕ). Has l n) (ap broken_in taken.leaves) h) [
        | inl is ↦ inr (k.recipes n (subst (λ j. Has old.running j) is taken.allowed.0))
        | inr was ↦ inl was
      ])
  kept_quiet old new d e (Edit f c) p q taken k = absurd q
  kept_quiet old new d e (Make jobs goals) p q taken k = absurd q
  kept_quiet old new d e (End t) p q taken k = absurd q
  kept_quiet old new d e (Pass n) p q taken k = absurd q
  kept_quiet old new d e Stop p q taken k = absurd q
  kept_quiet old new d e EndMake p q taken k = absurd q

  -- whether such a step is taken or not
  pub kept_judged : (old new : MakeState) (d e : DiskState) (step : Step) (result : Result (Unit {0}) StepFault) (p : Progress) → IsQuiet step → Judges scene (busy scene old d) (busy scene new e) step result → OnErr result (new ≡ old) → IsKept scene old p → IsKept scene new p
  kept_judged old new d e s (Ok u) p q taken err k = kept_quiet old new d e s p q taken k
  kept_judged old new d e s (Err fault) p q judged err k = subst (λ (m : MakeState). IsKept scene m p) (sym err) k

  -- a recipe ends, or a node is passed
  pub kept_end : (old new : MakeState) (d e : DiskState) (t : ℕ) (p q : Progress) → Takes scene.graph (setting scene) (busy scene old d) (busy scene new e) (End t) → GoesOn p q t → IsKept scene old p → IsKept scene new q
  kept_end old new d e t p q taken on k = does old new p q t k on (ap goals_in taken.leaves) (ap done_in taken.leaves) (ap running_in taken.leaves) (ap broken_in taken.leaves)

  pub kept_pass : (old new : MakeState) (d e : DiskState) (n : ℕ) (p q : Progress) → Takes scene.graph (setting scene) (busy scene old d) (busy scene new e) (Pass n) → GoesOn p q n → IsKept scene old p → IsKept scene new q
  kept_pass old new d e n p q taken on k = does old new p q n k on (ap goals_in taken.leaves) (ap done_in taken.leaves) (ap running_in taken.leaves) (ap broken_in taken.leaves)

  -- a running recipe is one of a node
  pub end_low : (old : MakeState) (d : DiskState) (new : World) (t : ℕ) (p : Progress) → Fits scene old → Takes scene.graph (setting scene) (busy scene old d) new (End t) → p.graph ≡ scene.graph → t < length p.graph.nodes
  end_low old d new t p fits taken same = rw same (fits.nodes t taken.allowed.runs)

-- The make is as it was, as to goals, done nodes, running recipes and those that broke off.
record IsAsWas (m n : Making) : Type 0 where
  goals : n.goals ≡ m.goals
  done : n.done ≡ m.done
  running : n.running ≡ m.running
  broken : n.broken ≡ m.broken

-- so is that of a world
record IsSoIn (m : Making) (w : World) : Type 0 where
  goals : goals_in w ≡ m.goals
  done : done_in w ≡ m.done
  running : running_in w ≡ m.running
  broken : broken_in w ≡ m.broken

module _ (g : Graph) (s : Setting) (t : ℕ) (rest : List Step) where
  -- after looks and puts the rest is taken, or one of them was refused
  abbrev Comes : (m : Making) → World → Result (Unit {0}) StepFault → Type 0
  Comes m new r = ((n : Making) × (e : Disk) × IsAsWas m n × TakesInTurn g s (Busy n e) new rest r) ⊎ ((fault : StepFault) × (r ≡ Err fault) × IsSoIn m new)

  -- of a make that is as it was
  was_put : (m n : Making) (new : World) (r : Result (Unit {0}) StepFault) → IsAsWas m n → Comes n new r → Comes m new r
  was_put m n new r same (inl on) = inl (on.0, on.1, record { goals = on.2.goals ∙ same.goals; done = on.2.done ∙ same.done; running = on.2.running ∙ same.running; broken = on.2.broken ∙ same.broken }, on.3)
  was_put m n new r same (inr not) = inr (not.0, not.1, record { goals = not.2.goals ∙ same.goals; done = not.2.done ∙ same.done; running = not.2.running ∙ same.running; broken = not.2.broken ∙ same.broken })

  puts_come : (files : List FileName) (cs : List ℕ) (m : Making) (d : Disk) (new : World) (r : Result (Unit {0}) StepFault) → TakesInTurn g s (Busy m d) new (puts t files cs ++ rest) r → Comes m new r
  puts_come [] cs m d new r h = inl (m, d, record { goals = refl; done = refl; running = refl; broken = refl }, h)
  puts_come (f ∷ files) [] m d new r h = inl (m, d, record { goals = refl; done = refl; running = refl; broken = refl }, h)
  puts_come (f ∷ files) (c ∷ cs) m d new r (takes allowed more) = was_put m (has_put m t f c) new r (record { goals = refl; done = refl; running = refl; broken = refl }) (puts_come files cs (has_put m t f c) (written d f c) new r more)
  puts_come (f ∷ files) (c ∷ cs) m d new r (refused {fault = fault} is) = inr (fault, refl, record { goals = refl; done = refl; running = refl; broken = refl })

  looks_come : (files : List FileName) (m : Making) (d : Disk) (new : World) (r : Result (Unit {0}) StepFault) → TakesInTurn g s (Busy m d) new (map (λ f. Look t f) files ++ rest) r → Comes m new r
  looks_come [] m d new r h = inl (m, d, record { goals = refl; done = refl; running = refl; broken = refl }, h)
  looks_come (f ∷ files) m d new r (takes allowed more) = was_put m (looked m t f (content d f)) new r (record { goals = refl; done = refl; running = refl; broken = refl }) (looks_come files (looked m t f (content d f)) d new r more)
  looks_come (f ∷ files) m d new r (refused {fault = fault} is) = inr (fault, refl, record { goals = refl; done = refl; running = refl; broken = refl })

-- A recipe is finished: its node is done, or a step was refused before.
pub record IsFinished (m : Making) (t : ℕ) (new : World) (r : Result (Unit {0}) StepFault) : Type 0 where
  pub goals : goals_in new ≡ m.goals
  pub broken : broken_in new ≡ m.broken
  pub ok : OnOk r ((done_in new ≡ t ∷ m.done) × (running_in new ≡ filter (λ n. not (nat_eq t n)) m.running))
  pub err : OnErr r ((done_in new ≡ m.done) × (running_in new ≡ m.running))

-- the recipe ends, or that is refused
ends_so : (g : Graph) (s : Setting) (t : ℕ) (m : Making) (d : Disk) (new : World) (r : Result (Unit {0}) StepFault) → TakesInTurn g s (Busy m d) new (End t ∷ []) r → IsFinished m t new r
ends_so g s t m d new r (takes allowed ends) = record { goals = refl; broken = refl; ok = (refl, refl); err = tt }
ends_so g s t m d new r (refused is) = record { goals = refl; broken = refl; ok = tt; err = (refl, refl) }

module _ (g : Graph) (s : Setting) (t : ℕ) (new : World) (r : Result (Unit {0}) StepFault) where
  -- a step was refused
  refused_so : (m : Making) (fault : StepFault) → r ≡ Err fault → IsSoIn m new → IsFinished m t new r
  refused_so m fault is so = record {
    goals = so.goals;
    broken = so.broken;
    ok = subst (λ (q : Result (Unit {0}) StepFault). OnOk q ((done_in new ≡ t ∷ m.done) × (running_in new ≡ filter (λ n. not (nat_eq t n)) m.running))) (sym is) tt;
    err = subst (λ (q : Result (Unit {0}) StepFault). OnErr q ((done_in new ≡ m.done) × (running_in new ≡ m.running))) (sym is) (so.done, so.running);
  }

  -- of a make that is as it was
  finished_was : (m n : Making) → IsAsWas m n → IsFinished n t new r → IsFinished m t new r
  finished_was m n same f = record {
    goals = f.goals ∙ same.goals;
    broken = f.broken ∙ same.broken;
    ok = on_ok r f.ok;
    err = on_err r f.err;
  }
    where
      on_ok : (q : Result (Unit {0}) StepFault) → OnOk q ((done_in new ≡ t ∷ n.done) × (running_in new ≡ filter (λ k. not (nat_eq t k)) n.running)) → OnOk q ((done_in new ≡ t ∷ m.done) × (running_in new ≡ filter (λ k. not (nat_eq t k)) m.running))
      on_ok (Ok u) h = (h.0 ∙ ap (λ (l : List ℕ). t ∷ l) same.done, h.1 ∙ ap (λ (l : List ℕ). filter (λ k. not (nat_eq t k)) l) same.running)
      on_ok (Err e) h = tt

      on_err : (q : Result (Unit {0}) StepFault) → OnErr q ((done_in new ≡ n.done) × (running_in new ≡ n.running)) → OnErr q ((done_in new ≡ m.done) × (running_in new ≡ m.running))
      on_err (Ok u) h = tt
      on_err (Err e) h = (h.0 ∙ same.done, h.1 ∙ same.running)

  finished_in_turn : (cs : List ℕ) (m : Making) (d : Disk) → TakesInTurn g s (Busy m d) new (rest_of_run g s t cs) r → IsFinished m t new r
  finished_in_turn cs m d h = elim (looks_come g s t (puts t (writes g s t) cs ++ End t ∷ []) (reads g s t) m d new r h) [
    | inl on ↦ finished_was m on.0 on.2 (behind on.0 on.1 on.3)
    | inr not ↦ refused_so m not.0 not.1 not.2
  ]
    where
      behind : (n : Making) (e : Disk) → TakesInTurn g s (Busy n e) new (puts t (writes g s t) cs ++ End t ∷ []) r → IsFinished n t new r
      behind n e k = elim (puts_come g s t (End t ∷ []) (writes g s t) cs n e new r k) [
        | inl on ↦ finished_was n on.0 on.2 (ends_so g s t on.0 on.1 new r on.3)
        | inr not ↦ refused_so n not.0 not.1 not.2
      ]

module _ (scene : Scene) (old new : MakeState) (d e : DiskState) (t : ℕ) (cs : List ℕ) (p : Progress) (k : IsKept scene old p) where
  -- a recipe is finished
  pub kept_finish : (q : Progress) → TakesInTurn scene.graph (setting scene) (busy scene old d) (busy scene new e) (rest_of_run scene.graph (setting scene) t cs) (Ok tt) → GoesOn p q t → IsKept scene new q
  kept_finish q taken on =
      let f = finished_in_turn scene.graph (setting scene) t (busy scene new e) (Ok tt) cs (making_of scene old) (disk_of d) taken in
      does scene old new p q t k on f.goals f.ok.0 f.ok.1 f.broken

  -- or it isn't
  pub kept_unfinished : (fault : StepFault) → TakesInTurn scene.graph (setting scene) (busy scene old d) (busy scene new e) (rest_of_run scene.graph (setting scene) t cs) (Err fault) → IsKept scene new p
  kept_unfinished fault taken =
      let f = finished_in_turn scene.graph (setting scene) t (busy scene new e) (Err fault) cs (making_of scene old) (disk_of d) taken in
      moves scene old new p k f.goals f.err.0 (λ n h. inl (subst (λ (l : List ℕ). Has l n) f.err.1 h)) (λ n h. inl (subst (λ (l : List ℕ). Has l n) f.broken h))
