-- Every history can go on.
use Rattle.std.proofs.Common.{append-nil, ◌≡◌, ℕ, ◌+◌, ◌≤◌, List, [], ◌∷◌, ◌++◌, length, reverse, map, filter, Bool, true, false, Option, Some, None, ◌⊎◌, inl, inr, ⊎_elim, refl, sym, ◌∙◌, ap, subst, arith}
use Rattle.std.specs.Prelude.{unwrap_or}
use Rattle.std.proofs.lemmas.Bool.{cases_Bool}
use Rattle.std.proofs.lemmas.List.{length-map}
use Rattle.mk_graph.proofs.Parts.{HasAll-from_Has}
use Rattle.mk_graph.specs.Membership.{has}
use Rattle.mk_graph.specs.Graph.{Graph, node, HasNoCycle}
use Rattle.mk_graph.specs.Serial.{visits, order_from}
use Rattle.mk_graph.specs.Schedules.{HasAll, CanStart, IsSchedule, IsPart}
use Rattle.mk_graph.proofs.Turning.{HasAll-has}
use Rattle.mk_graph.proofs.SerialTurns.{serial_turns, order_is, goal_is_chosen}
use Rattle.mk_build.specs.Setting.{FileName, Setting, is_editable, reads, writes, writings}
use Rattle.mk_build.specs.World.{Outcome, Disk, World, Idle, Busy, IsStartDisk, HasStampsFor, content, written, last_stamp, outcome, disk_of}
use Rattle.mk_build.specs.Steps.{changed_at, Step, Edit, Make, Begin, Look, Put, End, Break, Pass, Stop, EndMake, MustRun, Allowed, seen_by, put_by, after, make_of, noted, IsLegal, after_all}
use Rattle.mk_build.specs.SerialMake.{whole_run, one_make}
use Rattle.mk_build.specs.NodeByNode.{next_stamps, to_put}
use Rattle.mk_build.proofs.InOrder.{kept}
use Rattle.mk_build.proofs.Outcomes.{cases_outcome, noted_cases}
use Rattle.mk_build.proofs.WholeRuns.{legal_append, after_append, quiet, Agree, whole_run_legal}
use Rattle.mk_build.proofs.SerialHistory.{TurnOn, turn_on, done_behind, clock_behind}
use Rattle.mk_build.proofs.MakesBut.{AreByName, next_stamps_many}
use Rattle.mk_build_progress.specs.GoingOn.{MakesInTurn, ends, passes, spares, runs}
use Rattle.mk_build_progress.proofs.Deciding.{must_or_not}

module _ (g : Graph) (s : Setting) where
  -- an edit behind a trace
  pub edit_follows : (d now : Disk) (steps : List Step) → IsLegal g s (Idle d) steps
      → after_all g s (Idle d) steps ≡ Idle now → (f : FileName) (c : ℕ) → is_editable s f ≡ true
      → HasStampsFor now 1 → IsLegal g s (Idle d) (steps ++ Edit f c ∷ [])
      × (after_all g s (Idle d) (steps ++ Edit f c ∷ []) ≡ Idle (written now f c))
  edit_follows d now steps legal e f c editable room = (
    legal_append g s (Idle d) steps (Edit f c ∷ []) legal
        (subst (λ (w : World). IsLegal g s w (Edit f c ∷ [])) (sym e) ((editable, omega arith), tt)),
    after_append g s (Idle d) steps (Edit f c ∷ [])
        ∙ ap (λ (w : World). after_all g s w (Edit f c ∷ [])) e,
  )

  -- each step keeps that outcomes give one content to each name
  by_name_step : (w : World) (step : Step) → AreByName g s (disk_of w) → Allowed g s w step → AreByName g s (disk_of (after g s w step))
  by_name_step (Idle d) (Edit f c) is may = is
  by_name_step (Idle d) (Make jobs goals) is may = is
  by_name_step (Idle d) (Begin t) is may = absurd may
  by_name_step (Idle d) (Look t f) is may = absurd may
  by_name_step (Idle d) (Put t f c) is may = absurd may
  by_name_step (Idle d) (End t) is may = absurd may
  by_name_step (Idle d) (Break t removed) is may = absurd may
  by_name_step (Idle d) (Pass t) is may = absurd may
  by_name_step (Idle d) Stop is may = absurd may
  by_name_step (Idle d) EndMake is may = absurd may
  by_name_step (Busy m d) (Edit f c) is may = absurd may
  by_name_step (Busy m d) (Make jobs goals) is may = absurd may
  by_name_step (Busy m d) (Begin t) is may = is
  by_name_step (Busy m d) (Look t f) is may = is
  by_name_step (Busy m d) (Put t f c) is may = is
  by_name_step (Busy m d) (End t) is may = λ x saw wrote e.
      ⊎_elim (λ same. (
        λ f. unwrap_or (m.put t f) 0,
        sym same.1 ∙ ap (λ (k : ℕ). map (λ f. unwrap_or (m.put t f) 0) (writes g s k)) same.0,
      )) (λ old. is x saw wrote old)
      (noted_cases d (record { recipe = t; seen = seen_by g s m t; written = put_by g s m t }) x saw wrote e)
  by_name_step (Busy m d) (Break t true) is may = is
  by_name_step (Busy m d) (Break t false) is may = is
  by_name_step (Busy m d) (Pass t) is may = is
  by_name_step (Busy m d) Stop is may = is
  by_name_step (Busy m d) EndMake is may = is

  -- at a start nothing is known
  by_name_at_start : (d : Disk) → IsStartDisk s d → AreByName g s d
  by_name_at_start d start x saw wrote e = let both : None ≡ Some wrote = sym (ap (λ (l : List Outcome). outcome l x saw) start.nothing_known) ∙ e in absurd (cc)

  -- so it holds after each trace
  by_name_after : (d : Disk) (steps : List Step) → IsStartDisk s d → IsLegal g s (Idle d) steps → AreByName g s (disk_of (after_all g s (Idle d) steps))
  by_name_after d steps start legal = kept g s (λ w. AreByName g s (disk_of w)) by_name_step (Idle d) steps (by_name_at_start d start) legal

  -- what is to be put is as many as the files, and agrees with what is known
  to_put_fits : (d : Disk) (t : ℕ) → AreByName g s d → (length (to_put g s d t) ≡ length (writes g s t)) × Agree g s t (to_put g s d t) d
  to_put_fits d t by_name =
      let stamps = next_stamps d.clock (length (writes g s t)) in
      ⊎_elim (λ none. (
        ap (λ (o : Option (List ℕ)). length (unwrap_or o stamps)) none
            ∙ next_stamps_many d.clock (length (writes g s t)),
        inl none,
      ))
      (λ some. let form = by_name t (map (content d) (reads g s t)) some.0 some.1 in let is : to_put g s
      d t ≡ some.0 = ap (λ (o : Option (List ℕ)). unwrap_or o stamps) some.1 in (
        ap (λ (l : List ℕ). length l) (is ∙ form.1) ∙ length-map (writes g s t) form.0,
        inr (form.0, some.1 ∙ ap (λ (l : List ℕ). Some l) (sym is), is ∙ form.1),
      ))
      (cases_outcome d (record { recipe = t; seen = []; written = [] }) t (map (content d) (reads g s t)))

  module _ (goals : List ℕ) where
    -- a make with one job in which nothing runs now
    record Rests (done : List ℕ) (limit : ℕ) (w : World) : Type 0 where
      seen : ℕ → FileName → Option (Option ℕ)
      put : ℕ → FileName → Option ℕ
      disk : Disk
      is : w ≡ Busy (quiet g s 1 goals done seen put) disk
      by_name : AreByName g s disk
      low : disk.clock ≤ limit

    -- a pass
    one_pass : (n : ℕ) (done : List ℕ) (limit : ℕ) (w : World) → CanStart g goals done n → Rests done limit w → ((node g n).recipe ≡ false) ⊎ (¬ (MustRun g (disk_of w) n)) → IsLegal g s w (Pass n ∷ []) × Rests (n ∷ done) (limit + length (writes g s n)) (after g s w (Pass n))
    one_pass n done limit w may rests =
        subst (λ (k : World). ((node g n).recipe ≡ false) ⊎ (¬ (MustRun g (disk_of k) n)) → IsLegal g s k (Pass n ∷ []) × Rests (n ∷ done) (limit + length (writes g s n)) (after g s k (Pass n))) (sym rests.is) (λ why. (
          (((may, λ h. h, λ h. h), why), tt),
          record {
            seen = changed_at rests.seen n (λ f. None);
            put = changed_at rests.put n (λ f. None);
            disk = rests.disk;
            is = refl;
            by_name = rests.by_name;
            low = let low = rests.low in omega arith;
          },
        ))

    -- outcomes after one more was noted
    by_name_noted : (t : ℕ) (d e : Disk) (result : Outcome) → AreByName g s d → e.known ≡ d.known → result.recipe ≡ t → (φ : FileName → ℕ) × (result.written ≡ map φ (writes g s t)) → AreByName g s (noted e result)
    by_name_noted t d e result by_name known is_of form x saw wrote found =
        ⊎_elim (λ same. (
          form.0,
          sym same.1 ∙ (form.1 ∙ ap (λ (k : ℕ). map form.0 (writes g s k)) (sym is_of ∙ same.0)),
        )) (λ old. by_name x saw wrote (subst (λ (l : List Outcome). outcome l x saw ≡ Some wrote) known old))
        (noted_cases e result x saw wrote found)

    -- a whole run
    one_run : (t : ℕ) (done : List ℕ) (limit : ℕ) (w : World) → (node g t).recipe ≡ true → CanStart g goals done t
        → limit + length (writes g s t) ≤ last_stamp → Rests done limit w
        → IsLegal g s w (whole_run g s t (to_put g s (disk_of w) t))
        × Rests (t ∷ done) (limit + length (writes g s t)) (after_all g s w (whole_run g s t (to_put g s (disk_of w) t)))
    one_run t done limit w recipe may room rests =
        let fits = to_put_fits rests.disk t rests.by_name in
        let low = rests.low in
        let now = whole_run_legal g s 1 goals t done (to_put g s rests.disk t) rests.seen rests.put rests.disk fits.0 (omega arith) may recipe fits.1 (omega arith) in
        subst (λ (k : World). IsLegal g s k (whole_run g s t (to_put g s (disk_of k) t))
        × Rests (t ∷ done) (limit + length (writes g s t))
        (after_all g s k (whole_run g s t (to_put g s (disk_of k) t)))) (sym rests.is) (
          now.0,
          record {
            seen = now.1.seen;
            put = now.1.put;
            disk = noted now.1.disk now.1.result;
            is = now.1.is;
            by_name = by_name_noted t rests.disk now.1.disk now.1.result rests.by_name now.1.known now.1.result_recipe now.1.result_is;
            low = let clock = now.1.clock in omega arith;
          },
        )

    module _ (spared : ℕ → Bool) where
      -- steps that make these nodes and are legal
      record Makes (ns done : List ℕ) (limit : ℕ) (w : World) : Type 0 where
        steps : List Step
        makes : MakesInTurn g s spared w ns steps
        legal : IsLegal g s w steps
        rests : Rests (reverse ns ++ done) (limit + writings g s ns) (after_all g s w steps)

      -- one node, and then others
      then_others : (n : ℕ) (ns done : List ℕ) (first : List Step) (w : World) (limit : ℕ)
          → IsLegal g s w first → (rest : Makes ns (n ∷ done) (limit + length (writes g s n)) (after_all g s w first))
          → MakesInTurn g s spared w (n ∷ ns) (first ++ rest.steps) → Makes (n ∷ ns) done limit w
      then_others n ns done first w limit legal rest makes = record {
        steps = first ++ rest.steps;
        makes = makes;
        legal = legal_append g s w first rest.steps legal rest.legal;
        rests = subst (λ (k : World). Rests (reverse (n ∷ ns) ++ done) (limit + writings g s (n ∷ ns)) k)
            (sym (after_append g s w first rest.steps)) (subst (λ (l : List ℕ). Rests l
            (limit + writings g s (n ∷ ns)) (after_all g s (after_all g s w first) rest.steps))
            (done_behind g s [] 1 goals n ns done) (subst (λ (k : ℕ). Rests
            (reverse ns ++ (n ∷ done)) k (after_all g s (after_all g s w first) rest.steps))
            (clock_behind g s [] 1 goals limit n ns) rest.rests));
      }

      -- all nodes
      makes_all : (ns done : List ℕ) (limit : ℕ) (w : World) → TurnOn g goals done ns → limit + writings g s ns ≤ last_stamp → Rests done limit w → Makes ns done limit w
      makes_all [] done limit w turns room rests = record { steps = []; makes = ends; legal = tt; rests = subst (λ (k : ℕ). Rests done k w) (omega arith) rests }
      makes_all (n ∷ ns) done limit w turns room rests =
          let behind = clock_behind g s [] 1 goals limit n ns in
          let pass = λ (why : ((node g n).recipe ≡ false) ⊎ (¬ (MustRun g (disk_of w) n))) (makes : (steps : List Step) → MakesInTurn g s spared (after g s w (Pass n)) ns steps → MakesInTurn g s spared w (n ∷ ns) (Pass n ∷ steps)).
          let now = one_pass n done limit w turns.0 rests why in
          let rest = makes_all ns (n ∷ done) (limit + length (writes g s n)) (after g s w (Pass n)) turns.1 (omega arith) now.1 in
          then_others n ns done (Pass n ∷ []) w limit now.0 rest (makes rest.steps rest.makes) in
          let run = λ (recipe : (node g n).recipe ≡ true) (why : (spared n ≡ false) ⊎ MustRun g (disk_of w) n).
          let first = whole_run g s n (to_put g s (disk_of w) n) in
          let now = one_run n done limit w recipe turns.0 (omega arith) rests in
          let rest = makes_all ns (n ∷ done) (limit + length (writes g s n)) (after_all g s w first) turns.1 (omega arith) now.1 in
          then_others n ns done first w limit now.0 rest (runs recipe why rest.makes) in
          ⊎_elim (λ recipe. ⊎_elim (λ yes. ⊎_elim (λ must. run recipe (inr must)) (λ need_not. pass (inr need_not) (λ steps more. spares recipe yes need_not more)) (must_or_not g (disk_of w) n)) (λ no. run recipe (inl no)) (cases_Bool (spared n))) (λ none. pass (inl none) (λ steps more. passes none more)) (cases_Bool (node g n).recipe)

    -- the nodes of the order may turn one after another
    turns : HasNoCycle g → TurnOn g goals [] (order_from g goals)
    turns is = turn_on g goals (order_from g goals) [] (subst (λ (l : List ℕ). IsSchedule g goals l) (sym (append-nil (reverse (order_from g goals)) ∙ order_is g is goals)) (serial_turns g is goals).0)

    -- then all goals are done
    goals_are_done : HasNoCycle g → IsPart goals g.goals → HasAll (reverse (order_from g goals) ++ []) goals
    goals_are_done is part =
        let serial = serial_turns g is goals in
        subst (λ (l : List ℕ). HasAll l goals) (sym (append-nil (reverse (order_from g goals))
        ∙ order_is g is goals)) (HasAll-from_Has (visits g [] (filter (has goals) g.goals)) goals
        (λ n h. HasAll-has (visits g [] (filter (has goals) g.goals)) (filter (has goals) g.goals) n
        serial.1 (goal_is_chosen g is goals g.goals n (HasAll-has g.goals goals n part.within h) h)))

    -- a make behind a trace
    pub make_follows : (d now : Disk) (steps : List Step) → HasNoCycle g → IsStartDisk s d
        → IsLegal g s (Idle d) steps → after_all g s (Idle d) steps ≡ Idle now → (spared : ℕ → Bool)
        → IsPart goals g.goals → HasStampsFor now (writings g s (order_from g goals))
        → (more : List Step) × MakesInTurn g s spared (Busy (make_of 1 goals) now) (order_from g goals) more
        × IsLegal g s (Idle d) (steps ++ one_make goals more)
    make_follows d now steps is start legal e spared part room =
        let begin = Busy (make_of 1 goals) now in
        let by_name = subst (λ (w : World). AreByName g s (disk_of w)) e (by_name_after d steps start legal) in
        let made = makes_all spared (order_from g goals) [] now.clock begin (turns is) room (record { seen = λ t f. None; put = λ t f. None; disk = now; is = refl; by_name = by_name; low = omega arith }) in
        let end : IsLegal g s (after_all g s begin made.steps) (EndMake ∷ []) = subst (λ (w : World). IsLegal g s w (EndMake ∷ [])) (sym made.rests.is) ((goals_are_done is part, refl), tt) in (
          made.steps,
          made.makes,
          legal_append g s (Idle d) steps (one_make goals made.steps) legal
              (subst (λ (w : World). IsLegal g s w (one_make goals made.steps)) (sym e)
              ((omega arith, part), legal_append g s begin made.steps (EndMake ∷ []) made.legal end)),
        )
