-- A turn list is the history of a make in which recipes neither read nor write.
use Rattle.std.proofs.Common.{None, Bool, true, false, ◌≡◌, ℕ, List, [], ◌∷◌, ◌++◌, map, filter, not, inl, inr, ⊎_elim, refl, sym, ap, subst, ◌∙◌, arith, eq-eqb}
use Rattle.std.specs.Prelude.{Option, Some, IfSome, is_some, unwrap_or, nat_eq, if◌then◌else◌, ◌&&◌}
use Rattle.std.proofs.lemmas.Bool.{cases_Bool, cond-true, cond-false}
use Rattle.std.proofs.lemmas.List.Sums.{fold-append}
use Rattle.mk_graph.specs.Membership.{Has}
use Rattle.mk_graph.specs.Graph.{Graph, node}
use Rattle.mk_build.specs.Setting.{FileName, Setting, reads, writes}
use Rattle.mk_build.specs.World.{Outcome, Disk, Making, World, Idle, Busy, outcome, same_seen}
use Rattle.mk_graph.specs.Schedules.{CanStart, IsSchedule, IsPart}
use Rattle.mk_build.specs.Steps.{changed_at, Step, Make, Begin, End, Pass, MayEnd, begun, noted, seen_by, put_by, after, IsLegal, after_all}
use Rattle.mk_build.specs.BuildLaws.{NotBeforeIsShown}
use Rattle.mk_graph.proofs.AllButOne.{wanted_part}
use Rattle.mk_graph.proofs.Deciding.{comes_without, has_recipe}
use Rattle.mk_build.specs.EmptyInputs.{empty_setting, empty_disk, node_steps, steps_of, IsUndone, ShowsNotBefore}

-- a legal history goes on where its end allows
legal-append : (g : Graph) (s : Setting) (w : World) (front back : List Step) → IsLegal g s w front → IsLegal g s (after_all g s w front) back → IsLegal g s w (front ++ back)
legal-append g s w [] back a b = b
legal-append g s w (step ∷ front) back a b = (a.0, legal-append g s (after g s w step) front back a.1 b)

-- nothing either way
nothing_either : {A : Type 0} (b : Bool) (nothing : A) → (if b then nothing else nothing) ≡ nothing
nothing_either true nothing = refl
nothing_either false nothing = refl

module _ (g : Graph) (t : ℕ) where
  -- nothing is read
  no_reads : reads g empty_setting t ≡ []
  no_reads = nothing_either (node g t).recipe []

  -- nothing is written
  no_writes : writes g empty_setting t ≡ []
  no_writes = nothing_either (node g t).recipe []

-- each outcome that is known wrote nothing
abbrev WroteNothing : List Outcome → Type 0
WroteNothing known = (o : Outcome) → Has known o → o.written ≡ []

-- so does each that is looked up
outcome_nothing : (known : List Outcome) (t : ℕ) (seen : List (Option ℕ)) → WroteNothing known → IfSome (outcome known t seen) (λ written. written ≡ [])
outcome_nothing [] t seen nothing = tt
outcome_nothing (o ∷ known) t seen nothing =
    let test : Bool = nat_eq o.recipe t && same_seen o.seen seen in
    ⊎_elim (λ e. subst (λ (r : Option (List ℕ)). IfSome r (λ written. written ≡ []))
    (sym (cond-true test (Some o.written) (outcome known t seen) e)) (nothing o (inl refl)))
    (λ e. subst (λ (r : Option (List ℕ)). IfSome r (λ written. written ≡ []))
    (sym (cond-false test (Some o.written) (outcome known t seen) e))
    (outcome_nothing known t seen (λ k h. nothing k (inr h)))) (cases_Bool test)

-- one more that wrote nothing
noted_nothing : (d : Disk) (o : Outcome) → WroteNothing d.known → o.written ≡ [] → WroteNothing (noted d o).known
noted_nothing d o nothing none =
    let test : Bool = is_some (outcome d.known o.recipe o.seen) in
    let more : WroteNothing (o ∷ d.known) = λ k h. ⊎_elim (λ same. subst (λ (j : Outcome). j.written ≡ []) same none) (λ there. nothing k there) h in
    ⊎_elim (λ e. subst WroteNothing (sym (cond-true test d.known (o ∷ d.known) e)) nothing) (λ e. subst WroteNothing (sym (cond-false test d.known (o ∷ d.known) e)) more) (cases_Bool test)

-- what has ended no longer runs
ended : (n : ℕ) → filter (λ k. not (nat_eq n k)) (n ∷ []) ≡ []
ended n = cond-false (not (nat_eq n n)) (n ∷ []) [] (ap not (eq-eqb n n refl))

module _ (g : Graph) (goals : List ℕ) where
  -- a make in which these are done and nothing runs
  abbrev quiet : (seen : ℕ → FileName → Option (Option ℕ)) → (put : ℕ → FileName → Option ℕ) → List ℕ → Making
  quiet seen put ns = record { jobs = 1; goals = goals; done = ns; running = []; broken = []; seen = seen; put = put }

  -- from this world the steps are legal, and lead to a make in which these are done and nothing runs
  record LeadsTo (from : World) (steps : List Step) (ns : List ℕ) : Type 0 where
    seen : ℕ → FileName → Option (Option ℕ)
    put : ℕ → FileName → Option ℕ
    disk : Disk
    world : after_all g empty_setting from steps ≡ Busy (quiet seen put ns) disk
    nothing : WroteNothing disk.known
    legal : IsLegal g empty_setting from steps

  module _ (seen : ℕ → FileName → Option (Option ℕ)) (put : ℕ → FileName → Option ℕ) (disk : Disk) (nothing : WroteNothing disk.known) (ns : List ℕ) (n : ℕ) (may : CanStart g goals ns n) where
    -- a node without a recipe is passed
    pass_turn : (node g n).recipe ≡ false → LeadsTo (Busy (quiet seen put ns) disk) (Pass n ∷ []) (n ∷ ns)
    pass_turn e = record { seen = changed_at seen n (λ f. None); put = changed_at put n (λ f. None); disk = disk; world = refl; nothing = nothing; legal = (((may, λ h. h, λ h. h), inl e), tt) }

    -- a recipe is run
    run_turn : (node g n).recipe ≡ true → LeadsTo (Busy (quiet seen put ns) disk) (Begin n ∷ End n ∷ []) (n ∷ ns)
    run_turn e =
        let m : Making = begun (quiet seen put ns) n in
        let wrote : put_by g empty_setting m n ≡ [] = ap (λ (l : List FileName). map (λ f. unwrap_or (m.put n f) 0) l) (no_writes g n) in
        let o : Outcome = record { recipe = n; seen = seen_by g empty_setting m n; written = put_by g empty_setting m n } in
        let may_end : MayEnd g empty_setting m disk n = record {
          runs = inl refl;
          seen = λ f h. absurd (subst (λ (l : List FileName). Has l f) (no_reads g n) h);
          put = λ f h. absurd (subst (λ (l : List FileName). Has l f) (no_writes g n) h);
          agrees = subst (λ (l : List ℕ). IfSome (outcome disk.known n (seen_by g empty_setting m n)) (λ known. known ≡ l)) (sym wrote) (outcome_nothing disk.known n (seen_by g empty_setting m n) nothing);
        } in
        record {
          seen = changed_at m.seen n (λ f. None);
          put = changed_at m.put n (λ f. None);
          disk = noted disk o;
          world = ap (λ (running : List ℕ). Busy (record { jobs = 1; goals = goals; done = n ∷ ns; running = running; broken = []; seen = changed_at m.seen n (λ f. None); put = changed_at m.put n (λ f. None) }) (noted disk o)) (ended n);
          nothing = noted_nothing disk o nothing wrote;
          legal = (((may, λ h. h, λ h. h), e, omega arith), (may_end, tt));
        }

    -- a node has its turn
    one_turn : LeadsTo (Busy (quiet seen put ns) disk) (node_steps g n) (n ∷ ns)
    one_turn =
        let b = (node g n).recipe in
        ⊎_elim (λ e. subst (λ (l : List Step). LeadsTo (Busy (quiet seen put ns) disk) l (n ∷ ns))
        (sym (cond-true b (Begin n ∷ End n ∷ []) (Pass n ∷ []) e)) (run_turn e))
        (λ e. subst (λ (l : List Step). LeadsTo (Busy (quiet seen put ns) disk) l (n ∷ ns))
        (sym (cond-false b (Begin n ∷ End n ∷ []) (Pass n ∷ []) e)) (pass_turn e)) (cases_Bool b)

  -- what one list of steps leads to, and another one from there
  leads_on : (from : World) (front back : List Step) (ns ms : List ℕ) → (a : LeadsTo from front ns) → LeadsTo (Busy (quiet a.seen a.put ns) a.disk) back ms → LeadsTo from (front ++ back) ms
  leads_on from front back ns ms a b = record {
    seen = b.seen;
    put = b.put;
    disk = b.disk;
    world = fold-append (after g empty_setting) from front back ∙ ap (λ (w : World). after_all g empty_setting w back) a.world ∙ b.world;
    nothing = b.nothing;
    legal = legal-append g empty_setting from front back a.legal (subst (λ (w : World). IsLegal g empty_setting w back) (sym a.world) b.legal);
  }

  -- the nodes of a turn list have their turns
  all_turns : IsPart goals g.goals → (ns : List ℕ) → IsSchedule g goals ns → LeadsTo (Idle empty_disk) (Make 1 goals ∷ steps_of g ns) ns
  all_turns part [] turns = record { seen = λ t f. None; put = λ t f. None; disk = empty_disk; world = refl; nothing = λ o h. absurd h; legal = ((omega arith, part), tt) }
  all_turns part (n ∷ ns) turns =
      let a = all_turns part ns turns.1 in
      leads_on (Idle empty_disk) (Make 1 goals ∷ steps_of g ns) (node_steps g n) ns (n ∷ ns) a (one_turn a.seen a.put a.disk a.nothing ns n turns.0)

  -- and then the recipe of t begins
  pub begins_last : (o t : ℕ) → IsPart goals g.goals → (ns : List ℕ) → IsSchedule g goals ns → ¬ (Has ns o) → CanStart g goals ns t → (node g t).recipe ≡ true → ShowsNotBefore g o t goals ns
  begins_last o t part ns turns lacks may recipe =
      let a = all_turns part ns turns in
      let before : List Step = Make 1 goals ∷ steps_of g ns in
      let begins : IsLegal g empty_setting (Busy (quiet a.seen a.put ns) a.disk) (Begin t ∷ []) = (((may, λ h. h, λ h. h), recipe, omega arith), tt) in
      let end : after_all g empty_setting (Idle empty_disk) (before ++ Begin t ∷ []) ≡ Busy (begun (quiet a.seen a.put ns) t) a.disk = fold-append (after g empty_setting) (Idle empty_disk) before (Begin t ∷ []) ∙ ap (λ (w : World). after_all g empty_setting w (Begin t ∷ [])) a.world in
      record {
        part = part;
        turns = turns;
        lacks = lacks;
        start = record { nothing_known = refl; given = λ f file e. absurd (cc); stamped = λ f file e. absurd (cc) };
        legal = legal-append g empty_setting (Idle empty_disk) before (Begin t ∷ []) a.legal (subst (λ (w : World). IsLegal g empty_setting w (Begin t ∷ [])) (sym a.world) begins);
        undone = subst (λ (w : World). IsUndone o w) (sym end) lacks;
      }

-- so a legal history shows it
pub not_before_is_shown : NotBeforeIsShown
not_before_is_shown g o t is not_before =
    let shown = comes_without g is o t not_before in
    (g.goals, shown.0, begins_last g g.goals o t (wanted_part g g.goals shown.0 t shown.3.wanted) shown.0 shown.1 shown.2 shown.3 (has_recipe g o t not_before))
