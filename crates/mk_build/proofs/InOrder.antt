-- In each legal history the nodes of the make in progress are done in the order of a turn list.
use Rattle.std.proofs.Common.{◌≡◌, ℕ, List, [], ◌∷◌, true, inl, inr, ⊎_elim, sym, ◌∙◌, subst, filter, ap}
use Rattle.std.specs.Prelude.{not, nat_eq, cond}
use Rattle.std.proofs.lemmas.Bool.{cases_Bool, cond-true, cond-false, eqb-true, eqb-false}
use Rattle.mk_graph.specs.Membership.{Has}
use Rattle.mk_graph.specs.Graph.{Graph, node}
use Rattle.mk_build.specs.Setting.{Setting}
use Rattle.mk_build.specs.World.{Disk, Making, World, Idle, Busy}
use Rattle.mk_graph.specs.Schedules.{CanStart, IsSchedule, IsPart}
use Rattle.mk_build.specs.Steps.{Step, Edit, Make, Begin, Look, Put, End, Break, Pass, Stop, EndMake, Ready, Allowed, after, finished, begun, broken_off, IsLegal, after_all}
use Rattle.mk_graph.proofs.Turning.{CanStart-grow}

-- what remains when one is taken out of a list
pub Has-without : (t x : ℕ) (ns : List ℕ) → Has (filter (λ n. not (nat_eq t n)) ns) x → Has ns x × (¬ (t ≡ x))
Has-without t x [] h = absurd h
Has-without t x (n ∷ ns) h =
    let rest = filter (λ n. not (nat_eq t n)) ns in
    ⊎_elim (λ same. let e : cond (not (nat_eq t n)) (n ∷ rest) rest
    ≡ rest = cond-false (not (nat_eq t n)) (n ∷ rest) rest (ap not same) in let found = Has-without t x ns
    (subst (λ (l : List ℕ). Has l x) e h) in (inr found.0, found.1))
    (λ other. let e : cond (not (nat_eq t n)) (n ∷ rest) rest ≡ n
    ∷ rest = cond-true (not (nat_eq t n)) (n ∷ rest) rest (ap not other) in elim
    (subst (λ (l : List ℕ). Has l x) e h) [
      | inl here ↦ (
        inl here,
        λ same. eqb-false t n other
            (same ∙ sym here),
      )
      | inr there ↦ (inr (Has-without t x ns there).0, (Has-without t x ns there).1)
    ])
    (cases_Bool (nat_eq t n))

-- and all of it does
pub Has-from_without : (t x : ℕ) (ns : List ℕ) → Has ns x → ¬ (t ≡ x) → Has (filter (λ n. not (nat_eq t n)) ns) x
Has-from_without t x [] h differ = absurd h
Has-from_without t x (n ∷ ns) h differ =
    let rest = filter (λ n. not (nat_eq t n)) ns in
    ⊎_elim (λ same. let e : cond (not (nat_eq t n)) (n ∷ rest) rest
    ≡ rest = cond-false (not (nat_eq t n)) (n ∷ rest) rest (ap not same) in subst
    (λ (l : List ℕ). Has l x) (sym e) (⊎_elim (λ here. absurd (differ (eqb-true t n same ∙ here)))
    (λ there. Has-from_without t x ns there differ) h))
    (λ other. let e : cond (not (nat_eq t n)) (n ∷ rest) rest ≡ n
    ∷ rest = cond-true (not (nat_eq t n)) (n ∷ rest) rest (ap not other) in subst
    (λ (l : List ℕ). Has l x) (sym e) (⊎_elim (λ here. inl here)
    (λ there. inr (Has-from_without t x ns there differ)) h)) (cases_Bool (nat_eq t n))

-- A make goes in order: the nodes done are a turn list, and the turns of the running recipes may come behind it.
pub record InOrder (g : Graph) (m : Making) : Type 0 where
  pub part : IsPart m.goals g.goals
  pub turns : IsSchedule g m.goals m.done
  pub recipes : (t : ℕ) → Has m.running t → (node g t).recipe ≡ true
  pub running : (t : ℕ) → Has m.running t → CanStart g m.goals m.done t

-- a make in progress goes in order
abbrev pub GoesInOrder : Graph → World → Type 0
GoesInOrder g (Idle d) = Unit {0}
GoesInOrder g (Busy m d) = InOrder g m

module _ (g : Graph) (m : Making) (is : InOrder g m) where
  -- a recipe that runs isn't done
  pub runs_not_done : (t : ℕ) → Has m.running t → ¬ (Has m.done t)
  runs_not_done t runs = (is.running t runs).not_done

  -- after a recipe began
  pub begun_in_order : (t : ℕ) → Ready g m t → (node g t).recipe ≡ true → InOrder g (begun m t)
  begun_in_order t ready recipe = record {
    part = is.part;
    turns = is.turns;
    recipes = λ x h. ⊎_elim (λ here. subst (λ (k : ℕ). (node g k).recipe ≡ true) here recipe) (λ there. is.recipes x there) h;
    running = λ x h. ⊎_elim (λ here. subst (λ (k : ℕ). CanStart g m.goals m.done k) here ready.0) (λ there. is.running x there) h;
  }

  -- after a recipe broke off
  pub broken_in_order : (t : ℕ) → InOrder g (broken_off m t)
  broken_in_order t = record {
    part = is.part;
    turns = is.turns;
    recipes = λ x h. is.recipes x (Has-without t x m.running h).0;
    running = λ x h. is.running x (Has-without t x m.running h).0;
  }

  -- after a node was done, whose turn had come
  pub finished_in_order : (t : ℕ) → CanStart g m.goals m.done t → InOrder g (finished m t)
  finished_in_order t may = record {
    part = is.part;
    turns = (may, is.turns);
    recipes = λ x h. is.recipes x (Has-without t x m.running h).0;
    running = λ x h. let left = Has-without t x m.running h in CanStart-grow m.done (t ∷ m.done) (λ n there. inr there) g m.goals x (λ d. ⊎_elim (λ here. left.1 here) (λ there. (is.running x left.0).not_done there) d) (is.running x left.0);
  }

module _ (g : Graph) (s : Setting) where
  -- each step keeps the order
  pub steps_in_order : (w : World) (step : Step) → GoesInOrder g w → Allowed g s w step → GoesInOrder g (after g s w step)
  steps_in_order (Idle d) (Edit f c) is may = tt
  steps_in_order (Idle d) (Make jobs goals) is may = record { part = may.1; turns = tt; recipes = λ t h. absurd h; running = λ t h. absurd h }
  steps_in_order (Idle d) (Begin t) is may = absurd may
  steps_in_order (Idle d) (Look t f) is may = absurd may
  steps_in_order (Idle d) (Put t f c) is may = absurd may
  steps_in_order (Idle d) (End t) is may = absurd may
  steps_in_order (Idle d) (Break t removed) is may = absurd may
  steps_in_order (Idle d) (Pass t) is may = absurd may
  steps_in_order (Idle d) Stop is may = absurd may
  steps_in_order (Idle d) EndMake is may = absurd may
  steps_in_order (Busy m d) (Edit f c) is may = absurd may
  steps_in_order (Busy m d) (Make jobs goals) is may = absurd may
  steps_in_order (Busy m d) (Begin t) is may = begun_in_order g m is t may.0 may.1
  steps_in_order (Busy m d) (Look t f) is may = record { part = is.part; turns = is.turns; recipes = is.recipes; running = is.running }
  steps_in_order (Busy m d) (Put t f c) is may = record { part = is.part; turns = is.turns; recipes = is.recipes; running = is.running }
  steps_in_order (Busy m d) (End t) is may = finished_in_order g m is t (is.running t may.runs)
  steps_in_order (Busy m d) (Break t removed) is may = broken_in_order g m is t
  steps_in_order (Busy m d) (Pass t) is may = finished_in_order g m is t may.0.0
  steps_in_order (Busy m d) Stop is may = tt
  steps_in_order (Busy m d) EndMake is may = tt

  -- what each allowed step keeps, each legal history keeps
  pub kept : (P : World → Type 0) → ((w : World) (step : Step) → P w → Allowed g s w step → P (after g s w step)) → (w : World) (steps : List Step) → P w → IsLegal g s w steps → P (after_all g s w steps)
  kept P keeps w [] is legal = is
  kept P keeps w (step ∷ steps) is legal = kept P keeps (after g s w step) steps (keeps w step is legal.0) legal.1

  -- so each legal history goes in order
  pub goes_in_order : (d : Disk) (steps : List Step) → IsLegal g s (Idle d) steps → GoesInOrder g (after_all g s (Idle d) steps)
  goes_in_order d steps legal = kept (GoesInOrder g) steps_in_order (Idle d) steps tt legal
