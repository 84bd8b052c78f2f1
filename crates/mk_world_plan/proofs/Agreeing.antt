-- Makes of a run and of the history that it follows: they agree in all but nodes without recipe that are done, and in the order of goals and of what is done.
use Rattle.std.proofs.Common.{◌≡◌, ℕ, ◌<◌, Bool, true, false, cond, not, None, List, [], ◌∷◌, length, filter, nat_eq, refl, sym, ap, ◌∙◌, subst, inl, inr}
use Rattle.std.proofs.lemmas.Bool.{true≢false, eqb-true, eq-eqb}
use Rattle.mk_lemmas.proofs.Members.{Has-from_has, not-from_has}
use Rattle.mk_graph.proofs.OpenGroups.{InOpenGroup-Has}
use Rattle.mk_world.proofs.Idle.{first_is_idle}
use Rattle.mk_graph.specs.Membership.{Has, has, IsWithin}
use Rattle.mk_graph.specs.Graph.{Graph, IsGraph, node}
use Rattle.mk_graph.specs.Serial.{serial_order}
use Rattle.mk_graph.specs.Laws.{SerialReachesEachOnce}
use Rattle.mk_graph.specs.ScheduleLaws.{CanStartStays}
use Rattle.mk_graph.specs.Schedules.{Wanted, goal, onward, CanStart}
use Rattle.mk_build.specs.World.{Making}
use Rattle.mk_build.specs.Steps.{Ready, changed_at, finished}
use Rattle.mk_world.specs.Running.{IsIdle, AreNotIdle, Passes}

-- each node without recipe came when its turn might come
abbrev pub IdleInTurn : Graph → (goals : List ℕ) → List ℕ → Type 0
IdleInTurn g goals [] = Unit {0}
IdleInTurn g goals (n ∷ ns) = ((node g n).recipe ≡ false → CanStart g goals ns n) × IdleInTurn g goals ns

-- The make k of the run agrees with the make m of the history.
pub record AgreesIn (g : Graph) (m k : Making) : Type 0 where
  pub jobs : k.jobs ≡ m.jobs
  pub goals : IsWithin m.goals k.goals
  pub no_more_goals : IsWithin k.goals m.goals
  pub of_graph : IsWithin k.goals g.goals
  pub running : k.running ≡ m.running
  pub broken : k.broken ≡ m.broken
  pub recipes : (t : ℕ) → Has m.running t → (node g t).recipe ≡ true
  pub broken_recipes : (t : ℕ) → Has m.broken t → (node g t).recipe ≡ true
  pub seen : (t : ℕ) → Has m.running t → k.seen t ≡ m.seen t
  pub put : (t : ℕ) → Has m.running t → k.put t ≡ m.put t
  pub done : (t : ℕ) → (node g t).recipe ≡ true → Has m.done t → Has k.done t
  pub no_more_done : (t : ℕ) → (node g t).recipe ≡ true → Has k.done t → Has m.done t
  pub in_turn : IdleInTurn g m.goals m.done

-- lists of numbers

-- a node that doesn't run is taken out of nothing
pub nothing_out : (n : ℕ) (xs : List ℕ) → ¬ (Has xs n) → filter (λ r. not (nat_eq n r)) xs ≡ xs
nothing_out n [] out = refl
nothing_out n (x ∷ xs) out = at (nat_eq n x) refl (nothing_out n xs (λ h. out (inr h)))
  where
    at : (b : Bool) → nat_eq n x ≡ b → filter (λ r. not (nat_eq n r)) xs ≡ xs → cond (not b) (x ∷ filter (λ r. not (nat_eq n r)) xs) (filter (λ r. not (nat_eq n r)) xs) ≡ x ∷ xs
    at true t ih = absurd (out (inl (sym (eqb-true n x t))))
    at false t ih = ap (λ l. x ∷ l) ih

-- two tables that agree where it matters do so after a change at one place
pub changed_same : {A : Type 0} (at be : ℕ → A) (n : ℕ) (new other : A) (t : ℕ) → new ≡ other → (¬ (n ≡ t) → at t ≡ be t) → changed_at at n new t ≡ changed_at be n other t
changed_same at be n new other t same apart = both (nat_eq n t) refl
  where
    both : (b : Bool) → nat_eq n t ≡ b → cond b new (at t) ≡ cond b other (be t)
    both true e = same
    both false e = apart (λ k. true≢false (sym (eq-eqb n t k) ∙ e))

-- a change at a place that doesn't matter changes nothing
pub changed_beside : {A : Type 0} (at : ℕ → A) (n : ℕ) (new : A) (t : ℕ) → ¬ (n ≡ t) → changed_at at n new t ≡ at t
changed_beside at n new t apart = both (nat_eq n t) refl
  where
    both : (b : Bool) → nat_eq n t ≡ b → cond b new (at t) ≡ at t
    both true e = absurd (apart (eqb-true n t e))
    both false e = refl

-- wanted nodes are nodes

pub wanted_low : (g : Graph) (goals done : List ℕ) → IsGraph g → IsWithin goals g.goals → (n : ℕ) → Wanted g goals done n → n < length g.nodes
wanted_low g goals done is within n (goal h) = is.sound.goals n (within n h)
wanted_low g goals done is within n (onward {p = p} w stands) = is.sound.edges p n (InOpenGroup-Has done (node g p).groups n stands)

-- a node with a recipe is none without
pub on_off : {b : Bool} → b ≡ true → b ≡ false → ⊥
on_off on off = true≢false (sym on ∙ off)

-- a ready node without recipe is passed in the run alone
idle_passed : (g : Graph) (m k : Making) (n : ℕ) → AgreesIn g m k → IsIdle g k n → AgreesIn g m (finished k n)
idle_passed g m k n agrees idle =
    let out : ¬ (Has k.running n) = idle.0.1 in
    let apart : (t : ℕ) → Has m.running t → ¬ (n ≡ t) = λ t h e. on_off (agrees.recipes t h) (subst (λ i. (node g i).recipe ≡ false) e idle.1) in
    record {
      jobs = agrees.jobs;
      goals = agrees.goals;
      no_more_goals = agrees.no_more_goals;
      of_graph = agrees.of_graph;
      running = nothing_out n k.running out ∙ agrees.running;
      broken = agrees.broken;
      recipes = agrees.recipes;
      broken_recipes = agrees.broken_recipes;
      seen = λ t h. changed_beside k.seen n (λ f. None) t (apart t h) ∙ agrees.seen t h;
      put = λ t h. changed_beside k.put n (λ f. None) t (apart t h) ∙ agrees.put t h;
      done = λ t on h. inr (agrees.done t on h);
      no_more_done = λ t on h. elim h [
        | inl e ↦ absurd (on_off on (subst (λ i. (node g i).recipe ≡ false) e idle.1))
        | inr r ↦ agrees.no_more_done t on r
      ];
      in_turn = agrees.in_turn;
    }

-- and so are several
pub passes_agree : (g : Graph) (m k : Making) (ns : List ℕ) (end : Making) → AgreesIn g m k → Passes g k ns end → AgreesIn g m end
passes_agree g m k [] end agrees h = subst (AgreesIn g m) (sym h) agrees
passes_agree g m k (n ∷ ns) end agrees h = passes_agree g m (finished k n) ns end (idle_passed g m k n agrees (first_is_idle g k (serial_order g) n h.0)) h.1

module _ (stay : CanStartStays) (reaches : SerialReachesEachOnce) where
  -- once no idle node is left in the run, all is done that is done in the history
  done_too : (g : Graph) (m k : Making) (ns : List ℕ) → IsGraph g → AgreesIn g m k → AreNotIdle g k (serial_order g) → IdleInTurn g m.goals ns → ((t : ℕ) → (node g t).recipe ≡ true → Has ns t → Has k.done t) → IsWithin ns k.done
  done_too g m k [] is agrees none turns recipes t h = absurd h
  done_too g m k (n ∷ ns) is agrees none turns recipes t h =
      let rest : IsWithin ns k.done = done_too g m k ns is agrees none turns.1 (λ i on there. recipes i on (inr there)) in
      elim h [ inl e ↦ subst (Has k.done) e (here (node g n).recipe refl rest) | inr r ↦ rest t r ]
    where
      idle : IsWithin ns k.done → (node g n).recipe ≡ false → ¬ (Has k.done n) → ⊥
      idle rest off not =
          let may = stay g m.goals k.goals ns k.done agrees.goals rest n not (turns.0 off) in
          let low = wanted_low g k.goals k.done is agrees.of_graph n may.wanted in
          let there = ((reaches g is.no_cycle).1 n).1 (is.sound.reached n low) in
          let still : ¬ (Has k.running n) = λ r. on_off (agrees.recipes n (subst (λ l. Has l n) agrees.running r)) off in
          let sound : ¬ (Has k.broken n) = λ b. on_off (agrees.broken_recipes n (subst (λ l. Has l n) agrees.broken b)) off in
          none n there ((may, still, sound), off)

      here : (b : Bool) → (node g n).recipe ≡ b → IsWithin ns k.done → Has k.done n
      here true e rest = recipes n e (inl refl)
      here false e rest = there (has k.done n) refl rest e
        where
          there : (b : Bool) → has k.done n ≡ b → IsWithin ns k.done → (node g n).recipe ≡ false → Has k.done n
          there true t rest off = Has-from_has k.done n t
          there false t rest off = absurd (idle rest off (not-from_has k.done n t))

  pub all_done : (g : Graph) (m k : Making) → IsGraph g → AgreesIn g m k → AreNotIdle g k (serial_order g) → IsWithin m.done k.done
  all_done g m k is agrees none = done_too g m k m.done is agrees none agrees.in_turn agrees.done

  -- a ready node with a recipe is ready in the run too
  pub ready_too : (g : Graph) (m k : Making) (n : ℕ) → IsGraph g → AgreesIn g m k → IsWithin m.done k.done → (node g n).recipe ≡ true → Ready g m n → Ready g k n
  ready_too g m k n is agrees within on ready = (
    stay g m.goals k.goals m.done k.done agrees.goals within n (λ h. ready.0.not_done (agrees.no_more_done n on h)) ready.0,
    λ r. ready.1 (subst (λ l. Has l n) agrees.running r),
    λ b. ready.2 (subst (λ l. Has l n) agrees.broken b),
  )
