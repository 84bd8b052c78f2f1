-- There is a history that shows a stale read: reachability by carrying is decidable.
use Rattle.std.proofs.Common.{◌≡◌, ℕ, ◌+◌, List, [], ◌∷◌, ◌++◌, true, false, ◌⊎◌, inl, inr, ⊎_elim, refl, sym, subst}
use Rattle.std.proofs.lemmas.Bool.{cases_Bool, cases_eq}
use Rattle.mk_graph.proofs.Nodes.{recipe_is_node}
use Rattle.mk_graph.specs.Membership.{Has}
use Rattle.mk_graph.specs.Graph.{Graph, node, prerequisites, IsGraph}
use Rattle.mk_build.specs.Setting.{FileName, Setting, is_editable, name, reads, writes}
use Rattle.mk_build.specs.World.{Disk, World, Idle, Busy, disk_of}
use Rattle.mk_graph.specs.Schedules.{CanStart, IsSchedule, IsPart}
use Rattle.mk_build.specs.Steps.{Step, Edit, Pass, make_of, after, after_all}
use Rattle.mk_graph.specs.Serial.{order_from}
use Rattle.mk_build.specs.SerialMake.{one_make, whole_run}
use Rattle.mk_build.specs.Ways.{Carries}
use Rattle.mk_build.specs.Right.{AreSound}
use Rattle.mk_build.specs.NodeByNode.{to_put, MakesAllBut, ends, passes, runs}
use Rattle.mk_build.specs.Stale.{Chain, here, further, IsEditOf, ShowsStale}
use Rattle.mk_graph.proofs.Turning.{turn_has_before}
use Rattle.mk_build.proofs.Sound.{writer_has_recipe, reader_has_recipe, carried_is_before}
use Rattle.mk_build.proofs.CleanEnd.{cases_among}
use Rattle.mk_build.proofs.StaleHistory.{all_goals, all_nodes, all_turns, recipe_among}

-- a list has an element whose name is among the files, or none
cases_named : (g : Graph) (files : List FileName) (ps : List ℕ) → ((p : ℕ) × Has ps p × Has files (name g p)) ⊎ ((p : ℕ) → Has ps p → ¬ (Has files (name g p)))
cases_named g files [] = inr (λ p h. absurd h)
cases_named g files (q ∷ ps) =
    ⊎_elim (λ here. inl (q, inl refl, here)) (λ not. ⊎_elim (λ some. inl (some.0, inr some.1, some.2)) (λ none. inr (λ p h among. ⊎_elim (λ same. not (subst (λ (k : ℕ). Has files (name g k)) (sym same) among)) (λ there. none p there among) h)) (cases_named g files ps)) (cases_among files (name g q))

-- a node carries another one or doesn't
cases_carries : (g : Graph) (s : Setting) (m n : ℕ) → Carries g s m n ⊎ (¬ (Carries g s m n))
cases_carries g s m n = ⊎_elim (λ some. inl some) (λ none. inr (λ carries. none carries.0 carries.1 carries.2)) (cases_named g (writes g s n) (prerequisites g m))

-- the last link of a chain
last_link : (g : Graph) (s : Setting) (t : ℕ) {n : ℕ} → Chain g s t n → (t ≡ n) ⊎ ((m : ℕ) × Chain g s t m × Carries g s m n)
last_link g s t here = inl refl
last_link g s t (further m chain carries) = inr (m, chain, carries)

module _ (g : Graph) (s : Setting) (graph : IsGraph g) (sound : AreSound g s) (t : ℕ) (t_recipe : (node g t).recipe ≡ true) where
  -- decides whether the node is reached
  abbrev IsTold : ℕ → Type 0
  IsTold n = Chain g s t n ⊎ (¬ (Chain g s t n))

  -- what is reached has a recipe
  chain_has_recipe : {n : ℕ} → Chain g s t n → (node g n).recipe ≡ true
  chain_has_recipe here = t_recipe
  chain_has_recipe (further {o = n} m chain carries) = writer_has_recipe g s n (name g carries.0) carries.2

  -- among these a node is reached that carries this one, or none
  cases_carried : (ms : List ℕ) (n : ℕ) → ((m : ℕ) → Has ms m → IsTold m) → ((m : ℕ) × Chain g s t m × Carries g s m n) ⊎ ((m : ℕ) → Has ms m → Chain g s t m → ¬ (Carries g s m n))
  cases_carried [] n told = inr (λ m h. absurd h)
  cases_carried (k ∷ ms) n told =
      let rest = cases_carried ms n (λ m h. told m (inr h)) in
      let not_here : ((chain : Chain g s t k) → ¬ (Carries g s k n))
      → ((m : ℕ) × Chain g s t m × Carries g s m n) ⊎ ((m : ℕ) → Has (k ∷ ms) m → Chain g s t m
      → ¬ (Carries g s m n)) = λ not. ⊎_elim (λ some. inl some)
      (λ none. inr (λ m h chain carries. ⊎_elim (λ same. not
      (subst (λ (j : ℕ). Chain g s t j) (sym same) chain)
      (subst (λ (j : ℕ). Carries g s j n) (sym same) carries)) (λ there. none m there chain carries) h))
      rest in
      ⊎_elim (λ chain. ⊎_elim (λ carries. inl (k, chain, carries)) (λ not. not_here (λ c. not)) (cases_carries g s k n)) (λ not. not_here (λ chain. absurd (not chain))) (told k (inl refl))

  -- the next node of a schedule, once it is decided for all nodes after it
  told_next : (front ns : List ℕ) (k : ℕ) → CanStart g g.goals ns k → IsSchedule g g.goals ns → IsPart g.goals g.goals → ((m : ℕ) → (node g m).recipe ≡ true → Has front m ⊎ Has (k ∷ ns) m) → ((m : ℕ) → Has front m → IsTold m) → IsTold k
  told_next front ns k may turns part all told =
      ⊎_elim (λ some. inl (further some.0 some.1 some.2)) (λ none. ⊎_elim
      (λ same. inl (subst (λ (j : ℕ). Chain g s t j) same here))
      (λ differ. inr (λ chain. ⊎_elim differ (λ link. let recipe = chain_has_recipe link.1 in let before =
      carried_is_before g s graph sound link.0 k link.2 in ⊎_elim
      (λ ahead. none link.0 ahead link.1 link.2) (λ among. ⊎_elim
      (λ same. may.not_done (before recipe g.goals ns part turns
      (subst (λ (j : ℕ). CanStart g g.goals ns j) same may)))
      (λ there. may.not_done (turn_has_before g g.goals part k link.0 recipe before ns turns there))
      among) (all link.0 recipe)) (last_link g s t chain))) (cases_eq t k)) (cases_carried front k told)

  -- all nodes of a turn list
  told_down : (ns front : List ℕ) → IsSchedule g g.goals ns → IsPart g.goals g.goals → ((m : ℕ) → (node g m).recipe ≡ true → Has front m ⊎ Has ns m) → ((m : ℕ) → Has front m → IsTold m) → (n : ℕ) → Has ns n → IsTold n
  told_down [] front turns part all told n h = absurd h
  told_down (k ∷ ns) front turns part all told n h =
      let next = told_next front ns k turns.0 turns.1 part all told in
      let rest = told_down ns (k ∷ front) turns.1 part (λ m recipe. ⊎_elim (λ ahead. inl (inr ahead)) (λ among. ⊎_elim (λ same. inl (inl same)) (λ there. inr there) among) (all m recipe)) (λ m ahead. ⊎_elim (λ same. subst (λ (j : ℕ). IsTold j) same next) (λ there. told m there) ahead) n in
      ⊎_elim (λ same. subst (λ (j : ℕ). IsTold j) same next) (λ there. rest there) h

  -- decides it for each recipe
  told_of : (n : ℕ) → (node g n).recipe ≡ true → IsTold n
  told_of n recipe = told_down (all_nodes g s graph sound) [] (all_turns g s graph sound).0 (all_goals g s graph sound t (recipe_is_node g t t_recipe)) (λ m m_recipe. inr (recipe_among g s graph sound m m_recipe)) (λ m h. absurd h) n (recipe_among g s graph sound n recipe)

-- if it is decidable which recipes are to be passed, there is a make that passes exactly these
pub makes_exist : (g : Graph) (s : Setting) (passed : ℕ → Type 0) → ((n : ℕ) → (node g n).recipe ≡ true → passed n ⊎ (¬ (passed n))) → (w : World) (ns : List ℕ) → (steps : List Step) × MakesAllBut g s passed w ns steps
makes_exist g s passed told w [] = ([], ends)
makes_exist g s passed told w (n ∷ ns) =
    let passing : ((node g n).recipe ≡ false) ⊎ passed n → (steps : List Step) × MakesAllBut g s passed w (n ∷ ns) steps = λ why. let rest = makes_exist g s passed told (after g s w (Pass n)) ns in (Pass n ∷ rest.0, passes why rest.1) in
    ⊎_elim (λ recipe. ⊎_elim (λ is. passing (inr is)) (λ not. let rest = makes_exist g s passed told
    (after_all g s w (whole_run g s n (to_put g s (disk_of w) n))) ns in
    (whole_run g s n (to_put g s (disk_of w) n) ++ rest.0, runs recipe not rest.1)) (told n recipe))
    (λ none. passing (inl none)) (cases_Bool (node g n).recipe)

-- there is an edit of an editable file, or none of another
pub edit_exists : (s : Setting) (f : FileName) (d : Disk) → (edit : List Step) × IsEditOf s f d edit
edit_exists s f d = ⊎_elim (λ editable. (Edit f (d.clock + 1) ∷ [], inl (editable, refl))) (λ not. ([], inr (not, refl))) (cases_Bool (is_editable s f))

-- there is a history of the described shape
pub stale_exists : (g : Graph) (s : Setting) → IsGraph g → AreSound g s → (t : ℕ) (f : FileName) → Has (reads g s t) f → (d : Disk) → (first edit second : List Step) × ShowsStale g s t f d first edit second
stale_exists g s graph sound t f read d =
    let first = makes_exist g s (λ n. ⊥) (λ n recipe. inr (λ none. none)) (Busy (make_of 1 g.goals) d) (order_from g g.goals) in
    let edit = edit_exists s f (disk_of (after_all g s (Idle d) (one_make g.goals first.0))) in
    let second = makes_exist g s (Chain g s t) (told_of g s graph sound t (reader_has_recipe g s t f read)) (Busy (make_of 1 g.goals) (disk_of (after_all g s (Idle d) (one_make g.goals first.0 ++ edit.0)))) (order_from g g.goals) in
    (first.0, edit.0, second.0, record { makes_all = first.1; edits = edit.1; makes_again = second.1 })
