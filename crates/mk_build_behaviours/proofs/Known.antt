-- Today's coherence of a disk that is coherent by behaviours: with an outcome for each recipe that is as its last run left it.
use Rattle.std.proofs.Common.{◌≡◌, ℕ, zero, suc, ◌<◌, List, [], ◌∷◌, true, Option, Some, map, length, ◌⊎◌, inl, inr, ⊎_elim, refl, sym, ◌∙◌, subst, arith}
use Rattle.std.specs.Prelude.{nat_eq, ◌&&◌}
use Rattle.std.proofs.lemmas.Bool.{cases_Bool, cases_eq, cond-true, cond-false, and_parts, true≢false}
use Rattle.std.proofs.lemmas.Bool.Decides.{Decides-eqb}
use Rattle.mk_build.proofs.CoherentHistories.{same_at}
use Rattle.mk_graph.proofs.Nodes.{recipe_is_node}
use Rattle.mk_graph.specs.Membership.{Has, IsWithin}
use Rattle.mk_graph.specs.Graph.{Graph, node}
use Rattle.mk_build.specs.Setting.{FileName, Setting, reads}
use Rattle.mk_build.specs.World.{Outcome, Disk, content, outcome, same_seen}
use Rattle.mk_build.specs.Clean.{Contents}
use Rattle.mk_build.specs.Coherent.{IsBoundToRun, ContainsOrChanged, IsAsLeft, IsCoherent}
use Rattle.mk_build.proofs.CleanEnd.{cases_among}
use Rattle.mk_build.proofs.Outcomes.{same_seen-Decides, outcome_here}
use Rattle.mk_build_behaviours.specs.Behaviours.{Behaviours, behaviour, path, result}
use Rattle.mk_build_behaviours.specs.CoherentBy.{IsAsLeftBy, IsCoherentBy}
use Rattle.mk_build_behaviours.proofs.Paths.{same_walk}

-- what is found is it, or was found behind it
pub outcome_cases : (o : Outcome) (known : List Outcome) (t : ℕ) (seen : List (Option ℕ)) (w : List ℕ) → outcome (o ∷ known) t seen ≡ Some w → ((o.recipe ≡ t) × (o.seen ≡ seen) × (o.written ≡ w)) ⊎ (outcome known t seen ≡ Some w)
outcome_cases o known t seen w e =
    ⊎_elim (λ yes. let parts = and_parts (nat_eq o.recipe t) (same_seen o.seen seen) yes in
    let same : Some o.written ≡ Some w = sym (cond-true (nat_eq o.recipe t && same_seen o.seen seen) (Some o.written) (outcome known t seen) yes) ∙ e in
    inl ((Decides-eqb o.recipe t).0 parts.0, (same_seen-Decides o.seen seen).0 parts.1, cc))
    (λ no. inr (sym (cond-false (nat_eq o.recipe t && same_seen o.seen seen) (Some o.written) (outcome known t seen) no) ∙ e))
    (cases_Bool (nat_eq o.recipe t && same_seen o.seen seen))

-- what was found of another recipe is found
pub outcome_other : (o : Outcome) (known : List Outcome) (t : ℕ) (seen : List (Option ℕ)) → ¬ (o.recipe ≡ t) → outcome (o ∷ known) t seen ≡ outcome known t seen
outcome_other o known t seen differ =
    ⊎_elim (λ yes. absurd (differ ((Decides-eqb o.recipe t).0 (and_parts (nat_eq o.recipe t) (same_seen o.seen seen) yes).0)))
    (λ no. cond-false (nat_eq o.recipe t && same_seen o.seen seen) (Some o.written) (outcome known t seen) no)
    (cases_Bool (nat_eq o.recipe t && same_seen o.seen seen))

-- what is taken in either case
abbrev pub either : {A : Type 0} → A ⊎ (¬ A) → (Option ℕ) → (Option ℕ) → Option ℕ
either (inl on) x y = x
either (inr off) x y = y

either_on : {A : Type 0} (c : A ⊎ (¬ A)) (x y : Option ℕ) → A → either c x y ≡ x
either_on (inl on) x y h = refl
either_on (inr off) x y h = absurd (off h)

either_off : {A : Type 0} (c : A ⊎ (¬ A)) (x y : Option ℕ) → ¬ A → either c x y ≡ y
either_off (inl on) x y h = absurd (h on)
either_off (inr off) x y h = refl

module _ (g : Graph) (s : Setting) (b : Behaviours) (d : Disk) (is : IsCoherentBy g s b d) where
  -- a node has a recipe and is as its last run left it, or is bound to run if it has a recipe
  abbrev pub State : ℕ → Type 0
  State t = (((node g t).recipe ≡ true) × IsAsLeftBy g s b (is.last t) d t) ⊎ ((node g t).recipe ≡ true → IsBoundToRun g s d t)

  -- each node is in a state
  pub state : (t : ℕ) → State t
  state t =
      ⊎_elim (λ recipe. ⊎_elim (λ bound. inr (λ e. bound)) (λ left. inl (recipe, left)) (is.left t recipe (λ h. h))) (λ none. inr (λ recipe. absurd (true≢false (sym recipe ∙ none)))) (cases_Bool (node g t).recipe)

  -- the path of its last run
  abbrev old_path : ℕ → List FileName
  old_path t = path (behaviour g b t) (is.last t).saw

  -- what its last run saw, and off its path what is there
  abbrev pub sees : ℕ → Contents
  sees t f = either (cases_among (old_path t) f) ((is.last t).saw f) (content d f)

  sees_on : (t : ℕ) (f : FileName) → Has (old_path t) f → sees t f ≡ (is.last t).saw f
  sees_on t f on = either_on (cases_among (old_path t) f) ((is.last t).saw f) (content d f) on

  sees_off : (t : ℕ) (f : FileName) → ¬ (Has (old_path t) f) → sees t f ≡ content d f
  sees_off t f off = either_off (cases_among (old_path t) f) ((is.last t).saw f) (content d f) off

  -- the outcome of its last run
  abbrev outcome_of : ℕ → Outcome
  outcome_of t = record { recipe = t; seen = map (sees t) (reads g s t); written = result (behaviour g b t) (is.last t).saw }

  -- with it where the node is as its last run left it
  abbrev noted_in : (t : ℕ) → State t → List Outcome → List Outcome
  noted_in t (inl left) known = outcome_of t ∷ known
  noted_in t (inr bound) known = known

  -- the outcomes of the first nodes
  abbrev pub known_to : ℕ → List Outcome
  known_to zero = []
  known_to (suc n) = noted_in n (state n) (known_to n)

  -- whether it is as its last run left it
  abbrev pub IsLeft : {t : ℕ} → State t → Type 0
  IsLeft (inl left) = Unit {0}
  IsLeft (inr bound) = ⊥

  -- the outcome of a recipe that is
  found_here : (t : ℕ) (c : State t) (known : List Outcome) → IsLeft c → outcome (noted_in t c known) t (map (sees t) (reads g s t)) ≡ Some (result (behaviour g b t) (is.last t).saw)
  found_here t (inl left) known is_left = outcome_here (outcome_of t) known
  found_here t (inr bound) known is_left = absurd is_left

  found_there : (n t : ℕ) (c : State n) (known : List Outcome) (seen : List (Option ℕ)) → ¬ (n ≡ t) → outcome (noted_in n c known) t seen ≡ outcome known t seen
  found_there n t (inl left) known seen differ = outcome_other (outcome_of n) known t seen differ
  found_there n t (inr bound) known seen differ = refl

  pub found : (n t : ℕ) → t < n → IsLeft (state t) → outcome (known_to n) t (map (sees t) (reads g s t)) ≡ Some (result (behaviour g b t) (is.last t).saw)
  found zero t less is_left = absurd (omega arith)
  found (suc n) t less is_left =
      ⊎_elim (λ same. subst (λ (k : ℕ). IsLeft (state k) → outcome (noted_in n (state n) (known_to n)) k (map (sees k) (reads g s k)) ≡ Some (result (behaviour g b k) (is.last k).saw)) same (λ left. found_here n (state n) (known_to n) left) is_left)
      (λ differ. found_there n t (state n) (known_to n) (map (sees t) (reads g s t)) differ ∙ found n t (omega arith) is_left)
      (cases_eq n t)

  -- all outcomes
  abbrev pub known : List Outcome
  known = known_to (length g.nodes)

  -- the disk on which these are known
  abbrev pub with_known : Disk
  with_known = record d { known = known }

  -- a recipe is left as today's coherence has it
  left_of : (t : ℕ) (c : State t) → state t ≡ c → (node g t).recipe ≡ true → IsBoundToRun g s with_known t ⊎ IsAsLeft g s (record { began = (is.last t).began; ended = (is.last t).ended; saw = sees t }) with_known t
  left_of t (inl left) e recipe =
      inr (
        record {
          written = result (behaviour g b t) (is.last t).saw;
          known = found (length g.nodes) t (recipe_is_node g t recipe) (subst (λ (k : State t). IsLeft k) (sym e) tt);
          holds = left.1.holds;
          during = left.1.during;
        },
        λ f read. ⊎_elim (λ on. subst (λ (v : Option ℕ). ContainsOrChanged g s d f v (is.last t).ended) (sym (sees_on t f on)) (left.1.saw f on)) (λ off. inl (sym (sees_off t f off))) (cases_among (old_path t) f),
      )
  left_of t (inr bound) e recipe = inl (bound recipe)

  -- the disk is coherent with these outcomes
  pub coherent_with_known : IsCoherent g s with_known
  coherent_with_known = record {
    last = λ t. record { began = (is.last t).began; ended = (is.last t).ended; saw = sees t };
    stamped = is.stamped;
    came = is.came;
    left = λ t recipe stopped. left_of t (state t) refl recipe;
    apart = is.apart;
  }

  module _ (clean : Contents) (within : (t : ℕ) → (node g t).recipe ≡ true → IsWithin (path (behaviour g b t) clean) (reads g s t)) where
    -- a run that saw in today's footprint what is clean took today's path
    result_is_clean : (t : ℕ) → (node g t).recipe ≡ true → map (sees t) (reads g s t) ≡ map clean (reads g s t) → result (behaviour g b t) (is.last t).saw ≡ result (behaviour g b t) clean
    result_is_clean t recipe same =
        (same_walk (behaviour g b t) (is.last t).saw clean (λ f on_old on_clean. sym (sees_on t f on_old) ∙ same_at (sees t) clean (reads g s t) same f (within t recipe f on_clean))).1

    true_with : (n t : ℕ) (c : State n) (old : List Outcome) (w : List ℕ) → (node g t).recipe ≡ true → (outcome old t (map clean (reads g s t)) ≡ Some w → w ≡ result (behaviour g b t) clean) → outcome (noted_in n c old) t (map clean (reads g s t)) ≡ Some w → w ≡ result (behaviour g b t) clean
    true_with n t (inl left) old w recipe before e =
        ⊎_elim (λ found. let seen : map (sees t) (reads g s t) ≡ map clean (reads g s t) = subst (λ (k : ℕ). map (sees k) (reads g s k) ≡ map clean (reads g s t)) found.0 found.1 in
        let wrote : result (behaviour g b t) (is.last t).saw ≡ w = subst (λ (k : ℕ). result (behaviour g b k) (is.last k).saw ≡ w) found.0 found.2 in
        sym wrote ∙ result_is_clean t recipe seen)
        before (outcome_cases (outcome_of n) old t (map clean (reads g s t)) w e)
    true_with n t (inr bound) old w recipe before e = before e

    true_to : (n t : ℕ) (w : List ℕ) → (node g t).recipe ≡ true → outcome (known_to n) t (map clean (reads g s t)) ≡ Some w → w ≡ result (behaviour g b t) clean
    true_to zero t w recipe e = absurd (cc)
    true_to (suc n) t w recipe e = true_with n t (state n) (known_to n) w recipe (true_to n t w recipe) e

    -- the outcomes are true of clean contents
    pub known_is_true : (t : ℕ) (w : List ℕ) → (node g t).recipe ≡ true → outcome known t (map clean (reads g s t)) ≡ Some w → w ≡ result (behaviour g b t) clean
    known_is_true t w recipe e = true_to (length g.nodes) t w recipe e
