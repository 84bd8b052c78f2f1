-- Visits that are looked up in a table.
use Rattle.std.proofs.Common.{◌≡◌, ℕ, ◌+◌, ◌<◌, ◌≤◌, true, false, eqb, List, [], ◌∷◌, ◌++◌, length, length-append, zero, suc, ◌⊎◌, below_more, inl, inr, Option, Some, None, is_some, MatchOption, cond, refl, sym, ◌∙◌, ap, arith, eqb-true, eq-eqb}
use Rattle.std.proofs.lemmas.Bool.{false≢true, cases_Bool, cases_lt, cond-true, cond-false}
use Rattle.std.specs.Option.{unwrap_or}
use Rattle.mk_graph.specs.Membership.{Has}
use Rattle.mk_graph_search.specs.declared.visits.Visit.{Visit}
use Rattle.mk_graph_search.specs.Progress.{nodes_of, IsVisited}
use Rattle.mk_graph_search.specs.Visits.{node_at, AreNoted}
use Rattle.mk_graph_search.proofs.Lists.{at_front}

-- the place of one more visit is noted
pub noted_more : (visits : List Visit) (old new : ℕ → Option ℕ) (noted node : ℕ) → AreNoted visits old noted → noted < length visits → node ≡ node_at visits noted
    → ((q : ℕ) → new q ≡ cond (eqb node q) (Some noted) (old q)) → AreNoted visits new (noted + 1)
noted_more visits old new noted node so_far lt is says =
    record {
      within = omega arith;
      all = below_more _ _ (λ k low. before k low (cases_Bool (eqb node (node_at visits k)))) (ap is_some (at_node noted (eq-eqb node (node_at visits noted) is)));
      stand = λ n k e. stand n k e (cases_Bool (eqb node n));
    }
  where
    at_node : (k : ℕ) → eqb node (node_at visits k) ≡ true → new (node_at visits k) ≡ Some noted
    at_node k t = says (node_at visits k) ∙ cond-true (eqb node (node_at visits k)) (Some noted) (old (node_at visits k)) t

    before : (k : ℕ) → k < noted → (eqb node (node_at visits k) ≡ true) ⊎ (eqb node (node_at visits k) ≡ false) → is_some (new (node_at visits k)) ≡ true
    before k low (inl t) = ap is_some (at_node k t)
    before k low (inr f) = ap is_some (says (node_at visits k) ∙ cond-false (eqb node (node_at visits k)) (Some noted) (old (node_at visits k)) f) ∙ so_far.all k low

    stand : (n k : ℕ) → new n ≡ Some k → (eqb node n ≡ true) ⊎ (eqb node n ≡ false) → (k < length visits) × (node_at visits k ≡ n)
    stand n k e (inl t) =
        let here : Some noted ≡ Some k = sym (says n ∙ cond-true (eqb node n) (Some noted) (old n) t) ∙ e in
        let same : noted ≡ k = ap (λ (o : Option ℕ). unwrap_or o 0) here in
        (omega arith, ap (node_at visits) (sym same) ∙ (sym is ∙ eqb-true node n t))
    stand n k e (inr f) = so_far.stand n k (sym (says n ∙ cond-false (eqb node n) (Some noted) (old n) f) ∙ e)

-- one more visit behind those that are noted
pub noted_pushed : (visits : List Visit) (place : ℕ → Option ℕ) (noted : ℕ) (visit : Visit) → AreNoted visits place noted → AreNoted (visits ++ visit ∷ []) place noted
noted_pushed visits place noted visit so_far =
    let more : length (visits ++ visit ∷ []) ≡ length visits + 1 = length-append visits (visit ∷ []) in
    let none : Visit = record { node = 0; from = 0 } in
    let same : (k : ℕ) → k < length visits → node_at (visits ++ visit ∷ []) k ≡ node_at visits k = λ k lt. ap (λ (v : Visit). v.node) (at_front visits (visit ∷ []) k none lt) in
    record {
      within = omega (arith, so_far.within);
      all = λ k low. ap (λ n. is_some (place n)) (same k (omega (arith, so_far.within))) ∙ so_far.all k low;
      stand = λ n k e. let here = so_far.stand n k e in (omega (arith, here.0), same k here.0 ∙ here.1);
    }

-- a node that no visit has
pub not_among : (visits : List Visit) (node : ℕ) → ((k : ℕ) → k < length visits → ¬ (node_at visits k ≡ node)) → ¬ (Has (nodes_of visits) node)
not_among [] node none h = absurd h
not_among (v ∷ visits) node none (inl here) = none 0 (omega arith) here
not_among (v ∷ visits) node none (inr there) = not_among visits node (λ k lt. none (suc k) (omega arith)) there

-- a node that a visit has
pub among : (visits : List Visit) (node k : ℕ) → k < length visits → node_at visits k ≡ node → Has (nodes_of visits) node
among [] node k lt e = absurd (omega arith)
among (v ∷ visits) node zero lt e = inl e
among (v ∷ visits) node (suc k) lt e = inr (among visits node k (omega arith) e)

-- a place that was looked for behind those that are noted, where the table has none
pub found_behind : (visits : List Visit) (place : ℕ → Option ℕ) (noted node : ℕ) (r : Option ℕ) → AreNoted visits place noted → (0 < noted → is_some (place node) ≡ false)
    → MatchOption r ((k : ℕ) → noted ≤ k → k < length visits → ¬ (node_at visits k ≡ node)) (λ p. (p < length visits) × (node_at visits p ≡ node))
    → MatchOption r (¬ (Has (nodes_of visits) node)) (λ p. (p < length visits) × (node_at visits p ≡ node))
found_behind visits place noted node None so_far lacks none =
    not_among visits node (λ k lt e. elim (cases_lt k noted) [
      | inl low ↦ false≢true (sym (lacks (omega (arith, low))) ∙ (ap (λ n. is_some (place n)) (sym e) ∙ so_far.all k low))
      | inr high ↦ none k high lt e
    ])
found_behind visits place noted node (Some p) so_far lacks there = there

-- a node that was found is visited already
pub visited_again : (visits : List Visit) (node from : ℕ) (r : Option ℕ) → is_some r ≡ true → MatchOption r (¬ (Has (nodes_of visits) node)) (λ p. (p < length visits) × (node_at visits p ≡ node)) → IsVisited visits visits node from
visited_again visits node from None e there = absurd (false≢true e)
visited_again visits node from (Some p) e there = inl (among visits node p there.0 there.1, refl)
