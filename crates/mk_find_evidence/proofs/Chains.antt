-- A search over carried recipes visits just what chains of them lead to.
use Rattle.std.proofs.Common.{◌≡◌, ℕ, ◌+◌, ◌<◌, ◌≤◌, Option, Some, None, MatchOption, List, [], ◌∷◌, ◌++◌, length, ◌⊎◌, inl, inr, ◌↔◌, refl, sym, ◌∙◌, ap, subst, arith}
use Rattle.std.specs.Prelude.{nat_eq}
use Rattle.std.proofs.Math.Nat.{eq-or-lt_of_le}
use Rattle.std.proofs.lemmas.Bool.{false≢true, false_from_ne_true, eqb-true, eq-eqb}
use Rattle.mk_lemmas.proofs.Members.{Has-from_then, Has-right, cases_Has}
use Rattle.mk_graph.proofs.Nodes.{recipe_is_node}
use Rattle.mk_graph.specs.Graph.{Graph, node}
use Rattle.mk_graph.specs.Membership.{Has}
use Rattle.mk_build.specs.Setting.{Setting, name}
use Rattle.mk_build.specs.Stale.{Chain, here, further}
use Rattle.mk_build.specs.Ways.{Carries}
use Rattle.mk_graph_search.specs.Ways.{end, IsWay, successors}
use Rattle.mk_graph_search.specs.Places.{SearchInput, StandsAt, EndsAt, HasAtMost}
use Rattle.mk_graph_search.specs.Laws.{NoneByPlaces, OneWayAtAPlace, PlacesAreBelow, SaysNoBefore}

-- the last of a list stands in it
last_stands : (ways : List (List ℕ)) (way : List ℕ) → Has (ways ++ way ∷ []) way
last_stands ways way = Has-right ways (way ∷ []) way (inl refl)

module _ (g : Graph) (s : Setting) (succ : ℕ → List ℕ) where
  -- In the set stands where the ways at all places before this one end; and chains lead to all that
  -- stands there.
  pub record HoldsBefore (t place : ℕ) (set : List ℕ) : Type 0 where
    pub carried_closure : (n : ℕ) → Has set n → Chain g s t n
    pub all : (j : ℕ) → j < place → (way : List ℕ) → StandsAt succ t j way → Has set (end t way)

module _ (g : Graph) (s : Setting) (succ : ℕ → List ℕ) (carries : (t o : ℕ) → Has (succ t) o ↔ Carries g s t o) where
  -- a way is a chain
  way_is_chain : (t : ℕ) (way : List ℕ) → IsWay succ t way → Chain g s t (end t way)
  way_is_chain t [] is = here
  way_is_chain t (n ∷ way) is = further (end t way) (way_is_chain t way is.1) ((carries (end t way) n).0 is.0)

  -- and the other way round
  chain_is_way : (t : ℕ) {n : ℕ} → Chain g s t n → (way : List ℕ) × IsWay succ t way × (end t way ≡ n)
  chain_is_way t here = ([], tt, refl)
  chain_is_way t (further {o = o} n chain carried) =
      let before = chain_is_way t chain in
      (o ∷ before.0, (subst (λ (m : ℕ). Has (succ m) o) (sym before.2) ((carries n o).1 carried), before.1), refl)

  -- what is carried are nodes
  carried_low : (n o : ℕ) → Has (succ n) o → o < length g.nodes
  carried_low n o h =
      let carried = (carries n o).0 h in
      recipe_is_node g o ((Has-from_then (node g o).recipe (s.writes (name g o)) (name g carried.0) carried.2).0)

  -- so is the end of a way
  end_low : (t : ℕ) → t < length g.nodes → (way : List ℕ) → IsWay succ t way → end t way < length g.nodes
  end_low t low [] is = low
  end_low t low (n ∷ way) is = carried_low (end t way) n is.0

  -- what ends at a place is a node
  pub ended_low : (t place number : ℕ) → t < length g.nodes → EndsAt succ t place number → number < length g.nodes
  ended_low t place number low at =
      let is = (at.stands.beginning.first at.way (last_stands at.stands.preceding at.way)).is_way in
      subst (λ (n : ℕ). n < length g.nodes) at.ends (end_low t low at.way is)

  -- places are below the number of nodes
  pub place_low : PlacesAreBelow → (t place number : ℕ) → t < length g.nodes → EndsAt succ t place number → place < length g.nodes
  place_low below t place number low at = below succ t (length g.nodes) low carried_low place at.way at.stands

  -- before the first place
  pub holds_first : (t : ℕ) (set : List ℕ) → ((n : ℕ) → ¬ (Has set n)) → HoldsBefore g s succ t 0 set
  holds_first t set empty = record { carried_closure = λ n h. absurd (empty n h); all = λ j low. absurd (omega arith) }

  -- one place more
  pub holds_more : OneWayAtAPlace → (t place number : ℕ) (old new : List ℕ) → HoldsBefore g s succ t place old → EndsAt succ t place number → ((n : ℕ) → Has new n ↔ ((n ≡ number) ⊎ Has old n)) → HoldsBefore g s succ t (place + 1) new
  holds_more one t place number old new before at grown = record {
    carried_closure = λ n h. elim ((grown n).0 h) [ inl e ↦ subst (λ (m : ℕ). Chain g s t m) (sym e) reached | inr there ↦ before.carried_closure n there ];
    all = λ j low way stands. by j way stands (eq-or-lt_of_le (le_of j low));
  }
    where
      reached : Chain g s t number
      reached =
          let is = (at.stands.beginning.first at.way (last_stands at.stands.preceding at.way)).is_way in
          subst (λ (m : ℕ). Chain g s t m) at.ends (way_is_chain t at.way is)

      le_of : (j : ℕ) → j < place + 1 → j ≤ place
      le_of j low = omega arith

      by : (j : ℕ) (way : List ℕ) → StandsAt succ t j way → (j ≡ place) ⊎ (j < place) → Has new (end t way)
      by j way stands (inr low) = (grown (end t way)).1 (inr (before.all j low way stands))
      by j way stands (inl e) =
          let same : way ≡ at.way = one succ t place way at.way (subst (λ (k : ℕ). StandsAt succ t k way) e stands) at.stands in
          (grown (end t way)).1 (inl (ap (end t) same ∙ at.ends))

  -- where there are no more places, just what chains lead to stands there
  pub holds_all : NoneByPlaces → (t place : ℕ) (set : List ℕ) → HoldsBefore g s succ t place set → HasAtMost succ t place → (n : ℕ) → Has set n ↔ Chain g s t n
  holds_all none t place set before few n = (before.carried_closure n, λ chain. elim (cases_Has set n) [ inl there ↦ there | inr out ↦ absurd (lost out chain) ])
    where
      says_no : ¬ (Has set n) → SaysNoBefore succ t (λ m. nat_eq m n) place
      says_no out j low way stands =
          false_from_ne_true (nat_eq (end t way) n) (λ e. out (subst (λ (m : ℕ). Has set m) (eqb-true (end t way) n e) (before.all j low way stands)))

      lost : ¬ (Has set n) → ¬ (Chain g s t n)
      lost out chain =
          let way = chain_is_way t chain in
          false≢true (sym (none succ t (λ m. nat_eq m n) place (says_no out) few way.0 way.1) ∙ eq-eqb (end t way.0) n way.2)

-- what is so of a search is so of its rows
pub moved : (P : (ℕ → List ℕ) → ℕ → Type 0) (succ : ℕ → List ℕ) (task : SearchInput) (t : ℕ) → ((n : ℕ) → successors task.rows n ≡ succ n) → task.start ≡ t → P (successors task.rows) task.start → P succ t
moved P succ task t same start h =
    let are : successors task.rows ≡ succ = (λ i n. same n i) in
    subst (λ (k : ℕ). P succ k) start (subst (λ (k : ℕ → List ℕ). P k task.start) are h)

-- what a search has answered of a place: a node, or that there are no more
module _ (succ : ℕ → List ℕ) (task : SearchInput) (t place : ℕ) (same : (n : ℕ) → successors task.rows n ≡ succ n) (start : task.start ≡ t) (o : Option ℕ) (found : MatchOption o (HasAtMost (successors task.rows) task.start place) (λ node. EndsAt (successors task.rows) task.start place node)) where
  pub ended : (number : ℕ) → o ≡ Some number → EndsAt succ t place number
  ended number is =
      moved (λ k n. EndsAt k n place number) succ task t same start (subst (λ (p : Option ℕ). MatchOption p (HasAtMost (successors task.rows) task.start place) (λ node. EndsAt (successors task.rows) task.start place node)) is found)

  pub ran_out : o ≡ None → HasAtMost succ t place
  ran_out is =
      moved (λ k n. HasAtMost k n place) succ task t same start (subst (λ (p : Option ℕ). MatchOption p (HasAtMost (successors task.rows) task.start place) (λ node. EndsAt (successors task.rows) task.start place node)) is found)
