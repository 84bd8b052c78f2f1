-- What a walk of names meets.
use Rattle.std.proofs.Common.{◌≡◌, ℕ, List, [], ◌∷◌, ◌++◌, inl, inr, ◌⊎◌, refl, sym, subst, ⊎_elim}
use Rattle.mk_lemmas.proofs.Members.{Has-cases, Has-left, Has-right, IsDistinct-push}
use Rattle.mk_graph.specs.Membership.{Has, IsDistinct}
use Rattle.mk_infer.specs.Laws.{Reaches, goal, onward, MeetsWhatIsReached, WalkIsOne}
use Rattle.mk_infer.specs.Walk.{Meets}
use Rattle.mk_infer_laws.proofs.Stacks.{Stack, ends, known, new, of_tree, to_tree}

abbrev Name : Type 0
Name = List ℕ

-- ---- what the walk meets

module _ (needs : Name → List Name) where
  -- what was met stays met
  stays_met : {met todo all : List Name} → Stack needs met todo all → (name : Name) → Has met name → Has all name
  stays_met ends name h = h
  stays_met (known k m) name h = stays_met m name h
  stays_met {met} (new {name = other} u m) name h = stays_met m name (Has-left met (other ∷ []) name h)

  -- what is to do is met
  pub gets_met : {met todo all : List Name} → Stack needs met todo all → (name : Name) → Has todo name → Has all name
  gets_met ends name h = absurd h
  gets_met (known k m) name (inl e) = subst (Has _) e (stays_met m _ k)
  gets_met (known k m) name (inr h) = gets_met m name h
  gets_met {met} (new {name = other} u m) name (inl e) = stays_met m name (Has-right met (other ∷ []) name (inl e))
  gets_met (new {todo} {name = other} u m) name (inr h) = gets_met m name (Has-right (needs other) todo name h)

  -- each name is met once
  pub stay_distinct : {met todo all : List Name} → Stack needs met todo all → IsDistinct met → IsDistinct all
  stay_distinct ends d = d
  stay_distinct (known k m) d = stay_distinct m d
  stay_distinct {met} (new {name} u m) d = stay_distinct m (IsDistinct-push met name u d)

  -- a fact that goes from a name to what it needs
  pub goes_along : {met todo all : List Name} (P : Name → Type 0) → ((n w : Name) → Has all n → P n → Has (needs n) w → P w) → Stack needs met todo all
      → ((m : Name) → Has met m → P m) → ((t : Name) → Has todo t → P t) → (a : Name) → Has all a → P a
  goes_along P step ends of_met of_todo a h = of_met a h
  goes_along P step (known k m) of_met of_todo a h = goes_along P step m of_met (λ t k2. of_todo t (inr k2)) a h
  goes_along {met} P step (new {todo} {name} u m) of_met of_todo a h =
      goes_along P step m
      (λ x k. ⊎_elim (of_met x) (λ k2. ⊎_elim (λ e. subst P e (of_todo name (inl refl))) (λ k3. absurd k3) k2) (Has-cases met (name ∷ []) x k))
      (λ t k. ⊎_elim (λ k2. step name t (stays_met m name (Has-right met (name ∷ []) name (inl refl))) (of_todo name (inl refl)) k2) (λ k2. of_todo t (inr k2)) (Has-cases (needs name) todo t k))
      a h

  -- what is needed by what is met is met
  pub stay_closed : {met todo all : List Name} → Stack needs met todo all → ((n : Name) → Has met n → (w : Name) → Has (needs n) w → Has met w ⊎ Has todo w) → (n : Name) → Has all n → (w : Name) → Has (needs n) w → Has all w
  stay_closed ends closed n h w k = ⊎_elim (λ x. x) (λ x. absurd x) (closed n h w k)
  stay_closed {met} (known {todo} {name} there m) closed n h w k =
      stay_closed m (λ n2 h2 w2 k2. ⊎_elim inl (λ x. ⊎_elim (λ e. inl (subst (Has met) e there)) inr x) (closed n2 h2 w2 k2)) n h w k
  stay_closed {met} (new {todo} {name} u m) closed n h w k =
      stay_closed m (λ n2 h2 w2 k2. ⊎_elim
      (λ old. ⊎_elim (λ x. inl (Has-left met (name ∷ []) w2 x)) (λ x. ⊎_elim (λ e. inl (Has-right met (name ∷ []) w2 (inl e))) (λ y. inr (Has-right (needs name) todo w2 y)) x) (closed n2 old w2 k2))
      (λ now. ⊎_elim (λ e. inr (Has-left (needs name) todo w2 (subst (λ (z : Name). Has (needs z) w2) (sym e) k2))) (λ z. absurd z) now)
      (Has-cases met (name ∷ []) n2 h2)) n h w k

  -- walks of the same names meet the same
  meets_one : {met todo one other : List Name} → Stack needs met todo one → Stack needs met todo other → one ≡ other
  meets_one ends ends = refl
  meets_one (known h m) (known k n) = meets_one m n
  meets_one (known h m) (new u n) = absurd (u h)
  meets_one (new u m) (known k n) = absurd (u k)
  meets_one (new u m) (new v n) = meets_one m n

  -- where what is met needs the same names by both, it is a walk by both
  carried : (other : Name → List Name) {met todo all : List Name} → Stack needs met todo all → ((name : Name) → Has all name → needs name ≡ other name) → Stack other met todo all
  carried other ends same = ends
  carried other (known k m) same = known k (carried other m same)
  carried other {met} (new {todo} {all} {name} u m) same =
      new u (subst (λ (ns : List Name). Stack other (met ++ name ∷ []) (ns ++ todo) all) (same name (stays_met m name (Has-right met (name ∷ []) name (inl refl)))) (carried other m same))

-- ---- laws

pub meets_what_is_reached : MeetsWhatIsReached
meets_what_is_reached needs goals all m = (stay_distinct needs s tt, (λ name. (all_reached name, reached_all name)))
  where
    s : Stack needs [] goals all
    s = of_tree m

    all_reached : (name : Name) → Has all name → Reaches needs goals name
    all_reached name h = goes_along needs (Reaches needs goals) (λ n w k r t. onward r t) s (λ n k. absurd k) (λ t k. goal k) name h

    reached_all : (name : Name) → Reaches needs goals name → Has all name
    reached_all name (goal h) = gets_met needs s name h
    reached_all name (onward {name = before} r h) = stay_closed needs s (λ n k w t. absurd k) before (reached_all before r) name h

pub walk_is_one : WalkIsOne
walk_is_one needs goals one other m n = meets_one needs (of_tree m) (of_tree n)

-- a walk is one by other needs, where what is met needs the same by both
pub meets_by : (needs other : Name → List Name) (goals all : List Name) → ((name : Name) → Has all name → needs name ≡ other name) → Meets needs [] goals all → Meets other [] goals all
meets_by needs other goals all same m = to_tree (carried needs other (of_tree m) same)

-- where what is reached needs the same by both, so does what is met by the other
pub meets_reached : (needs other : Name → List Name) (goals all : List Name) → ((name : Name) → Reaches needs goals name → needs name ≡ other name) → Meets other [] goals all → (name : Name) → Has all name → Reaches needs goals name
meets_reached needs other goals all same m name h =
    goes_along other (Reaches needs goals) (λ n w k r t. onward r (subst (λ (ns : List Name). Has ns w) (sym (same n r)) t)) (of_tree m) (λ n k. absurd k) (λ t k. goal k) name h
