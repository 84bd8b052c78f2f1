-- First ways, and the places of ways.
use Rattle.std.proofs.Common.{◌≡◌, ℕ, ◌+◌, ◌<◌, ◌≤◌, Bool, true, false, List, [], ◌∷◌, ◌++◌, length, map, get_or, ◌⊎◌, inl, inr, refl, sym, ◌∙◌, ap, subst, arith, append_assoc}
use Rattle.std.proofs.lemmas.Bool.{false≢true}
use Rattle.std.proofs.lemmas.List.{length-append, map-append}
use Rattle.mk_lemmas.proofs.Members.{Has-cases, Has-from_map, Has-left, Has-map, Has-right}
use Rattle.mk_graph.specs.Membership.{Has}
use Rattle.mk_graph_search.specs.Ways.{end, IsWay, Precedes, IsFirstWay, IsFirstThere}
use Rattle.mk_graph_search.specs.Places.{IsRising, IsBeginning, StandsAt}
use Rattle.mk_graph_search.specs.Laws.{FirstIsOne, FirstIsShortest, OneWayAtAPlace, SaysNoBefore, FirstByPlaces, NoneByPlaces}
use Rattle.mk_graph_search.proofs.Lists.{cut_at, at_place}
use Rattle.mk_graph_search.proofs.Order.{before_none, before_once, before_later}
use Rattle.mk_graph_search.proofs.Reading.{as_read}

module _ (succ : ℕ → List ℕ) (t : ℕ) where
  -- there is one first way
  pub one_first : (P : ℕ → Type 0) (one other : List ℕ) → IsFirstWay succ t P one → IsFirstWay succ t P other → one ≡ other
  one_first P one other f g =
      elim (f.before other g.is_way g.arrives) [ inl e ↦ sym e | inr h ↦ elim (g.before one f.is_way f.arrives) [ inl e ↦ e | inr k ↦ absurd (before_once succ t one other h k) ] ]

  -- the first way to one end is one
  pub one_first_there : (one other : List ℕ) → IsFirstThere succ t one → IsFirstThere succ t other → end t one ≡ end t other → one ≡ other
  one_first_there one other f g e = one_first (λ n. n ≡ end t one) one other f (subst (λ (k : ℕ). IsFirstWay succ t (λ n. n ≡ k) other) (sym e) g)

  -- a way of a beginning, or of another list of which each way is first where it leads
  among : (ways : List (List ℕ)) → ((way : List ℕ) → Has ways way → IsFirstThere succ t way) → (other : List ℕ) → IsFirstThere succ t other → Has (map (end t) ways) (end t other) → Has ways other
  among ways first other f h =
      let found = Has-from_map (end t) ways (end t other) h in
      subst (λ (w : List ℕ). Has ways w) (one_first_there found.0 other (first found.0 found.1) f found.2) found.1

  -- the first list in front of the second is rising
  pub rising_front : (ways others : List (List ℕ)) → IsRising succ t (ways ++ others) → IsRising succ t ways
  rising_front [] others r = tt
  rising_front (w ∷ ways) others r = (λ other h. r.0 other (Has-left ways others other h), rising_front ways others r.1)

  -- what stands in front precedes what stands behind
  pub rising_across : (ways others : List (List ℕ)) → IsRising succ t (ways ++ others) → (one other : List ℕ) → Has ways one → Has others other → Precedes succ t one other
  rising_across [] others r one other h k = absurd h
  rising_across (w ∷ ways) others r one other (inl here) k = subst (λ (v : List ℕ). Precedes succ t v other) here (r.0 other (Has-right ways others other k))
  rising_across (w ∷ ways) others r one other (inr there) k = rising_across ways others r.1 one other there k

  -- one more that all others precede
  pub rising_pushed : (ways : List (List ℕ)) (other : List ℕ) → IsRising succ t ways → ((way : List ℕ) → Has ways way → Precedes succ t way other) → IsRising succ t (ways ++ other ∷ [])
  rising_pushed [] other r h = (λ v none. absurd none, tt)
  rising_pushed (w ∷ ways) other r h =
      (λ v in_it. elim (Has-cases ways (other ∷ []) v in_it) [ inl there ↦ r.0 v there | inr (inl last) ↦ subst (λ (x : List ℕ). Precedes succ t w x) last (h w (inl refl)) | inr (inr none) ↦ absurd none ], rising_pushed ways other r.1 (λ v in_it. h v (inr in_it)))

  -- the front of a beginning is one
  pub beginning_front : (ways others : List (List ℕ)) → IsBeginning succ t (ways ++ others) → IsBeginning succ t ways
  beginning_front ways others b = record {
    first = λ way h. b.first way (Has-left ways others way h);
    rising = rising_front ways others b.rising;
    others = λ other is. cases other is (b.others other is);
  }
    where
      later : (other found : List ℕ) → Has ways found ⊎ Has others found → end t found ≡ end t other → (found ≡ other) ⊎ Precedes succ t found other → Has (map (end t) ways) (end t other) ⊎ ((way : List ℕ) → Has ways way → Precedes succ t way other)
      later other found (inl in_front) e no_later = inl (subst (λ (k : ℕ). Has (map (end t) ways) k) e (Has-map (end t) ways found in_front))
      later other found (inr behind) e no_later = inr (λ way h. before_later succ t way found other (rising_across ways others b.rising way found h behind) no_later)

      swapped : (p q : List ℕ) → (q ≡ p) ⊎ Precedes succ t p q → (p ≡ q) ⊎ Precedes succ t p q
      swapped p q (inl e) = inl (sym e)
      swapped p q (inr h) = inr h

      cases : (other : List ℕ) → IsWay succ t other → Has (map (end t) (ways ++ others)) (end t other) ⊎ ((way : List ℕ) → Has (ways ++ others) way → Precedes succ t way other) → Has (map (end t) ways) (end t other) ⊎ ((way : List ℕ) → Has ways way → Precedes succ t way other)
      cases other is (inr all) = inr (λ way h. all way (Has-left ways others way h))
      cases other is (inl h) =
          let found = Has-from_map (end t) (ways ++ others) (end t other) h in
          later other found.0 (Has-cases ways others found.0 found.1) found.2 (swapped found.0 other ((b.first found.0 found.1).before other is (sym found.2)))

  -- a way of a beginning stands at a place before its length
  pub stands_in : (ways : List (List ℕ)) → IsBeginning succ t ways → (way : List ℕ) → Has ways way → (k : ℕ) × (k < length ways) × StandsAt succ t k way
  stands_in ways b way h =
      let cut = cut_at ways way h in
      let again : ways ≡ (cut.0 ++ way ∷ []) ++ cut.1 = cut.2 ∙ sym (append_assoc cut.0 (way ∷ []) cut.1) in
      let long : length ways ≡ length cut.0 + length (way ∷ cut.1) = ap length cut.2 ∙ length-append cut.0 (way ∷ cut.1) in
      (length cut.0, omega arith, record { preceding = cut.0; many = refl; beginning = beginning_front (cut.0 ++ way ∷ []) cut.1 (subst (λ (l : List (List ℕ)). IsBeginning succ t l) again b) })

  -- what stands in both of two rising lists of one length, or comes behind all of the other one
  same_list : (ways others : List (List ℕ)) → length ways ≡ length others → IsRising succ t ways
      → IsRising succ t others → ((way : List ℕ) → Has ways way → Has others way
      ⊎ ((other : List ℕ) → Has others other → Precedes succ t other way))
      → ((other : List ℕ) → Has others other → Has ways other
      ⊎ ((way : List ℕ) → Has ways way → Precedes succ t way other)) → ways ≡ others
  same_list [] [] e r s f g = refl
  same_list [] (o ∷ others) e r s f g = absurd (omega arith)
  same_list (w ∷ ways) [] e r s f g = absurd (omega arith)
  same_list (w ∷ ways) (o ∷ others) e r s f g =
      let heads = head_cases w o ways others (r.0) (s.0) (f w (inl refl)) (g o (inl refl)) in
      let rest = same_list ways others (omega arith) r.1 s.1 (λ way h. tail_cases w o ways others way heads (r.0 way h) (f way (inr h))) (λ other h. tail_cases o w others ways other (sym heads) (s.0 other h) (g other (inr h))) in
      (λ i. heads i ∷ rest i)
    where
      no_later : (x y : List ℕ) (ys : List (List ℕ)) → ((other : List ℕ) → Has ys other → Precedes succ t y other) → Has (y ∷ ys) x ⊎ ((other : List ℕ) → Has (y ∷ ys) other → Precedes succ t other x) → (y ≡ x) ⊎ Precedes succ t y x
      no_later x y ys r (inl (inl here)) = inl here
      no_later x y ys r (inl (inr there)) = inr (r x there)
      no_later x y ys r (inr all) = inr (all y (inl refl))

      equal : (x y : List ℕ) → (y ≡ x) ⊎ Precedes succ t y x → (x ≡ y) ⊎ Precedes succ t x y → x ≡ y
      equal x y (inl e) k = sym e
      equal x y (inr h) (inl e) = e
      equal x y (inr h) (inr k) = absurd (before_once succ t x y k h)

      head_cases : (x y : List ℕ) (xs ys : List (List ℕ)) → ((other : List ℕ) → Has xs other
          → Precedes succ t x other) → ((other : List ℕ) → Has ys other → Precedes succ t y other)
          → Has (y ∷ ys) x ⊎ ((other : List ℕ) → Has (y ∷ ys) other → Precedes succ t other x)
          → Has (x ∷ xs) y ⊎ ((other : List ℕ) → Has (x ∷ xs) other → Precedes succ t other y) → x ≡ y
      head_cases x y xs ys r s f g = equal x y (no_later x y ys s f) (no_later y x xs r g)

      tail_cases : (x y : List ℕ) (xs ys : List (List ℕ)) (way : List ℕ) → x ≡ y → Precedes succ t x way → Has (y ∷ ys) way ⊎ ((other : List ℕ) → Has (y ∷ ys) other → Precedes succ t other way) → Has ys way ⊎ ((other : List ℕ) → Has ys other → Precedes succ t other way)
      tail_cases x y xs ys way e h (inl (inl here)) = absurd (before_none succ t way (subst (λ (v : List ℕ). Precedes succ t v way) (e ∙ here) h))
      tail_cases x y xs ys way e h (inl (inr there)) = inl there
      tail_cases x y xs ys way e h (inr all) = inr (λ other k. all other (inr k))

  -- each way of a beginning stands in another one, or comes behind all of it
  compares : (ways others : List (List ℕ)) → IsBeginning succ t ways → IsBeginning succ t others → (way : List ℕ) → Has ways way → Has others way ⊎ ((other : List ℕ) → Has others other → Precedes succ t other way)
  compares ways others b c way h =
      let f = b.first way h in
      elim (c.others way f.is_way) [ inl in_it ↦ inl (among others c.first way f in_it) | inr all ↦ inr all ]

-- at one place stands one way
pub one_at_a_place : OneWayAtAPlace
one_at_a_place succ t k one other a b =
    let long : length (a.preceding ++ one ∷ []) ≡ length (b.preceding ++ other ∷ []) = length-append a.preceding (one ∷ []) ∙ (ap (λ (j : ℕ). j + 1) (a.many ∙ sym b.many) ∙ sym (length-append b.preceding (other ∷ []))) in
    let same = same_list succ t (a.preceding ++ one ∷ []) (b.preceding ++ other ∷ []) long a.beginning.rising
    b.beginning.rising (compares succ t (a.preceding ++ one ∷ []) (b.preceding ++ other ∷ []) a.beginning
    b.beginning) (compares succ t (b.preceding ++ other ∷ []) (a.preceding ++ one ∷ []) b.beginning
    a.beginning) in
    sym (at_place a.preceding [] one [] k a.many) ∙ (ap (λ (l : List (List ℕ)). get_or l k []) same ∙ at_place b.preceding [] other [] k b.many)

-- there is one first way
pub first_is_one : FirstIsOne
first_is_one succ t test one other f g = one_first succ t (λ n. test n ≡ true) one other f g

-- no other one is shorter
pub first_is_shortest : FirstIsShortest
first_is_shortest succ t test way other f is says =
    elim (f.before other is says) [
      | inl e ↦ (let same : length other
          ≡ length way = ap length e in omega arith)
      | inr h ↦ elim ((as_read succ t way other).0 h) [
        | inl less ↦ omega arith
        | inr turns ↦ (let one : length way
            ≡ length turns.rest + length (turns.m ∷ turns.common) = ap length turns.one_is
            ∙ length-append turns.rest (turns.m ∷ turns.common) in let two : length other
            ≡ length turns.other_rest + length (turns.n ∷ turns.common) = ap length turns.other_is
            ∙ length-append turns.other_rest (turns.n ∷ turns.common) in let e = turns.equally_long in omega
            arith)
      ]
    ]

-- a way that leads where one of these leads, at the end of which the test says no
said_no : (succ : ℕ → List ℕ) (t : ℕ) (test : ℕ → Bool) (k : ℕ) (ways : List (List ℕ)) → length ways ≤ k → SaysNoBefore succ t test k → IsBeginning succ t ways → (other : List ℕ) → Has (map (end t) ways) (end t other) → test (end t other) ≡ false
said_no succ t test k ways few denies b other h =
    let found = Has-from_map (end t) ways (end t other) h in
    let stands = stands_in succ t ways b found.0 found.1 in
    let less = stands.1 in
    ap test (sym found.2) ∙ denies stands.0 (omega arith) found.0 stands.2

-- the first place at the end of whose way the test says yes
pub first_by_places : FirstByPlaces
first_by_places succ t test k way denies a says = record {
  is_way = (a.beginning.first way at_end).is_way;
  arrives = says;
  before = λ other is ok. cases other is ok (a.beginning.others other is);
}
  where
    at_end : Has (a.preceding ++ way ∷ []) way
    at_end = Has-right a.preceding (way ∷ []) way (inl refl)

    here : (other : List ℕ) → IsWay succ t other → test (end t other) ≡ true → Has (map (end t) a.preceding) (end t other) ⊎ Has (end t way ∷ []) (end t other) → (other ≡ way) ⊎ Precedes succ t way other
    here other is ok (inl in_front) =
        absurd (false≢true (sym (said_no succ t test k a.preceding (let e = a.many in omega arith) denies (beginning_front succ t a.preceding (way ∷ []) a.beginning) other in_front) ∙ ok))
    here other is ok (inr (inl e)) = (a.beginning.first way at_end).before other is (sym e)
    here other is ok (inr (inr none)) = absurd none

    cases : (other : List ℕ) → IsWay succ t other → test (end t other) ≡ true → Has (map (end t) (a.preceding ++ way ∷ [])) (end t other) ⊎ ((v : List ℕ) → Has (a.preceding ++ way ∷ []) v → Precedes succ t v other) → (other ≡ way) ⊎ Precedes succ t way other
    cases other is ok (inl h) =
        here other is ok (Has-cases (map (end t) a.preceding) (end t way ∷ []) (end t other) (subst (λ (l : List ℕ). Has l (end t other)) (map-append (end t) a.preceding (way ∷ [])) h))
    cases other is ok (inr all) = inr (all way at_end)

-- the test says no everywhere
pub none_by_places : NoneByPlaces
none_by_places succ t test k denies few way is = said_no succ t test k few.ways few.few denies few.beginning way (few.all way is)
