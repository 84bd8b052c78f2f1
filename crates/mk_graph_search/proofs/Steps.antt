-- The steps of a search, over the ways that it has found.
use Rattle.std.proofs.Common.{◌≡◌, ℕ, ◌<◌, ◌≤◌, List, [], ◌∷◌, ◌++◌, length, map, get_or, ◌⊎◌, inl, inr, refl, sym, ◌∙◌, ap, subst, append-nil, append_assoc}
use Rattle.std.proofs.lemmas.List.{map-append}
use Rattle.mk_lemmas.proofs.Members.{Has-cases, Has-from_map, Has-left, Has-map, Has-right, IsDistinct-push, cases_Has}
use Rattle.mk_graph.specs.Membership.{Has, IsDistinct}
use Rattle.mk_graph_search.specs.Ways.{end, IsWay, place, Precedes}
use Rattle.mk_graph_search.specs.Places.{IsRising, IsBeginning, StandsAt, HasAtMost, IsOut}
use Rattle.mk_graph_search.specs.Progress.{IsMet, IsUnderWay}
use Rattle.mk_graph_search.proofs.Lists.{cut_at_place, head_is, apart_from, front_first}
use Rattle.mk_graph_search.proofs.Order.{before_later, no_later_trans, one_step_on}
use Rattle.mk_graph_search.proofs.Firsts.{rising_across, rising_pushed, beginning_front}

module _ (succ : ℕ → List ℕ) (t : ℕ) where
  -- all of these ways precede another one
  abbrev pub AllBefore : List (List ℕ) → List ℕ → Type 0
  AllBefore ways other = (way : List ℕ) → Has ways way → Precedes succ t way other

  -- more ways
  pub met_more : (ways more : List (List ℕ)) (other : List ℕ) → IsMet succ t ways other → IsMet succ t (ways ++ more) other
  met_more ways more other met = record { way = met.way; among = Has-left ways more met.way met.among; leads = met.leads; no_later = met.no_later }

  -- a way that goes on from one no later than another's parent
  met_on : (ways : List (List ℕ)) (n : ℕ) (way other : List ℕ) → (way ≡ other) ⊎ Precedes succ t way other → IsMet succ t ways (n ∷ way) → IsMet succ t ways (n ∷ other)
  met_on ways n way other no_later met = record { way = met.way; among = met.among; leads = met.leads; no_later = no_later_trans succ t met.way (n ∷ way) (n ∷ other) met.no_later (one_step_on succ t n way other no_later) }

  -- what precedes a parent precedes a child
  before_child : (ways : List (List ℕ)) → ((n : ℕ) (way : List ℕ) → Has ways (n ∷ way) → Has ways way) → (n : ℕ) (other : List ℕ) → AllBefore ways other → AllBefore ways (n ∷ other)
  before_child ways parents n other all [] h = tt
  before_child ways parents n other all (m ∷ way) h = inl (all way (parents m way h))

  -- Where each way that goes on from one of these is met or comes behind all of these, so does any.
  met_or_later : (ways : List (List ℕ)) → Has ways [] → ((n : ℕ) (way : List ℕ) → Has ways (n ∷ way)
      → Has ways way) → ((way : List ℕ) → Has ways way → (n : ℕ) → Has (succ (end t way)) n
      → IsMet succ t ways (n ∷ way) ⊎ AllBefore ways (n ∷ way)) → (other : List ℕ) → IsWay succ t other
      → IsMet succ t ways other ⊎ AllBefore ways other
  met_or_later ways start parents next [] is = inl (record { way = []; among = start; leads = refl; no_later = inl refl })
  met_or_later ways start parents next (n ∷ other) is =
      elim (met_or_later ways start parents next other is.1) [ inl met ↦ on met (next met.way met.among n (subst (λ (k : ℕ). Has (succ k) n) (sym met.leads) is.0)) | inr all ↦ inr (before_child ways parents n other all) ]
    where
      on : (met : IsMet succ t ways other) → IsMet succ t ways (n ∷ met.way) ⊎ AllBefore ways (n ∷ met.way) → IsMet succ t ways (n ∷ other) ⊎ AllBefore ways (n ∷ other)
      on met (inl child) = inl (met_on ways n met.way other met.no_later child)
      on met (inr all) = inr (λ way h. before_later succ t way (n ∷ met.way) (n ∷ other) (all way h) (one_step_on succ t n met.way other met.no_later))

  -- the back of a rising list
  rising_back : (ways others : List (List ℕ)) → IsRising succ t (ways ++ others) → IsRising succ t others
  rising_back [] others r = r
  rising_back (w ∷ ways) others r = rising_back ways others r.1

  -- what goes on from the way whose successors are being looked at, by one not yet looked at
  behind_here : (ways done later : List (List ℕ)) (way : List ℕ) (looked : List ℕ) → IsUnderWay succ t ways done (way ∷ later) looked → (n : ℕ) → ¬ (Has looked n) → AllBefore ways (n ∷ way)
  behind_here ways done later way looked u n out [] h = tt
  behind_here ways done later way looked u n out (m ∷ parent) h =
      elim (u.parents m parent h) [ inl in_done ↦ inl (rising_across succ t done (way ∷ later) (subst (λ (l : List (List ℕ)). IsRising succ t l) u.split u.rising) parent way in_done (inl refl)) | inr here ↦ same parent (sym (head_is way parent later here.0 here.1)) here.2 ]
    where
      same : (parent : List ℕ) → parent ≡ way → Has looked m → Precedes succ t (m ∷ parent) (n ∷ way)
      same parent e seen =
          let row = u.begun way later refl in
          let less : place (succ (end t way)) m < place (succ (end t way)) n = subst (λ (l : List ℕ). place l m < place l n) (sym row.1) (front_first looked row.0 m n seen out) in
          inr (e, subst (λ (w : List ℕ). place (succ (end t w)) m < place (succ (end t w)) n) (sym e) less)

  -- what goes on from a later way
  behind_later : (ways done later : List (List ℕ)) (way : List ℕ) (looked : List ℕ) → IsUnderWay succ t ways done (way ∷ later) looked → (other : List ℕ) → Has later other → (n : ℕ) → AllBefore ways (n ∷ other)
  behind_later ways done later way looked u other in_later n [] h = tt
  behind_later ways done later way looked u other in_later n (m ∷ parent) h =
      let rising = subst (λ (l : List (List ℕ)). IsRising succ t l) u.split u.rising in
      elim (u.parents m parent h) [
        | inl in_done ↦ inl (rising_across succ t done (way ∷ later) rising parent
            other in_done (inr in_later))
        | inr here ↦ inl (subst (λ (w : List ℕ). Precedes succ t w other)
            (head_is way parent later here.0 here.1) ((rising_back done (way ∷ later) rising).0 other in_later))
      ]

  -- what goes on from a way that isn't done
  from_rest : (ways done rest : List (List ℕ)) (looked : List ℕ) → IsUnderWay succ t ways done rest looked → (way : List ℕ) → Has rest way → (n : ℕ) → IsMet succ t ways (n ∷ way) ⊎ AllBefore ways (n ∷ way)
  from_rest ways done [] looked u way h n = absurd h
  from_rest ways done (w ∷ later) looked u way (inl here) n =
      subst (λ (v : List ℕ). IsMet succ t ways (n ∷ v) ⊎ AllBefore ways (n ∷ v)) here (elim (cases_Has looked n) [ inl seen ↦ inl (u.met_here w later refl n seen) | inr out ↦ inr (behind_here ways done later w looked u n out) ])
  from_rest ways done (w ∷ later) looked u way (inr there) n = inr (behind_later ways done later w looked u way there n)

  -- the parent of a way is one of the ways
  parent_among : (ways done rest : List (List ℕ)) (looked : List ℕ) → IsUnderWay succ t ways done rest looked → (n : ℕ) (way : List ℕ) → Has ways (n ∷ way) → Has ways way
  parent_among ways done rest looked u n way h =
      subst (λ (l : List (List ℕ)). Has l way) (sym u.split) (elim (u.parents n way h) [ inl in_done ↦ Has-left done rest way in_done | inr here ↦ Has-right done rest way (subst (λ (l : List (List ℕ)). Has l way) (sym here.1) (inl refl)) ])

  -- Each way leads where one of these leads, no earlier than it, or comes behind all of these.
  pub met_or_behind : (ways done rest : List (List ℕ)) (looked : List ℕ) → IsUnderWay succ t ways done rest looked → (other : List ℕ) → IsWay succ t other → IsMet succ t ways other ⊎ AllBefore ways other
  met_or_behind ways done rest looked u other is =
      met_or_later ways u.start (parent_among ways done rest looked u) (λ way h n in_row. elim (Has-cases done rest way (subst (λ (l : List (List ℕ)). Has l way) u.split h)) [ inl in_done ↦ inl (u.met way in_done n in_row) | inr in_rest ↦ from_rest ways done rest looked u way in_rest n ]) other is

  -- where it leads
  met_end : (ways : List (List ℕ)) (other : List ℕ) → IsMet succ t ways other → Has (map (end t) ways) (end t other)
  met_end ways other met = subst (λ (k : ℕ). Has (map (end t) ways) k) met.leads (Has-map (end t) ways met.way met.among)

  -- the ways are a beginning of the list of first ways
  pub is_beginning : (ways done rest : List (List ℕ)) (looked : List ℕ) → IsUnderWay succ t ways done rest looked → IsBeginning succ t ways
  is_beginning ways done rest looked u = record {
    first = λ way h. record { is_way = u.are way h; arrives = refl; before = λ other is e. before way h other e (met_or_behind ways done rest looked u other is) };
    rising = u.rising;
    others = λ other is. elim (met_or_behind ways done rest looked u other is) [ inl met ↦ inl (met_end ways other met) | inr all ↦ inr all ];
  }
    where
      swapped : (p q : List ℕ) → (p ≡ q) ⊎ Precedes succ t p q → (q ≡ p) ⊎ Precedes succ t p q
      swapped p q (inl e) = inl (sym e)
      swapped p q (inr h) = inr h

      before : (way : List ℕ) → Has ways way → (other : List ℕ) → end t other ≡ end t way → IsMet succ t ways other ⊎ AllBefore ways other → (other ≡ way) ⊎ Precedes succ t way other
      before way h other e (inl met) =
          let same : met.way ≡ way = apart_from (end t) ways u.apart met.way way met.among h (met.leads ∙ e) in
          swapped way other (subst (λ (w : List ℕ). (w ≡ other) ⊎ Precedes succ t w other) same met.no_later)
      before way h other e (inr all) = inr (all way h)

  -- the search begins
  pub begins : IsUnderWay succ t ([] ∷ []) [] ([] ∷ []) []
  begins = record {
    split = refl;
    start = inl refl;
    are = λ way h. elim h [ inl e ↦ subst (λ (w : List ℕ). IsWay succ t w) e tt | inr none ↦ absurd none ];
    rising = (λ other none. absurd none, tt);
    apart = (λ h. h, tt);
    parents = λ n way h. elim h [ inl e ↦ absurd (cc) | inr none ↦ absurd none ];
    met = λ way h. absurd h;
    met_here = λ way later e n h. absurd h;
    begun = λ way later e. (succ (end t way), refl);
  }

  -- the way to a successor is a way
  child_is : (ways done later : List (List ℕ)) (way looked left : List ℕ) (n : ℕ) → IsUnderWay succ t ways done (way ∷ later) looked → succ (end t way) ≡ looked ++ n ∷ left → IsWay succ t (n ∷ way)
  child_is ways done later way looked left n u row = (subst (λ (l : List ℕ). Has l n) (sym row) (Has-right looked (n ∷ left) n (inl refl)), u.are way (subst (λ (l : List (List ℕ)). Has l way) (sym u.split) (Has-right done (way ∷ later) way (inl refl))))

  -- what is left of a row
  row_left : (way other looked left : List ℕ) (n : ℕ) → way ≡ other → succ (end t way) ≡ looked ++ n ∷ left → (rest : List ℕ) × (succ (end t other) ≡ (looked ++ n ∷ []) ++ rest)
  row_left way other looked left n e row = (left, subst (λ (w : List ℕ). succ (end t w) ≡ (looked ++ n ∷ []) ++ left) e (row ∙ sym (append_assoc looked (n ∷ []) left)))

  -- a successor that has been found is passed over
  pub passes : (ways done later : List (List ℕ)) (way looked left : List ℕ) (n : ℕ) → IsUnderWay succ t ways done (way ∷ later) looked → succ (end t way) ≡ looked ++ n ∷ left → Has (map (end t) ways) n → IsUnderWay succ t ways done (way ∷ later) (looked ++ n ∷ [])
  passes ways done later way looked left n u row found = record {
    split = u.split;
    start = u.start;
    are = u.are;
    rising = u.rising;
    apart = u.apart;
    parents = λ m parent h. elim (u.parents m parent h) [ inl in_done ↦ inl in_done | inr here ↦ inr (here.0, here.1, Has-left looked (n ∷ []) m here.2) ];
    met = u.met;
    met_here = λ other others e m h. subst (λ (w : List ℕ). IsMet succ t ways (m ∷ w))
        (head_is way other later others e) (elim (Has-cases looked (n ∷ []) m h) [
          | inl seen ↦ u.met_here way later refl m seen
          | inr (inl last) ↦ subst
              (λ (k : ℕ). IsMet succ t ways (k ∷ way)) last here
          | inr (inr none) ↦ absurd none
        ]);
    begun = λ other others e. row_left way other looked left n (head_is way other later others e) row;
  }
    where
      by : IsMet succ t ways (n ∷ way) ⊎ AllBefore ways (n ∷ way) → IsMet succ t ways (n ∷ way)
      by (inl met) = met
      by (inr all) = let there = Has-from_map (end t) ways n found in record { way = there.0; among = there.1; leads = there.2; no_later = inr (all there.0 there.1) }

      here : IsMet succ t ways (n ∷ way)
      here = by (met_or_behind ways done (way ∷ later) looked u (n ∷ way) (child_is ways done later way looked left n u row))

  -- a new successor is found
  pub finds : (ways done later : List (List ℕ)) (way looked left : List ℕ) (n : ℕ)
      → IsUnderWay succ t ways done (way ∷ later) looked → succ (end t way) ≡ looked ++ n ∷ left
      → ¬ (Has (map (end t) ways) n) → IsUnderWay succ t (ways ++ (n ∷ way) ∷ []) done
      (way ∷ (later ++ (n ∷ way) ∷ [])) (looked ++ n ∷ [])
  finds ways done later way looked left n u row new = record {
    split = ap (λ (l : List (List ℕ)). l ++ child ∷ []) u.split ∙ append_assoc done (way ∷ later) (child ∷ []);
    start = Has-left ways (child ∷ []) [] u.start;
    are = λ other h. elim (Has-cases ways (child ∷ []) other h) [ inl old ↦ u.are other old | inr (inl last) ↦ subst (λ (w : List ℕ). IsWay succ t w) last child_way | inr (inr none) ↦ absurd none ];
    rising = rising_pushed succ t ways child u.rising (by (met_or_behind ways done (way ∷ later) looked u child child_way));
    apart = subst (λ (l : List ℕ). IsDistinct l) (sym (map-append (end t) ways (child ∷ []))) (IsDistinct-push (map (end t) ways) n new u.apart);
    parents = λ m parent h. elim (Has-cases ways (child ∷ []) (m ∷ parent) h) [
      | inl old ↦ old_parent m parent (u.parents m parent old)
      | inr (inl last) ↦ inr (
        later ++ child ∷ [],
        ap (λ (w : List ℕ). w ∷ (later ++ child ∷ []))
            (tail_of n m way parent last),
        Has-right looked (n ∷ []) m (inl (head_is n m way parent last)),
      )
      | inr (inr none) ↦ absurd none
    ];
    met = λ other h m in_row. met_more ways (child ∷ []) (m ∷ other) (u.met other h m in_row);
    met_here = λ other others e m h. subst (λ (w : List ℕ). IsMet succ t (ways ++ child ∷ []) (m ∷ w))
        (head_is way other (later ++ child ∷ []) others e) (elim (Has-cases looked (n ∷ []) m h) [
          | inl seen ↦ met_more ways (child ∷ []) (m ∷ way) (u.met_here way later refl m seen)
          | inr (inl last) ↦ subst (λ (k : ℕ). IsMet succ t (ways ++ child ∷ []) (k ∷ way)) last here
          | inr (inr none) ↦ absurd none
        ]);
    begun = λ other others e. row_left way other looked left n (head_is way other (later ++ child ∷ []) others e) row;
  }
    where
      child : List ℕ
      child = n ∷ way

      child_way : IsWay succ t (n ∷ way)
      child_way = child_is ways done later way looked left n u row

      by : IsMet succ t ways (n ∷ way) ⊎ AllBefore ways (n ∷ way) → AllBefore ways (n ∷ way)
      by (inl met) = absurd (new (met_end ways (n ∷ way) met))
      by (inr all) = all

      tail_of : (m k : ℕ) (p q : List ℕ) → m ∷ p ≡ k ∷ q → p ≡ q
      tail_of m k p q e = cc

      here : IsMet succ t (ways ++ (n ∷ way) ∷ []) (n ∷ way)
      here = record { way = n ∷ way; among = Has-right ways ((n ∷ way) ∷ []) (n ∷ way) (inl refl); leads = refl; no_later = inl refl }

      old_parent : (m : ℕ) (parent : List ℕ) → Has done parent ⊎ ((others : List (List ℕ)) × (way ∷ later ≡ parent ∷ others) × Has looked m) → Has done parent ⊎ ((others : List (List ℕ)) × (way ∷ (later ++ (n ∷ way) ∷ []) ≡ parent ∷ others) × Has (looked ++ n ∷ []) m)
      old_parent m parent (inl in_done) = inl in_done
      old_parent m parent (inr one) = inr (one.0 ++ (n ∷ way) ∷ [], ap (λ (l : List (List ℕ)). l ++ (n ∷ way) ∷ []) one.1, Has-left looked (n ∷ []) m one.2)

  -- a way whose successors have all been looked at is done
  pub goes_on : (ways done later : List (List ℕ)) (way looked : List ℕ) → IsUnderWay succ t ways done (way ∷ later) looked → succ (end t way) ≡ looked → IsUnderWay succ t ways (done ++ way ∷ []) later []
  goes_on ways done later way looked u whole = record {
    split = u.split ∙ sym (append_assoc done (way ∷ []) later);
    start = u.start;
    are = u.are;
    rising = u.rising;
    apart = u.apart;
    parents = λ m parent h. elim (u.parents m parent h) [ inl in_done ↦ inl (Has-left done (way ∷ []) parent in_done) | inr here ↦ inl (Has-right done (way ∷ []) parent (inl (head_is way parent later here.0 here.1))) ];
    met = λ other h m in_row. elim (Has-cases done (way ∷ []) other h) [
      | inl in_done ↦ u.met other in_done m in_row
      | inr (inl last) ↦ subst
          (λ (w : List ℕ). IsMet succ t ways (m ∷ w)) last (u.met_here way later refl m
          (subst (λ (l : List ℕ). Has l m) (ap (λ (w : List ℕ). succ (end t w)) (sym last) ∙ whole) in_row))
      | inr (inr none) ↦ absurd none
    ];
    met_here = λ other others e n h. absurd h;
    begun = λ other others e. (succ (end t other), refl);
  }

  -- where all ways are done, each way is met
  all_met : (ways done : List (List ℕ)) (looked : List ℕ) → IsUnderWay succ t ways done [] looked → (other : List ℕ) → IsWay succ t other → IsMet succ t ways other
  all_met ways done looked u [] is = record { way = []; among = u.start; leads = refl; no_later = inl refl }
  all_met ways done looked u (n ∷ other) is =
      let met = all_met ways done looked u other is.1 in
      let in_done : Has done met.way = subst (λ (l : List (List ℕ)). Has l met.way) (u.split ∙ append-nil done) met.among in
      met_on ways n met.way other met.no_later (u.met met.way in_done n (subst (λ (k : ℕ). Has (succ k) n) (sym met.leads) is.0))

  -- and there are no more than these
  pub has_at_most : (ways done : List (List ℕ)) (looked : List ℕ) (count : ℕ) → IsUnderWay succ t ways done [] looked → length ways ≤ count → HasAtMost succ t count
  has_at_most ways done looked count u few = record { ways = ways; few = few; beginning = is_beginning ways done [] looked u; all = λ other is. met_end ways other (all_met ways done looked u other is) }

  -- what isn't found leads nowhere
  pub is_out : (ways done : List (List ℕ)) (looked : List ℕ) (node : ℕ) → IsUnderWay succ t ways done [] looked → ¬ (Has (map (end t) ways) node) → IsOut succ t node
  is_out ways done looked node u out way is e = out (subst (λ (k : ℕ). Has (map (end t) ways) k) e (met_end ways way (all_met ways done looked u way is)))

  -- the way at a place stands there
  pub stands_at : (ways done rest : List (List ℕ)) (looked : List ℕ) (k : ℕ) → IsUnderWay succ t ways done rest looked → k < length ways → StandsAt succ t k (get_or ways k [])
  stands_at ways done rest looked k u less =
      let cut = cut_at_place ways k [] less in
      record { preceding = cut.0; many = cut.3; beginning = beginning_front succ t (cut.0 ++ get_or ways k [] ∷ []) cut.1 (subst (λ (l : List (List ℕ)). IsBeginning succ t l) (cut.2 ∙ sym (append_assoc cut.0 (get_or ways k [] ∷ []) cut.1)) (is_beginning ways done rest looked u)) }
