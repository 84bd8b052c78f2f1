-- A search with its visits: what it keeps, and what its answers are.
use Rattle.std.proofs.Common.{◌≡◌, ℕ, ◌+◌, ◌<◌, ◌≤◌, suc, zero, List, [], ◌∷◌, ◌++◌, length, get_or, reverse, ◌⊎◌, inl, inr, MatchOption, Option, Some, None, is_some, true, refl, sym, ◌∙◌, ap, subst, arith, append-nil, append_assoc}
use Rattle.std.proofs.lemmas.Bool.{false≢true, cases_lt}
use Rattle.std.proofs.lemmas.List.{length-append, length-map, map-append, reverse-append}
use Rattle.mk_lemmas.proofs.Members.{Has-from_map, Has-get_or, length-le_distinct}
use Rattle.mk_graph.specs.Membership.{Has, IsDistinct}
use Rattle.mk_graph_search.specs.declared.visits.Visit.{Visit}
use Rattle.mk_graph_search.specs.Ways.{successors, end, IsWay}
use Rattle.mk_graph_search.specs.Places.{EndsAt, GoesAt, HasAtMost, IsOut, IsOutBefore}
use Rattle.mk_graph_search.specs.Progress.{IsUnderWay, nodes_of, visit_at, IsVisited, AreWaysOf, Stands}
use Rattle.mk_graph_search.proofs.Lists.{apart_at, at_place, at_front, at_mapped}
use Rattle.mk_graph_search.proofs.Firsts.{one_at_a_place}
use Rattle.mk_graph_search.proofs.Tables.{among}
use Rattle.mk_graph_search.proofs.Steps.{begins, passes, finds, goes_on, has_at_most, is_out, stands_at}

-- a visit that stands for nothing
abbrev pub no_visit : Visit
no_visit = record { node = 0; from = 0 }

-- the way from a place back to the start, nearer nodes last
abbrev pub LeadsBack : (t : ℕ) (visits : List Visit) (nodes : List ℕ) (at place : ℕ) → Type 0
LeadsBack t visits nodes at place = (ways : List (List ℕ)) → AreWaysOf t visits ways → nodes ++ get_or ways at [] ≡ get_or ways place []

module _ (succ : ℕ → List ℕ) (t : ℕ) where
  -- the start alone
  pub stands_first : Stands succ t (record { node = t; from = 0 } ∷ []) 0 0
  stands_first = record {
    ways = [] ∷ [];
    done = [];
    rest = [] ∷ [];
    seen = [];
    so_many = refl;
    so_far = refl;
    follow = record { ends = refl; first = refl; earlier = λ k low high. absurd (omega arith); further = λ k low high. absurd (omega arith) };
    under_way = begins succ t;
  }

  -- there are as many ways as visits
  pub as_many : (visits : List Visit) (ways : List (List ℕ)) → AreWaysOf t visits ways → length ways ≡ length visits
  as_many visits ways a = sym (length-map ways (end t)) ∙ (ap length a.ends ∙ length-map visits (λ (visit : Visit). visit.node))

  -- the way at a place ends at the node there
  pub end_at : (visits : List Visit) (ways : List (List ℕ)) → AreWaysOf t visits ways → (k : ℕ) → k < length visits → end t (get_or ways k []) ≡ (visit_at visits k).node
  end_at visits ways a k less =
      let many = as_many visits ways a in
      let low : k < length ways = omega arith in
      sym (at_mapped (end t) ways k [] 0 low) ∙ (ap (λ (l : List ℕ). get_or l k 0) a.ends ∙ at_mapped (λ (visit : Visit). visit.node) visits k no_visit 0 less)

  -- the next way
  pub record IsNext (visits : List Visit) (at looked : ℕ) (s : Stands succ t visits at looked) : Type 0 where
    pub way : List ℕ
    pub later : List (List ℕ)
    pub is : s.rest ≡ way ∷ later
    pub there : get_or s.ways at [] ≡ way
    pub ends : end t way ≡ (visit_at visits at).node

  -- where not all are done there is one
  pub next_way : (visits : List Visit) (at looked : ℕ) (s : Stands succ t visits at looked) → at < length visits → IsNext visits at looked s
  next_way visits at looked s less = by s.rest refl
    where
      by : (rest : List (List ℕ)) → s.rest ≡ rest → IsNext visits at looked s
      by [] e =
          let long : length s.ways ≡ length s.done + length s.rest = ap length s.under_way.split ∙ length-append s.done s.rest in
          let none : length s.rest ≡ 0 = ap length e in
          let many = as_many visits s.ways s.follow in
          let so_many = s.so_many in
          absurd (omega arith)
      by (way ∷ later) e =
          let here : get_or s.ways at [] ≡ way = ap (λ (l : List (List ℕ)). get_or l at []) (s.under_way.split ∙ ap (λ (l : List (List ℕ)). s.done ++ l) e) ∙ at_place s.done later way [] at s.so_many in
          record { way = way; later = later; is = e; there = here; ends = ap (end t) (sym here) ∙ end_at visits s.ways s.follow at less }

  -- what is left of a row of which some have been looked at
  row_from : (row seen left : List ℕ) (looked : ℕ) → row ≡ seen ++ left → length seen ≡ looked → looked < length row → (others : List ℕ) × (row ≡ seen ++ get_or row looked 0 ∷ others)
  row_from row seen [] looked e so_far less =
      let long : length row ≡ length seen + 0 = ap length e ∙ length-append seen [] in
      absurd (omega arith)
  row_from row seen (n ∷ left) looked e so_far less =
      let here : get_or row looked 0 ≡ n = ap (λ (l : List ℕ). get_or l looked 0) e ∙ at_place seen left n 0 looked so_far in
      (left, e ∙ ap (λ (k : ℕ). seen ++ k ∷ left) (sym here))

  -- a row that has been looked at whole
  row_whole : (row seen left : List ℕ) (looked : ℕ) → row ≡ seen ++ left → length seen ≡ looked → length row ≤ looked → row ≡ seen
  row_whole row seen [] looked e so_far less = e ∙ append-nil seen
  row_whole row seen (n ∷ left) looked e so_far less =
      let long : length row ≡ length seen + length (n ∷ left) = ap length e ∙ length-append seen (n ∷ left) in
      absurd (omega arith)

  -- the ways of visits and one more
  follow_more : (visits : List Visit) (ways : List (List ℕ)) (n at : ℕ) (way : List ℕ) → AreWaysOf t visits ways → at < length visits → get_or ways at [] ≡ way → AreWaysOf t (visits ++ record { node = n; from = at } ∷ []) (ways ++ (n ∷ way) ∷ [])
  follow_more visits ways n at way a less here =
      record {
        ends = map-append (end t) ways (child ∷ []) ∙ (ap (λ (l : List ℕ). l ++ n ∷ []) a.ends ∙ sym (map-append (λ (visit : Visit). visit.node) visits (new ∷ [])));
        first = at_front ways (child ∷ []) 0 [] (let m = many in omega arith) ∙ a.first;
        earlier = λ k low high. elim (cases_lt k (length visits)) [ inl old ↦ subst (λ (v : Visit). v.from < k) (sym (old_visit k old)) (a.earlier k old high) | inr past ↦ subst (λ (v : Visit). v.from < k) (sym (new_visit k (last_place k low past))) (let e = last_place k low past in omega arith) ];
        further = λ k low high. elim (cases_lt k (length visits)) [ inl old ↦ old_further k old high | inr past ↦ new_further k (last_place k low past) ];
      }
    where
      child : List ℕ
      child = n ∷ way

      new : Visit
      new = record { node = n; from = at }

      many : length ways ≡ length visits
      many = as_many visits ways a

      last_place : (k : ℕ) → k < length (visits ++ new ∷ []) → length visits ≤ k → length visits ≡ k
      last_place k low past = let long = length-append visits (new ∷ []) in omega arith

      old_visit : (k : ℕ) → k < length visits → visit_at (visits ++ new ∷ []) k ≡ visit_at visits k
      old_visit k old = at_front visits (new ∷ []) k no_visit old

      new_visit : (k : ℕ) → length visits ≡ k → visit_at (visits ++ new ∷ []) k ≡ new
      new_visit k e = at_place visits [] new no_visit k e

      old_way : (k : ℕ) → k < length visits → get_or (ways ++ child ∷ []) k [] ≡ get_or ways k []
      old_way k old = at_front ways (child ∷ []) k [] (let m = many in omega arith)

      old_further : (k : ℕ) → k < length visits → 0 < k → get_or (ways ++ child ∷ []) k [] ≡ (visit_at (visits ++ new ∷ []) k).node ∷ get_or (ways ++ child ∷ []) (visit_at (visits ++ new ∷ []) k).from []
      old_further k old high =
          let before = a.earlier k old high in
          let from_low : (visit_at visits k).from < length visits = omega arith in
          subst (λ (v : Visit). get_or (ways ++ child ∷ []) k [] ≡ v.node ∷ get_or (ways ++ child ∷ []) v.from []) (sym (old_visit k old)) (old_way k old ∙ (a.further k old high ∙ ap (λ (w : List ℕ). (visit_at visits k).node ∷ w) (sym (old_way (visit_at visits k).from from_low))))

      new_further : (k : ℕ) → length visits ≡ k → get_or (ways ++ child ∷ []) k [] ≡ (visit_at (visits ++ new ∷ []) k).node ∷ get_or (ways ++ child ∷ []) (visit_at (visits ++ new ∷ []) k).from []
      new_further k e =
          subst (λ (v : Visit). get_or (ways ++ child ∷ []) k [] ≡ v.node ∷ get_or (ways ++ child ∷ []) v.from []) (sym (new_visit k e)) (at_place ways [] child [] k (many ∙ e) ∙ ap (λ (w : List ℕ). n ∷ w) (sym (old_way at less ∙ here)))

  -- one more successor is looked at
  pub stands_looked : (visits new : List Visit) (at looked : ℕ) → Stands succ t visits at looked → at < length visits → (row : List ℕ) → row ≡ succ (visit_at visits at).node → looked < length row → IsVisited visits new (get_or row looked 0) at → Stands succ t new at (looked + 1)
  stands_looked visits new at looked s less row row_is more visited = by visited
    where
      n : ℕ
      n = get_or row looked 0

      next : IsNext visits at looked s
      next = next_way visits at looked s less

      under : IsUnderWay succ t s.ways s.done (next.way ∷ next.later) s.seen
      under = subst (λ (l : List (List ℕ)). IsUnderWay succ t s.ways s.done l s.seen) next.is s.under_way

      its_row : succ (end t next.way) ≡ row
      its_row = ap succ next.ends ∙ sym row_is

      left : (others : List ℕ) × (row ≡ s.seen ++ get_or row looked 0 ∷ others)
      left = let begun = under.begun next.way next.later refl in row_from row s.seen begun.0 looked (sym its_row ∙ begun.1) s.so_far more

      split : succ (end t next.way) ≡ s.seen ++ get_or row looked 0 ∷ left.0
      split = its_row ∙ left.1

      far : length (s.seen ++ get_or row looked 0 ∷ []) ≡ looked + 1
      far = length-append s.seen (get_or row looked 0 ∷ []) ∙ ap (λ (k : ℕ). k + 1) s.so_far

      by : IsVisited visits new (get_or row looked 0) at → Stands succ t new at (looked + 1)
      by (inl old) = record {
        ways = s.ways;
        done = s.done;
        rest = next.way ∷ next.later;
        seen = s.seen ++ get_or row looked 0 ∷ [];
        so_many = s.so_many;
        so_far = far;
        follow = subst (λ (l : List Visit). AreWaysOf t l s.ways) (sym old.1) s.follow;
        under_way = passes succ t s.ways s.done next.later next.way s.seen left.0 (get_or row looked 0) under split (subst (λ (l : List ℕ). Has l (get_or row looked 0)) (sym s.follow.ends) old.0);
      }
      by (inr fresh) = record {
        ways = s.ways ++ (get_or row looked 0 ∷ next.way) ∷ [];
        done = s.done;
        rest = next.way ∷ (next.later ++ (get_or row looked 0 ∷ next.way) ∷ []);
        seen = s.seen ++ get_or row looked 0 ∷ [];
        so_many = s.so_many;
        so_far = far;
        follow = subst (λ (l : List Visit). AreWaysOf t l (s.ways ++ (get_or row looked 0 ∷ next.way) ∷ [])) (sym fresh.1) (follow_more visits s.ways (get_or row looked 0) at next.way s.follow less next.there);
        under_way = finds succ t s.ways s.done next.later next.way s.seen left.0 (get_or row looked 0) under split (λ h. fresh.0 (subst (λ (l : List ℕ). Has l (get_or row looked 0)) s.follow.ends h));
      }

  -- a node whose successors have all been looked at is done
  pub stands_done : (visits : List Visit) (at looked : ℕ) → Stands succ t visits at looked → at < length visits → (row : List ℕ) → row ≡ succ (visit_at visits at).node → length row ≤ looked → Stands succ t visits (at + 1) 0
  stands_done visits at looked s less row row_is past =
      let next = next_way visits at looked s less in
      let under = subst (λ (l : List (List ℕ)). IsUnderWay succ t s.ways s.done l s.seen) next.is s.under_way in
      let begun = under.begun next.way next.later refl in
      let its_row : succ (end t next.way) ≡ row = ap succ next.ends ∙ sym row_is in
      record {
        ways = s.ways;
        done = s.done ++ next.way ∷ [];
        rest = next.later;
        seen = [];
        so_many = length-append s.done (next.way ∷ []) ∙ ap (λ (k : ℕ). k + 1) s.so_many;
        so_far = refl;
        follow = s.follow;
        under_way = goes_on succ t s.ways s.done next.later next.way s.seen under (its_row ∙ row_whole row s.seen begun.0 looked (sym its_row ∙ begun.1) s.so_far past);
      }

  -- the node at a place
  pub ends_at : (visits : List Visit) (at looked k : ℕ) → Stands succ t visits at looked → k < length visits → EndsAt succ t k (visit_at visits k).node
  ends_at visits at looked k s less =
      let many = as_many visits s.ways s.follow in
      record { way = get_or s.ways k []; stands = stands_at succ t s.ways s.done s.rest s.seen k s.under_way (omega arith); ends = end_at visits s.ways s.follow k less }

  -- all are done
  all_done : (visits : List Visit) (at looked : ℕ) (s : Stands succ t visits at looked) → length visits ≤ at → s.rest ≡ []
  all_done visits at looked s past = by s.rest refl
    where
      by : (rest : List (List ℕ)) → s.rest ≡ rest → s.rest ≡ []
      by [] e = e
      by (way ∷ later) e =
          let long : length s.ways ≡ length s.done + length s.rest = ap length s.under_way.split ∙ length-append s.done s.rest in
          let some : length s.rest ≡ suc (length later) = ap length e in
          let many = as_many visits s.ways s.follow in
          let so_many = s.so_many in
          absurd (omega arith)

  -- there are no more
  pub no_more : (visits : List Visit) (at looked place : ℕ) → Stands succ t visits at looked → length visits ≤ at → length visits ≤ place → HasAtMost succ t place
  no_more visits at looked place s past few =
      let many = as_many visits s.ways s.follow in
      has_at_most succ t s.ways s.done s.seen place (subst (λ (l : List (List ℕ)). IsUnderWay succ t s.ways s.done l s.seen) (all_done visits at looked s past) s.under_way) (omega arith)

  -- a node that isn't among them is out
  pub node_out : (visits : List Visit) (at looked node : ℕ) → Stands succ t visits at looked → length visits ≤ at → ¬ (Has (nodes_of visits) node) → IsOut succ t node
  node_out visits at looked node s past out =
      is_out succ t s.ways s.done s.seen node (subst (λ (l : List (List ℕ)). IsUnderWay succ t s.ways s.done l s.seen) (all_done visits at looked s past) s.under_way) (λ h. out (subst (λ (l : List ℕ). Has l node) s.follow.ends h))

  -- a node that isn't among the first visits is out before their end
  out_before : (visits : List Visit) (at looked node place : ℕ) → Stands succ t visits at looked → place ≤ length visits → ((k : ℕ) → k < place → ¬ ((visit_at visits k).node ≡ node)) → IsOutBefore succ t place node
  out_before visits at looked node place s few other k low there =
      let here = ends_at visits at looked k s (omega arith) in
      other k low (sym here.ends ∙ (ap (end t) (one_at_a_place succ t k here.way there.way here.stands there.stands) ∙ there.ends))

  -- before its visit
  pub out_before_visit : (visits : List Visit) (at looked node place : ℕ) → Stands succ t visits at looked → (place < length visits) × ((visit_at visits place).node ≡ node) → IsOutBefore succ t place node
  out_before_visit visits at looked node place s is =
      let less = is.0 in
      let long = length-map visits (λ (visit : Visit). visit.node) in
      let named = λ (k : ℕ) (low : k < length visits). at_mapped (λ (visit : Visit). visit.node) visits k no_visit 0 low in
      let d : IsDistinct (nodes_of visits) = subst (λ (l : List ℕ). IsDistinct l) s.follow.ends s.under_way.apart in
      out_before visits at looked node place s (omega arith) (λ k low e. apart_at (nodes_of visits) k place d low (omega arith) (named k (omega arith) ∙ (e ∙ (sym is.1 ∙ sym (named place less)))))

  -- before all that are left, where it has none
  pub out_before_rest : (visits : List Visit) (at looked node : ℕ) → Stands succ t visits at looked → ¬ (Has (nodes_of visits) node) → IsOutBefore succ t (length visits) node
  out_before_rest visits at looked node s out = out_before visits at looked node (length visits) s (omega arith) (λ k low e. out (among visits node k low e))

  -- at the start
  pub back_at_start : (visits : List Visit) (nodes : List ℕ) (at looked at_place place : ℕ) → Stands succ t visits at looked → place < length visits → LeadsBack t visits nodes at_place place → at_place ≡ 0 → GoesAt succ t place (reverse (nodes ++ t ∷ []))
  back_at_start visits nodes at looked at_place place s less back zero_now =
      let many = as_many visits s.ways s.follow in
      let whole : nodes ≡ get_or s.ways place [] = sym (append-nil nodes) ∙ (ap (λ (l : List ℕ). nodes ++ l) (sym (ap (λ (k : ℕ). get_or s.ways k []) zero_now ∙ s.follow.first)) ∙ back s.ways s.follow) in
      record { way = get_or s.ways place []; stands = stands_at succ t s.ways s.done s.rest s.seen place s.under_way (omega arith); goes = ap (λ (l : List ℕ). reverse (l ++ t ∷ [])) whole ∙ reverse-append (get_or s.ways place []) (t ∷ []) }

  -- one step back
  pub back_one : (visits : List Visit) (nodes : List ℕ) (at place : ℕ) → at < length visits → 0 < at → LeadsBack t visits nodes at place → LeadsBack t visits (nodes ++ (visit_at visits at).node ∷ []) (visit_at visits at).from place
  back_one visits nodes at place less high back ways a =
      append_assoc nodes ((visit_at visits at).node ∷ []) (get_or ways (visit_at visits at).from []) ∙ (ap (λ (l : List ℕ). nodes ++ l) (sym (a.further at less high)) ∙ back ways a)

-- the sum of a list
sum_of : List ℕ → ℕ
sum_of [] = 0
sum_of (n ∷ ns) = n + sum_of ns

-- a number in a list is at most the sum
below_sum : (ns : List ℕ) (n : ℕ) → Has ns n → n ≤ sum_of ns
unfolding sum_of
below_sum [] n h = absurd h
below_sum (m ∷ ns) n (inl here) = omega arith
below_sum (m ∷ ns) n (inr there) = let less = below_sum ns n there in omega arith

-- the sum of all rows
total : List (List ℕ) → ℕ
total [] = 0
total (row ∷ rows) = sum_of row + total rows

-- a successor is at most the sum of all rows
successor_below : (rows : List (List ℕ)) (k n : ℕ) → Has (successors rows k) n → n ≤ total rows
unfolding total
successor_below [] k n h = absurd h
successor_below (row ∷ rows) zero n h = let less = below_sum row n h in omega arith
successor_below (row ∷ rows) (suc k) n h = let less = successor_below rows k n h in omega arith

-- a number above all nodes that a search can find
pub room : List (List ℕ) → ℕ → ℕ
room rows t = suc (t + total rows)

-- each end of a way is below it
end_below : (rows : List (List ℕ)) (t : ℕ) (way : List ℕ) → IsWay (successors rows) t way → end t way < room rows t
unfolding room
end_below rows t [] is = omega arith
end_below rows t (n ∷ way) is = let less = successor_below rows (end t way) n is.0 in omega arith

-- so there are no more visits than that
pub few_visits : (rows : List (List ℕ)) (t : ℕ) (visits : List Visit) (at looked : ℕ) → Stands (successors rows) t visits at looked → length visits ≤ room rows t
few_visits rows t visits at looked s =
    let d : IsDistinct (nodes_of visits) = subst (λ (l : List ℕ). IsDistinct l) s.follow.ends s.under_way.apart in
    let low : (n : ℕ) → Has (nodes_of visits) n → n < room rows t = λ n h. let found = Has-from_map (end t) s.ways n (subst (λ (l : List ℕ). Has l n) (sym s.follow.ends) h) in subst (λ (k : ℕ). k < room rows t) found.2 (end_below rows t found.0 (s.under_way.are found.0 found.1)) in
    let few = length-le_distinct (nodes_of visits) (room rows t) d low in
    let long = length-map visits (λ (visit : Visit). visit.node) in
    omega arith

-- earlier visits stay
pub visit_kept : (old new : List Visit) (node from k : ℕ) → IsVisited old new node from → k < length old → (visit_at new k ≡ visit_at old k) × (k < length new)
visit_kept old new node from k (inl same) less = (ap (λ (l : List Visit). visit_at l k) same.1, subst (λ (l : List Visit). k < length l) (sym same.1) less)
visit_kept old new node from k (inr fresh) less =
    let long = length-append old (record { node = node; from = from } ∷ []) in
    (ap (λ (l : List Visit). visit_at l k) fresh.1 ∙ at_front old (record { node = node; from = from } ∷ []) k no_visit less, subst (λ (l : List Visit). k < length l) (sym fresh.1) (omega arith))

-- A loop over a row goes on with the next node's successors.
pub record LooksOn (rows : List (List ℕ)) (row : List ℕ) (t first : ℕ) (start : ℕ) (visits : List Visit) (at looked : ℕ) : Type 0 where
  pub same_start : start ≡ t
  pub same_at : at ≡ first
  pub more : at < length visits
  pub row_is : row ≡ successors rows (visit_at visits at).node
  pub stands : Stands (successors rows) t visits at looked

-- after one more
pub looks_on : (rows : List (List ℕ)) (row : List ℕ) (t first start : ℕ) (visits new : List Visit) (at looked : ℕ) → LooksOn rows row t first start visits at looked → looked < length row → IsVisited visits new (get_or row looked 0) at → LooksOn rows row t first start new at (looked + 1)
looks_on rows row t first start visits new at looked o less visited =
    let kept = visit_kept visits new (get_or row looked 0) at at visited o.more in
    record { same_start = o.same_start; same_at = o.same_at; more = kept.1; row_is = o.row_is ∙ ap (λ (v : Visit). successors rows v.node) (sym kept.0); stands = stands_looked (successors rows) t visits new at looked o.stands o.more row o.row_is less visited }

-- a node that has a place stands among the nodes
pub node_found : (visits : List Visit) (node : ℕ) (r : Option ℕ) → MatchOption r (¬ (Has (nodes_of visits) node)) (λ place. (place < length visits) × ((visit_at visits place).node ≡ node)) → is_some r ≡ true → Has (nodes_of visits) node
node_found visits node None out e = absurd (false≢true e)
node_found visits node (Some place) at e =
    let long = length-map visits (λ (visit : Visit). visit.node) in
    let low = at.0 in
    let within : place < length (nodes_of visits) = omega arith in
    subst (λ (k : ℕ). Has (nodes_of visits) k) (at_mapped (λ (visit : Visit). visit.node) visits place no_visit 0 at.0 ∙ at.1) (Has-get_or (nodes_of visits) place 0 within)

-- the place of a node, once it is found or nothing is left to find
pub place_answer : (succ : ℕ → List ℕ) (t : ℕ) (visits : List Visit) (at looked node : ℕ)
    → Stands succ t visits at looked → Has (nodes_of visits) node ⊎ (length visits ≤ at) → (r : Option ℕ)
    → MatchOption r (¬ (Has (nodes_of visits) node)) (λ place. (place < length visits)
    × ((visit_at visits place).node ≡ node)) → MatchOption r (IsOut succ t node)
    (λ place. EndsAt succ t place node)
place_answer succ t visits at looked node s (inl found) None out = absurd (out found)
place_answer succ t visits at looked node s (inr past) None out = node_out succ t visits at looked node s past out
place_answer succ t visits at looked node s reached (Some place) is = subst (λ (n : ℕ). EndsAt succ t place n) is.1 (ends_at succ t visits at looked place s is.0)

-- nothing is left to find, where a place isn't reached
pub all_looked : (place many at : ℕ) → (place < many) ⊎ (many ≤ at) → many ≤ place → many ≤ at
all_looked place many at (inl less) past = absurd (omega arith)
all_looked place many at (inr done) past = done
