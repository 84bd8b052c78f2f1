-- The groups of claims hold just these.
use Rattle.std.proofs.Common.{◌≡◌, ℕ, ◌==◌, Bool, true, false, cond, List, [], ◌∷◌, ◌++◌, map, refl, sym, ap, subst, ◌∙◌, ◌&&◌}
use Rattle.std.specs.List.{flat_map}
use Rattle.std.specs.List.Sorted.{IsPermutation}
use Rattle.std.specs.Str.{bytes_eq}
use Rattle.std.proofs.lemmas.Bool.{eqb-true, and_parts}
use Rattle.std.proofs.lemmas.List.{append_assoc, append-nil, map-append}
use Rattle.std.proofs.lemmas.List.Concat.{flat_map-append}
use Rattle.std.proofs.lemmas.List.Sorted.{IsPermutation-refl, IsPermutation-trans, IsPermutation-append_left, IsPermutation-append_right, IsPermutation-append_comm}
use Rattle.std.proofs.lemmas.Slice.Eq.{bytes_eq-Decides, slice_eq-Decides}
use Rattle.mk_repair.specs.Gathering.{with_value, with_values, gathered}
use Rattle.mk_repair.specs.Lines.{names_eq}
use Rattle.mk_claims.specs.Topics.{Topic, topic_eq, same_bool, kind_number}
use Rattle.mk_claims.specs.Claims.{Claim}
use Rattle.mk_claims.specs.Grouping.{RowKey, GroupKey, row_key_eq, group_key_eq, row_pair, group_pair, group_of, rows, groups}
use Rattle.mk_claims.specs.Laws.{claim_on, claims_in}
use Rattle.mk_claims.proofs.SameKeys.{one_number}

-- the pairs of rows
abbrev pub spread : {K V : Type 0} → List (K × List V) → List (K × V)
spread rows = flat_map (λ row. map (λ v. (row.0, v)) row.1) rows

module _ {K V C : Type 0} (same : K → K → Bool) (decides : (x y : K) → same x y ≡ true → x ≡ y) (f : K × V → List C) where
  -- what the pairs of rows give
  abbrev all_of : List (K × List V) → List C
  all_of rows = flat_map f (spread rows)

  -- a row more
  row_more : (row : K × List V) (rows : List (K × List V)) → all_of (row ∷ rows) ≡ flat_map f (map (λ v. (row.0, v)) row.1) ++ all_of rows
  row_more row rows = flat_map-append f (map (λ v. (row.0, v)) row.1) (spread rows)

  -- a row with a value more
  value_more : (key : K) (values : List V) (v : V) → flat_map f (map (λ w. (key, w)) (values ++ v ∷ [])) ≡ flat_map f (map (λ w. (key, w)) values) ++ f (key, v)
  value_more key values v =
      ap (flat_map f) (map-append (λ w. (key, w)) values (v ∷ []))
      ∙ (flat_map-append f (map (λ w. (key, w)) values) ((key, v) ∷ []) ∙ ap (λ l. flat_map f (map (λ w. (key, w)) values) ++ l) (append-nil (f (key, v))))

  -- a part that moves to the end
  to_end : (a b d : List C) → IsPermutation ((a ++ d) ++ b) ((a ++ b) ++ d)
  to_end a b d =
      subst (λ (l : List C). IsPermutation l ((a ++ b) ++ d)) (sym (append_assoc a d b))
      (subst (λ (l : List C). IsPermutation (a ++ (d ++ b)) l) (sym (append_assoc a b d)) (IsPermutation-append_right a (d ++ b) (b ++ d) (IsPermutation-append_comm d b)))

  -- a pair more
  pair_more : (rows : List (K × List V)) (k : K) (v : V) → IsPermutation (all_of (with_value same rows k v)) (all_of rows ++ f (k, v))
  pair_more [] k v = subst (λ (l : List C). IsPermutation l (f (k, v))) (sym (append-nil (f (k, v)))) (IsPermutation-refl (f (k, v)))
  pair_more (row ∷ rows) k v = at (same k row.0) refl (pair_more rows k v)
    where
      at : (b : Bool) → same k row.0 ≡ b → IsPermutation (all_of (with_value same rows k v)) (all_of rows ++ f (k, v))
          → IsPermutation (all_of (cond b ((row.0, row.1 ++ v ∷ []) ∷ rows) (row ∷ with_value same rows k v))) (all_of (row ∷ rows) ++ f (k, v))
      at true e ih =
          let here = flat_map f (map (λ w. (row.0, w)) row.1) in
          let new : all_of ((row.0, row.1 ++ v ∷ []) ∷ rows) ≡ (here ++ f (k, v)) ++ all_of rows =
          row_more (row.0, row.1 ++ v ∷ []) rows ∙ (ap (λ l. l ++ all_of rows) (value_more row.0 row.1 v) ∙ ap (λ (key : K). (here ++ f (key, v)) ++ all_of rows) (sym (decides k row.0 e))) in
          subst (λ (l : List C). IsPermutation l (all_of (row ∷ rows) ++ f (k, v))) (sym new)
          (subst (λ (l : List C). IsPermutation ((here ++ f (k, v)) ++ all_of rows) (l ++ f (k, v))) (sym (row_more row rows)) (to_end here (all_of rows) (f (k, v))))
      at false e ih =
          let here = flat_map f (map (λ w. (row.0, w)) row.1) in
          subst (λ (l : List C). IsPermutation l (all_of (row ∷ rows) ++ f (k, v))) (sym (row_more row (with_value same rows k v)))
          (subst (λ (l : List C). IsPermutation (here ++ all_of (with_value same rows k v)) l) (sym (append_assoc here (all_of rows) (f (k, v))) ∙ ap (λ l. l ++ f (k, v)) (sym (row_more row rows)))
          (IsPermutation-append_right here (all_of (with_value same rows k v)) (all_of rows ++ f (k, v)) ih))

  -- pairs more
  pairs_more : (rows : List (K × List V)) (pairs : List (K × V)) → IsPermutation (all_of (with_values same rows pairs)) (all_of rows ++ flat_map f pairs)
  pairs_more rows [] = subst (λ (l : List C). IsPermutation (all_of rows) l) (sym (append-nil (all_of rows))) (IsPermutation-refl (all_of rows))
  pairs_more rows (p ∷ pairs) =
      IsPermutation-trans (all_of (with_values same (with_value same rows p.0 p.1) pairs)) (all_of (with_value same rows p.0 p.1) ++ flat_map f pairs) (all_of rows ++ (f p ++ flat_map f pairs))
      (pairs_more (with_value same rows p.0 p.1) pairs)
      (subst (λ (l : List C). IsPermutation (all_of (with_value same rows p.0 p.1) ++ flat_map f pairs) l) (append_assoc (all_of rows) (f p) (flat_map f pairs))
      (IsPermutation-append_left (flat_map f pairs) (all_of (with_value same rows p.0 p.1)) (all_of rows ++ f p) (pair_more rows p.0 p.1)))

  -- what is gathered gives what the pairs give
  pub gathered_all : (pairs : List (K × V)) → IsPermutation (flat_map f (spread (gathered same pairs))) (flat_map f pairs)
  gathered_all pairs = pairs_more [] pairs

-- equal Booleans are one
bool_decides : (b c : Bool) → same_bool b c ≡ true → b ≡ c
bool_decides true true e = refl
bool_decides true false e = absurd cc
bool_decides false true e = absurd cc
bool_decides false false e = refl

-- equal topics are one
pub topic_decides : (t u : Topic) → topic_eq t u ≡ true → t ≡ u
topic_decides t u e =
    let first = and_parts (kind_number t.kind == kind_number u.kind) (same_bool t.has_line u.has_line && (bytes_eq t.first u.first && (bytes_eq t.second u.second && bytes_eq t.cycle u.cycle))) e in
    let second = and_parts (same_bool t.has_line u.has_line) (bytes_eq t.first u.first && (bytes_eq t.second u.second && bytes_eq t.cycle u.cycle)) first.1 in
    let third = and_parts (bytes_eq t.first u.first) (bytes_eq t.second u.second && bytes_eq t.cycle u.cycle) second.1 in
    let fourth = and_parts (bytes_eq t.second u.second) (bytes_eq t.cycle u.cycle) third.1 in
    let kind : t.kind ≡ u.kind = one_number t.kind u.kind (eqb-true (kind_number t.kind) (kind_number u.kind) first.0) in
    let line : t.has_line ≡ u.has_line = bool_decides t.has_line u.has_line second.0 in
    let one : t.first ≡ u.first = (bytes_eq-Decides t.first u.first).0 third.0 in
    let two : t.second ≡ u.second = (bytes_eq-Decides t.second u.second).0 fourth.0 in
    let round : t.cycle ≡ u.cycle = (bytes_eq-Decides t.cycle u.cycle).0 fourth.1 in
    λ i. record { kind = kind i; has_line = line i; first = one i; second = two i; cycle = round i }

-- equal keys of rows are one
pub row_decides : (k l : RowKey) → row_key_eq k l ≡ true → k ≡ l
row_decides k l e =
    let parts = and_parts (topic_eq k.topic l.topic) (bytes_eq k.who l.who) e in
    let topic : k.topic ≡ l.topic = topic_decides k.topic l.topic parts.0 in
    let who : k.who ≡ l.who = (bytes_eq-Decides k.who l.who).0 parts.1 in
    λ i. record { topic = topic i; who = who i }

-- equal keys of groups are one
group_decides : (k l : GroupKey) → group_key_eq k l ≡ true → k ≡ l
group_decides k l e =
    let parts = and_parts (topic_eq k.topic l.topic) (names_eq k.what l.what) e in
    let topic : k.topic ≡ l.topic = topic_decides k.topic l.topic parts.0 in
    let what : k.what ≡ l.what = (slice_eq-Decides bytes_eq-Decides k.what l.what (names_eq k.what l.what) refl).0 parts.1 in
    λ i. record { topic = topic i; what = what i }

-- the claim of a row's key and a file, alone
abbrev claim_at : RowKey × List ℕ → List Claim
claim_at p = claim_on p.0.topic p.0.who p.1 ∷ []

-- the claims of a group's key and a name
abbrev claims_at : GroupKey × List ℕ → List Claim
claims_at p = map (claim_on p.0.topic p.1) p.0.what

-- claims, by the pairs that rows are gathered from
claims_back : (claims : List Claim) → flat_map claim_at (map row_pair claims) ≡ claims
claims_back [] = refl
claims_back (c ∷ claims) = ap (λ rest. c ∷ rest) (claims_back claims)

-- the claims of a row
row_claims : (key : RowKey) (files : List (List ℕ)) → map (claim_on key.topic key.who) files ≡ flat_map claim_at (map (λ v. (key, v)) files)
row_claims key [] = refl
row_claims key (file ∷ files) = ap (λ (rest : List Claim). claim_on key.topic key.who file ∷ rest) (row_claims key files)

-- the claims of rows
rows_claims : (rs : List (RowKey × List (List ℕ))) → flat_map claims_at (map group_pair rs) ≡ flat_map claim_at (spread rs)
rows_claims [] = refl
rows_claims (row ∷ rs) =
    ap (λ rest. claims_at (group_pair row) ++ rest) (rows_claims rs)
    ∙ (ap (λ here. here ++ flat_map claim_at (spread rs)) (row_claims row.0 row.1) ∙ sym (flat_map-append claim_at (map (λ v. (row.0, v)) row.1) (spread rs)))

-- the claims of a group
group_claims : (key : GroupKey) (names : List (List ℕ)) → claims_in (group_of (key, names)) ≡ flat_map claims_at (map (λ v. (key, v)) names)
group_claims key [] = refl
group_claims key (name ∷ names) = ap (λ rest. claims_at (key, name) ++ rest) (group_claims key names)

-- the claims of groups
groups_claims : (gs : List (GroupKey × List (List ℕ))) → flat_map claims_in (map group_of gs) ≡ flat_map claims_at (spread gs)
groups_claims [] = refl
groups_claims (g ∷ gs) =
    ap (λ rest. claims_in (group_of g) ++ rest) (groups_claims gs)
    ∙ (ap (λ here. here ++ flat_map claims_at (spread gs)) (group_claims g.0 g.1) ∙ sym (flat_map-append claims_at (map (λ v. (g.0, v)) g.1) (spread gs)))

-- the groups hold just the claims
pub groups_hold : (claims : List Claim) → IsPermutation (flat_map claims_in (groups claims)) claims
groups_hold claims =
    let keyed = map group_pair (rows claims) in
    let by_groups : IsPermutation (flat_map claims_at (spread (gathered group_key_eq keyed))) (flat_map claims_at keyed) = gathered_all group_key_eq group_decides claims_at keyed in
    let by_rows : IsPermutation (flat_map claim_at (spread (rows claims))) (flat_map claim_at (map row_pair claims)) = gathered_all row_key_eq row_decides claim_at (map row_pair claims) in
    IsPermutation-trans (flat_map claims_in (groups claims)) (flat_map claims_at keyed) claims
    (subst (λ (l : List Claim). IsPermutation l (flat_map claims_at keyed)) (sym (groups_claims (gathered group_key_eq keyed))) by_groups)
    (subst (λ (l : List Claim). IsPermutation (flat_map claims_at keyed) l) (claims_back claims)
    (subst (λ (l : List Claim). IsPermutation l (flat_map claim_at (map row_pair claims))) (sym (rows_claims (rows claims))) by_rows))
