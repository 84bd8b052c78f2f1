-- Values gathered by keys.
use Rattle.std.proofs.Common.{◌≡◌, ℕ, Bool, true, false, cond, ◌&&◌, List, [], ◌∷◌, ◌++◌, map, Some, unwrap_or, refl, ap, ◌∙◌}
use Rattle.std.specs.Borrow.{Bor}
use Rattle.std.specs.Cmp.Lexicographic.{pointwise}
use Rattle.std.specs.Map.{lookup}
use Rattle.std.specs.Str.{bytes_eq}
use Rattle.std.specs.declared.vec.Vec.{Vec}
use Rattle.std.specs.declared.alloc.Global.{Global}
use Rattle.std.proofs.lemmas.List.{map_push}
use Rattle.indexmap.specs.IndexMap.{insert_entry}
use Rattle.mk_repair.specs.Gathering.{with_value}
use Rattle.mk_repair.specs.Lines.{names_eq}
use Rattle.mk_repair.specs.Rows.{table_rows, names_view, rows_view, groups_view}

-- the rows of a table once a key has its list with one more value
pub value_put : {K V : Type 0} (same : K → K → Bool) (es : List (K × Vec V Global)) (k : K) (v : V) (d w : Vec V Global) → d.items ≡ [] → w.items ≡ (unwrap_or (lookup (same k) es) d).items ++ v ∷ [] → table_rows (insert_entry same es k w) ≡ with_value same (table_rows es) k v
value_put same [] k v d w e h = ap (λ l. (k, l) ∷ []) (h ∙ ap (λ l. l ++ v ∷ []) e)
value_put {K} {V} same (row ∷ es) k v d w e h = at (same k row.0) h (value_put same es k v d w e)
  where
    at : (b : Bool) → w.items ≡ (unwrap_or (cond b (Some row.1) (lookup (same k) es)) d).items ++ v ∷ [] → (w.items ≡ (unwrap_or (lookup (same k) es) d).items ++ v ∷ [] → table_rows (insert_entry same es k w) ≡ with_value same (table_rows es) k v)
        → table_rows (cond b ((row.0, w) ∷ es) (row ∷ insert_entry same es k w)) ≡ cond b ((row.0, row.1.items ++ v ∷ []) ∷ table_rows es) ((row.0, row.1.items) ∷ with_value same (table_rows es) k v)
    at true h ih = ap (λ l. (row.0, l) ∷ table_rows es) h
    at false h ih = ap (λ rest. (row.0, row.1.items) ∷ rest) (ih h)

-- the rows, once keys and values are seen by views that the test doesn't tell apart
pub value_seen : {K L V W : Type 0} (same : K → K → Bool) (same' : L → L → Bool) (f : K → L) (g : V → W) → ((x y : K) → same x y ≡ same' (f x) (f y)) → (rows : List (K × List V)) (k : K) (v : V)
    → map (λ (row : K × List V). (f row.0, map g row.1)) (with_value same rows k v) ≡ with_value same' (map (λ (row : K × List V). (f row.0, map g row.1)) rows) (f k) (g v)
value_seen same same' f g agrees [] k v = refl
value_seen {K} {L} {V} {W} same same' f g agrees (row ∷ rows) k v = at (same k row.0) (same' (f k) (f row.0)) (agrees k row.0) (value_seen same same' f g agrees rows k v)
  where
    at : (b c : Bool) → b ≡ c → map (λ (row : K × List V). (f row.0, map g row.1)) (with_value same rows k v) ≡ with_value same' (map (λ (row : K × List V). (f row.0, map g row.1)) rows) (f k) (g v)
        → map (λ (row : K × List V). (f row.0, map g row.1)) (cond b ((row.0, row.1 ++ v ∷ []) ∷ rows) (row ∷ with_value same rows k v))
        ≡ cond c ((f row.0, map g row.1 ++ g v ∷ []) ∷ map (λ (row : K × List V). (f row.0, map g row.1)) rows) ((f row.0, map g row.1) ∷ with_value same' (map (λ (row : K × List V). (f row.0, map g row.1)) rows) (f k) (g v))
    at true true e ih = ap (λ l. (f row.0, l) ∷ map (λ (row : K × List V). (f row.0, map g row.1)) rows) (map_push g row.1 v)
    at true false e ih = absurd cc
    at false true e ih = absurd cc
    at false false e ih = ap (λ rest. (f row.0, map g row.1) ∷ rest) ih

-- equality of lists of borrowed names, over what they spell
pub names_seen : (xs ys : List (Bor (List ℕ))) → pointwise (λ x y. bytes_eq x.now y.now) xs ys ≡ names_eq (names_view xs) (names_view ys)
names_seen [] [] = refl
names_seen [] (y ∷ ys) = refl
names_seen (x ∷ xs) [] = refl
names_seen (x ∷ xs) (y ∷ ys) = ap (λ b. bytes_eq x.now y.now && b) (names_seen xs ys)

-- a row of the table of targets
pub row_added : (old new : List (Bor (List ℕ) × Vec (Bor (List ℕ)) Global)) (same : Bor (List ℕ) → Bor (List ℕ) → Bool) (target prerequisite : Bor (List ℕ)) → table_rows new ≡ with_value same (table_rows old) target prerequisite
    → ((x y : Bor (List ℕ)) → same x y ≡ bytes_eq x.now y.now) → rows_view new ≡ with_value bytes_eq (rows_view old) target.now prerequisite.now
row_added old new same target prerequisite e agrees =
    ap (map (λ (row : Bor (List ℕ) × List (Bor (List ℕ))). (row.0.now, names_view row.1))) e ∙ value_seen same bytes_eq (λ (n : Bor (List ℕ)). n.now) (λ (n : Bor (List ℕ)). n.now) agrees (table_rows old) target prerequisite

-- a row of the table of lists of prerequisites
pub group_added : (old new : List (Bor (List (Bor (List ℕ))) × Vec (Bor (List ℕ)) Global)) (same : Bor (List (Bor (List ℕ))) → Bor (List (Bor (List ℕ))) → Bool) (names : Bor (List (Bor (List ℕ)))) (target : Bor (List ℕ)) → table_rows new ≡ with_value same (table_rows old) names target
    → ((x y : Bor (List (Bor (List ℕ)))) → same x y ≡ names_eq (names_view x.now) (names_view y.now)) → groups_view new ≡ with_value names_eq (groups_view old) (names_view names.now) target.now
group_added old new same names target e agrees =
    ap (map (λ (row : Bor (List (Bor (List ℕ))) × List (Bor (List ℕ))). (names_view row.0.now, names_view row.1))) e ∙ value_seen same names_eq (λ (n : Bor (List (Bor (List ℕ)))). names_view n.now) (λ (n : Bor (List ℕ)). n.now) agrees (table_rows old) names target
