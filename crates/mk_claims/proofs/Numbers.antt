-- The numbers of groups, by what the code's tables stand for.
use Rattle.std.proofs.Common.{◌≡◌, ◌∙◌, ℕ, suc, ◌+◌, ◌≤◌, arith, get_or, Bool, true, false, cond, List, [], ◌∷◌, Option, None, Some, length, map, refl, sym, ap, Vec, Global}
use Rattle.std.specs.Prelude.{nat_lt, not, position}
use Rattle.std.specs.List.{position_or_len}
use Rattle.std.proofs.lemmas.Bool.{ltb-false}
use Rattle.std.proofs.lemmas.List.{get_or_past}
use Rattle.std.specs.Borrow.{Bor}
use Rattle.std.specs.Map.{keys_of, lookup}
use Rattle.std.specs.Option.{option_map, option_map_or, unwrap_or}
use Rattle.mk_repair.specs.Rows.{names_view}
use Rattle.mk_claims.specs.Claims.{Claim}
use Rattle.mk_claims.specs.Grouping.{Group, group_key_eq, group_of, row_key_eq, row_pair}
use Rattle.mk_claims.specs.Grouping.{RowKey as Row}
use Rattle.mk_claims.specs.Numbering.{group_number, is_of, number_with, row_number}
use Rattle.mk_claims.specs.Tables.{group_key_view, groups_view, row_key_view, rows_view}
use Rattle.mk_claims.specs.Topics.{topic_view}
use Rattle.mk_claims.specs.contracts.grouping.RowKeyPartialEq.TheImpl as row_keys
use Rattle.mk_claims.specs.contracts.grouping.GroupKeyPartialEq.TheImpl as group_keys
use Rattle.mk_claims.specs.declared.grouping.RowKey.{RowKey}
use Rattle.mk_claims.specs.declared.grouping.GroupKey.{GroupKey}
use Rattle.mk_claims.proofs.HeldClaims.{row_decides}
use Rattle.mk_claims.proofs.SameKeys.{group_keys_seen, row_keys_seen}

-- the place of a group
place_found : (key : GroupKey) (entries : List (GroupKey × Vec (Bor (List ℕ)) Global)) → position_or_len (group_keys.eq-value.it key) (keys_of entries) ≡ position_or_len (is_of (topic_view key.topic) (names_view key.what.now)) (map group_of (groups_view entries))
place_found key [] = refl
place_found key (e ∷ entries) =
    ap (λ n. cond (not (group_keys.eq-value.it key e.0)) (1 + n) 0) (place_found key entries)
    ∙ ap (λ b. cond (not b) (1 + position_or_len (is_of (topic_view key.topic) (names_view key.what.now)) (map group_of (groups_view entries))) 0) (group_keys_seen key e.0)

as_many : (entries : List (GroupKey × Vec (Bor (List ℕ)) Global)) → length (keys_of entries) ≡ length (map group_of (groups_view entries))
as_many [] = refl
as_many (e ∷ entries) = ap suc (as_many entries)

pub group_found : (key : GroupKey) (entries : List (GroupKey × Vec (Bor (List ℕ)) Global)) → position (group_keys.eq-value.it key) (keys_of entries) ≡ position (is_of (topic_view key.topic) (names_view key.what.now)) (map group_of (groups_view entries))
group_found key entries = λ i. cond (nat_lt (place_found key entries i) (as_many entries i)) (Some (place_found key entries i)) None

-- as many numbers as rows
many_rows : (groups : List Group) (entries : List (RowKey × Vec (Bor (List ℕ)) Global)) → length (map (row_number groups) (rows_view entries)) ≡ length (keys_of entries)
many_rows groups [] = refl
many_rows groups (e ∷ entries) = ap suc (many_rows groups entries)

-- the place that was found
pub place_is : (n m place : ℕ) → cond (nat_lt n m) (Some n) None ≡ Some place → n ≡ place
place_is n m place e = at (nat_lt n m) e
  where
    at : (b : Bool) → cond b (Some n) None ≡ Some place → n ≡ place
    at true e = ap (λ o. unwrap_or o n) e
    at false e = absurd cc

-- no place was found
none_before : (n m : ℕ) → cond (nat_lt n m) (Some n) None ≡ None → m ≤ n
none_before n m e = at (nat_lt n m) refl e
  where
    at : (b : Bool) → nat_lt n m ≡ b → cond b (Some n) None ≡ None → m ≤ n
    at true d e = absurd cc
    at false d e = ltb-false n m d

-- at the place of a claim's row stands the number of its group
number_there : (key : RowKey) (entries : List (RowKey × Vec (Bor (List ℕ)) Global)) (groups : List Group) (c : Claim) → row_key_view key ≡ (row_pair c).0
    → get_or (map (row_number groups) (rows_view entries)) (position_or_len (row_keys.eq-value.it key) (keys_of entries)) 0 ≡ group_number (rows_view entries) groups c
number_there key [] groups c same = refl
number_there key (e ∷ entries) groups c same = at (row_keys.eq-value.it key e.0) (row_key_eq (row_pair c).0 (row_key_view e.0)) refl (row_keys_seen key e.0 ∙ ap (λ (k : Row). row_key_eq k (row_key_view e.0)) same) (number_there key entries groups c same)
  where
    numbers : List ℕ
    numbers = map (row_number groups) (rows_view entries)

    further : ℕ
    further = position_or_len (row_keys.eq-value.it key) (keys_of entries)

    at : (b d : Bool) → row_keys.eq-value.it key e.0 ≡ b → b ≡ d → get_or numbers further 0 ≡ group_number (rows_view entries) groups c
        → get_or (number_with groups (topic_view e.0.topic) (names_view e.1.items) ∷ numbers) (cond (not b) (1 + further) 0) 0 ≡ option_map_or (number_with groups c.topic) (cond d (Some (names_view e.1.items)) (lookup (row_key_eq (row_pair c).0) (rows_view entries))) 0
    at true true is t ih =
        let equal : row_key_view key ≡ row_key_view e.0 = row_decides (row_key_view key) (row_key_view e.0) (sym (row_keys_seen key e.0) ∙ is) in
        ap (λ (k : Row). number_with groups k.topic (names_view e.1.items)) (sym equal ∙ same)
    at false false is t ih =
        let next : 1 + further ≡ suc further = omega arith in
        ap (λ (n : ℕ). get_or (number_with groups (topic_view e.0.topic) (names_view e.1.items) ∷ numbers) n 0) next ∙ ih
    at true false is t ih = absurd cc
    at false true is t ih = absurd cc

-- the number by the place of a row
pub number_found : (key : RowKey) (entries : List (RowKey × Vec (Bor (List ℕ)) Global)) (groups : List Group) (c : Claim) (place : ℕ) → row_key_view key ≡ (row_pair c).0
    → Some place ≡ position (row_keys.eq-value.it key) (keys_of entries) → get_or (map (row_number groups) (rows_view entries)) place 0 ≡ group_number (rows_view entries) groups c
number_found key entries groups c place same found =
    ap (λ n. get_or (map (row_number groups) (rows_view entries)) n 0) (sym (place_is _ (length (keys_of entries)) place (sym found))) ∙ number_there key entries groups c same

-- a claim without a row
pub number_missing : (key : RowKey) (entries : List (RowKey × Vec (Bor (List ℕ)) Global)) (groups : List Group) (c : Claim) → row_key_view key ≡ (row_pair c).0
    → None ≡ position (row_keys.eq-value.it key) (keys_of entries) → 0 ≡ group_number (rows_view entries) groups c
number_missing key entries groups c same missing =
    let past = none_before (position_or_len (row_keys.eq-value.it key) (keys_of entries)) (length (keys_of entries)) (sym missing) in
    sym (get_or_past (map (row_number groups) (rows_view entries)) (position_or_len (row_keys.eq-value.it key) (keys_of entries)) 0 (omega (arith, past, many_rows groups entries)))
    ∙ number_there key entries groups c same

-- the number by the place of a group
pub number_at : (key : GroupKey) (entries : List (GroupKey × Vec (Bor (List ℕ)) Global)) (place : Option ℕ) → place ≡ position (group_keys.eq-value.it key) (keys_of entries)
    → unwrap_or (option_map (λ i. i + 1) place) 0 ≡ number_with (map group_of (groups_view entries)) (topic_view key.topic) (names_view key.what.now)
number_at key entries place e = ap (λ (o : Option ℕ). unwrap_or (option_map (λ i. i + 1) o) 0) (e ∙ group_found key entries)
