-- Rows while claims are added.
use Rattle.std.proofs.Common.{◌≡◌, ℕ, ◌+◌, ◌<◌, List, length, get_or, drop, map, sym, ap, ◌∙◌}
use Rattle.std.proofs.lemmas.List.{drop_more}
use Rattle.mk_repair.specs.Gathering.{with_value, with_values}
use Rattle.mk_claims.specs.Claims.{claim_view}
use Rattle.mk_claims.specs.Grouping.{RowKey, row_key_eq, row_pair}
use Rattle.mk_claims.specs.declared.claim.Claim.{Claim}

-- a claim more is in its row
pub claim_added : (claims : List Claim) (i : ℕ) (d : Claim) (key : RowKey) (file : List ℕ) (old new whole : List (RowKey × List (List ℕ))) → i < length claims
    → key ≡ (row_pair (claim_view (get_or claims i d))).0 → file ≡ (row_pair (claim_view (get_or claims i d))).1 → new ≡ with_value row_key_eq old key file
    → with_values row_key_eq old (map row_pair (map claim_view (drop i claims))) ≡ whole → with_values row_key_eq new (map row_pair (map claim_view (drop (i + 1) claims))) ≡ whole
claim_added claims i d key file old new whole lt k f e inv =
    let rest = map row_pair (map claim_view (drop (i + 1) claims)) in
    let pair = row_pair (claim_view (get_or claims i d)) in
    let same : new ≡ with_value row_key_eq old pair.0 pair.1 = e ∙ (ap (λ (x : RowKey). with_value row_key_eq old x file) k ∙ ap (λ (x : List ℕ). with_value row_key_eq old pair.0 x) f) in
    ap (λ (rows : List (RowKey × List (List ℕ))). with_values row_key_eq rows rest) same
    ∙ (sym (ap (λ (cs : List Claim). with_values row_key_eq old (map row_pair (map claim_view cs))) (drop_more claims i d lt)) ∙ inv)
