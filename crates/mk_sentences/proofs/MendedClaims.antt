-- The claims that lines mend, by what the code's claims stand for.
use Rattle.std.proofs.Common.{◌≡◌, Bool, true, false, cond, List, [], ◌∷◌, suc, filter, length, map, refl, ap}
use Rattle.mk_claims.specs.Claims.{Claim, claim_view}
use Rattle.mk_sentences.specs.Counts.{has_line}
use Rattle.mk_claims.specs.declared.claim.Claim as borrowed

-- a line mends the claim
abbrev pub is_mended : borrowed.Claim → Bool
is_mended c = c.topic.has_line

pub mended_seen : (claims : List borrowed.Claim) → length (filter is_mended claims) ≡ length (filter has_line (map claim_view claims))
mended_seen [] = refl
mended_seen (c ∷ claims) = at c.topic.has_line (mended_seen claims)
  where
    at : (b : Bool) → length (filter is_mended claims) ≡ length (filter has_line (map claim_view claims))
        → length (cond b (c ∷ filter is_mended claims) (filter is_mended claims)) ≡ length (cond b (claim_view c ∷ filter has_line (map claim_view claims)) (filter has_line (map claim_view claims)))
    at true ih = ap suc ih
    at false ih = ih
