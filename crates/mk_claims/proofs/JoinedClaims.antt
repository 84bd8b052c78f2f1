-- Which claims are joined, by a set that tells it.
use Rattle.std.proofs.Common.{◌≡◌, ◌∙◌, ℕ, Bool, true, false, ◌||◌, ◌&&◌, cond, List, [], ◌∷◌, map, filter, not, get_or, length, suc, zero, refl, sym, ap, arith, ◌<◌}
use Rattle.std.specs.List.{All, AllByRecursion, list_any}
use Rattle.mk_claims.specs.Claims.{Claim, claim_view}
use Rattle.mk_claims.specs.declared.claim.Claim as borrowed
use Rattle.mk_claims.specs.Joining.{HoldsClaims, JoinsAlike, both_of, claim_eq, has_claim, is_joined, is_of_race, is_paired, is_race, is_second, is_stale, joined, joined_claim, other_of, partner, with_kind}
use Rattle.mk_claims.specs.declared.topic.Kind.{Kind}
use Rattle.mk_claims.specs.declared.topic.Kind.TheVariants.{NoRecord, OtherCommands, VaryingCommands, NoTarget, TwoWriters, GivenWritten, OwnRead, UnknownRead, UnrecordedRead, UnreachedRead, Loose, OwnPrerequisite, Race, OutputRace, Stale, OutputStale, RaceAndStale, OutputRaceAndStale, Selection}
use Rattle.mk_claims.proofs.ClaimSets.{claim_decides}

-- the parts of a test that fails
or_none : (a b : Bool) → (a || b) ≡ false → (a ≡ false) × (b ≡ false)
or_none true b e = absurd cc
or_none false b e = (refl, e)

-- a race is among the code's claims where it is among what they stand for
pub any_viewed : (claims : List borrowed.Claim) → list_any (λ c. is_of_race (claim_view c)) claims ≡ list_any is_of_race (map claim_view claims)
any_viewed [] = refl
any_viewed (c ∷ claims) = ap (λ b. is_of_race (claim_view c) || b) (any_viewed claims)

-- where there is no race, no claim equals one
no_race : (p : Claim) (claims : List Claim) → is_of_race p ≡ true → list_any is_of_race claims ≡ false → has_claim claims p ≡ false
no_race p [] r none = refl
no_race p (d ∷ claims) r none = at (claim_eq p d) refl (no_race p claims r parts.1)
  where
    parts : (is_of_race d ≡ false) × (list_any is_of_race claims ≡ false)
    parts = or_none (is_of_race d) (list_any is_of_race claims) none

    at : (b : Bool) → claim_eq p d ≡ b → has_claim claims p ≡ false → (b || has_claim claims p) ≡ false
    at true e ih = let bad : true ≡ false = sym (ap is_of_race (sym (claim_decides p d e)) ∙ r) ∙ parts.0 in absurd cc
    at false e ih = ih

-- what stands beside a stale read is a race
race_beside : (k : Kind) → is_paired k ≡ true → is_race k ≡ false → is_race (other_of k) ≡ true
race_beside NoRecord p r = absurd cc
race_beside OtherCommands p r = absurd cc
race_beside VaryingCommands p r = absurd cc
race_beside NoTarget p r = absurd cc
race_beside TwoWriters p r = absurd cc
race_beside GivenWritten p r = absurd cc
race_beside OwnRead p r = absurd cc
race_beside UnknownRead p r = absurd cc
race_beside UnrecordedRead p r = absurd cc
race_beside UnreachedRead p r = absurd cc
race_beside Loose p r = absurd cc
race_beside OwnPrerequisite p r = absurd cc
race_beside Race p r = absurd cc
race_beside OutputRace p r = absurd cc
race_beside Stale p r = refl
race_beside OutputStale p r = refl
race_beside RaceAndStale p r = absurd cc
race_beside OutputRaceAndStale p r = absurd cc
race_beside Selection p r = absurd cc

-- without a race no claim is joined
none_joined : (claims : List Claim) (c : Claim) → list_any is_of_race claims ≡ false → is_of_race c ≡ false → is_joined [] c ≡ is_joined claims c
none_joined claims c none r = at (is_paired c.topic.kind) refl
  where
    at : (b : Bool) → is_paired c.topic.kind ≡ b → (b && false) ≡ (b && has_claim claims (partner c))
    at true e = sym (no_race (partner c) claims (race_beside c.topic.kind e r) none)
    at false e = refl

none_from : (claims : List Claim) → list_any is_of_race claims ≡ false → (rest : List Claim) → list_any is_of_race rest ≡ false → (k : ℕ) (d : Claim) → k < length rest → is_joined [] (get_or rest k d) ≡ is_joined claims (get_or rest k d)
none_from claims none [] e k d low = absurd (omega (arith, low))
none_from claims none (c ∷ rest) e zero d low = none_joined claims c none (or_none (is_of_race c) (list_any is_of_race rest) e).0
none_from claims none (c ∷ rest) e (suc k) d low = none_from claims none rest (or_none (is_of_race c) (list_any is_of_race rest) e).1 k d (omega (arith, low))

-- so the empty set tells which are
pub none_alike : (claims : List Claim) → list_any is_of_race claims ≡ false → JoinsAlike [] claims
none_alike claims none = none_from claims none claims none

-- a set of all claims tells which are joined
pub all_alike : (set claims : List Claim) → HoldsClaims set claims → JoinsAlike set claims
all_alike set claims holds = λ k d low. ap (λ b. is_paired (get_or claims k d).topic.kind && b) (holds (partner (get_or claims k d)))

module _ (set claims : List Claim) where
  abbrev alike : Claim → Type 0
  alike c = is_joined set c ≡ is_joined claims c

  one_alike : (c : Claim) → alike c → joined_claim set c ≡ joined_claim claims c
  one_alike c e = ap (λ b. cond b (with_kind c (both_of c.topic.kind)) c) e

  tail_alike : (c : Claim) (rest : List Claim) → All alike (c ∷ rest) → All alike rest
  tail_alike c rest h = λ k d low. h (suc k) d (omega (arith, low))

  -- the claims that are left, by the set and by the claims
  pub left_alike : (rest : List Claim) → All alike rest → map (joined_claim set) (filter (λ c. not (is_second set c)) rest) ≡ map (joined_claim claims) (filter (λ c. not (is_second claims c)) rest)
  left_alike [] h = refl
  left_alike (c ∷ rest) h = at (is_second set c) (is_second claims c) (ap (λ b. is_stale c.topic.kind && b) (h 0 c (omega arith))) (left_alike rest (tail_alike c rest h))
    where
      by_set : List Claim
      by_set = filter (λ d. not (is_second set d)) rest

      by_claims : List Claim
      by_claims = filter (λ d. not (is_second claims d)) rest

      at : (a b : Bool) → a ≡ b → map (joined_claim set) by_set ≡ map (joined_claim claims) by_claims
          → map (joined_claim set) (cond (not a) (c ∷ by_set) by_set) ≡ map (joined_claim claims) (cond (not b) (c ∷ by_claims) by_claims)
      at true true e ih = ih
      at false false e ih = λ i. one_alike c (h 0 c (omega arith)) i ∷ ih i
      at true false e ih = absurd cc
      at false true e ih = absurd cc

  -- what is told of each claim, by the set and by the claims
  pub each_alike : (number : Claim → ℕ) (rest : List Claim) → All alike rest → map (λ c. number (joined_claim set c)) rest ≡ map (λ c. number (joined_claim claims c)) rest
  each_alike number [] h = refl
  each_alike number (c ∷ rest) h = λ i. number (one_alike c (h 0 c (omega arith)) i) ∷ each_alike number rest (tail_alike c rest h) i
