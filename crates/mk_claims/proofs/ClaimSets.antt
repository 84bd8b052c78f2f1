-- Sets of claims.
use Rattle.std.proofs.Common.{◌≡◌, Bool, true, false, ◌||◌, ◌&&◌, cond, List, [], ◌∷◌, ◌++◌, map, refl, sym, ap, ◌∙◌}
use Rattle.std.specs.Prelude.{fold}
use Rattle.std.specs.List.{list_any}
use Rattle.std.specs.Str.{bytes_eq}
use Rattle.std.proofs.lemmas.Bool.{and_parts}
use Rattle.std.proofs.lemmas.List.Folds.{list_any-append}
use mathlib.Core.Bool.{or-false, or_assoc}
use Rattle.std.proofs.lemmas.Slice.Eq.{bytes_eq-Decides}
use Rattle.mk_repair.proofs.Sets.{any_seen, key_seen}
use Rattle.mk_claims.specs.Topics.{topic_eq}
use Rattle.mk_claims.specs.Claims.{Claim, claim_view}
use Rattle.mk_claims.specs.Joining.{HoldsClaims, claim_eq, has_claim, with_claim}
use Rattle.mk_claims.specs.contracts.claim.ClaimPartialEq.TheImpl as claim_eqs
use Rattle.mk_claims.specs.declared.claim.Claim as borrowed
use Rattle.mk_claims.proofs.HeldClaims.{topic_decides}
use Rattle.mk_claims.proofs.SameKeys.{topics_seen}

-- claims are equal by the code's test where they are by the definition
pub claims_seen : (c d : borrowed.Claim) → claim_eqs.eq-value.it c d ≡ claim_eq (claim_view c) (claim_view d)
claims_seen c d = ap (λ b. b && (bytes_eq c.who.now d.who.now && bytes_eq c.what.now d.what.now)) (topics_seen c.topic d.topic)

-- whether a claim is there
pub claim_there : (key : borrowed.Claim) (keys : List borrowed.Claim) (old : List Claim) → map claim_view keys ≡ old → list_any (claim_eqs.eq-value.it key) keys ≡ has_claim old (claim_view key)
claim_there key keys old v = any_seen claim_view claim_eqs.eq-value.it claim_eq claims_seen key keys ∙ ap (λ (cs : List Claim). has_claim cs (claim_view key)) v

-- the claims after an insertion
pub claim_put : (key : borrowed.Claim) (keys new : List borrowed.Claim) (old : List Claim) → new ≡ cond (list_any (claim_eqs.eq-value.it key) keys) keys (keys ++ key ∷ []) → map claim_view keys ≡ old → map claim_view new ≡ with_claim old (claim_view key)
claim_put key keys new old e v =
    ap (map claim_view) e
    ∙ (key_seen claim_view _ _ key keys (claim_there key keys old v)
    ∙ ap (λ (cs : List Claim). cond (has_claim old (claim_view key)) cs (cs ++ claim_view key ∷ [])) v)

-- equal claims are one
pub claim_decides : (c d : Claim) → claim_eq c d ≡ true → c ≡ d
claim_decides c d e =
    let first = and_parts (topic_eq c.topic d.topic) (bytes_eq c.who d.who && bytes_eq c.what d.what) e in
    let second = and_parts (bytes_eq c.who d.who) (bytes_eq c.what d.what) first.1 in
    let topic : c.topic ≡ d.topic = topic_decides c.topic d.topic first.0 in
    let who : c.who ≡ d.who = (bytes_eq-Decides c.who d.who).0 second.0 in
    let what : c.what ≡ d.what = (bytes_eq-Decides c.what d.what).0 second.1 in
    λ i. record { topic = topic i; who = who i; what = what i }

-- a claim that is there, and another one or itself
or_there : (claims : List Claim) (c other : Claim) → has_claim claims c ≡ true → (b : Bool) → claim_eq other c ≡ b → has_claim claims other ≡ (has_claim claims other || b)
or_there claims c other h false e = sym (or-false (has_claim claims other))
or_there claims c other h true e =
    let same : has_claim claims other ≡ true = ap (has_claim claims) (claim_decides other c e) ∙ h in
    same ∙ sym (ap (λ b. b || true) same)

-- which claims are there after one was added
after_one : (claims : List Claim) (c other : Claim) (b : Bool) → has_claim claims c ≡ b → has_claim (cond b claims (claims ++ c ∷ [])) other ≡ (has_claim claims other || claim_eq other c)
after_one claims c other true h = or_there claims c other h (claim_eq other c) refl
after_one claims c other false h = list_any-append (λ d. claim_eq other d) claims (c ∷ []) ∙ ap (λ b. has_claim claims other || b) (or-false (claim_eq other c))

-- which are there after all were added
after_all : (set claims : List Claim) (other : Claim) → has_claim (fold with_claim set claims) other ≡ (has_claim set other || has_claim claims other)
after_all set [] other = sym (or-false (has_claim set other))
after_all set (c ∷ claims) other =
    after_all (with_claim set c) claims other
    ∙ (ap (λ b. b || has_claim claims other) (after_one set c other (has_claim set c) refl) ∙ or_assoc (has_claim set other) (claim_eq other c) (has_claim claims other))

-- a set that was empty
pub all_held : (claims : List Claim) → HoldsClaims (fold with_claim [] claims) claims
all_held claims = λ other. after_all [] claims other
