-- Which claims are shown, with which lines.
use Rattle.std.specs.Prelude.{◌≡◌, Bool, true, false, List, [], ◌++◌, map, if◌then◌else◌}
use Rattle.std.specs.List.{list_any}
use Rattle.mk_subject.specs.Subject.{Subject}
use Rattle.mk_find.specs.declared.finding.Finding.{Finding}
use Rattle.mk_find.specs.declared.finding.Finding.TheVariants as finding
use Rattle.mk_claims.specs.Claims.{Claim, claim_of}
use Rattle.mk_claims.specs.Offers.{Offer, claim_offered}
use Rattle.mk_claims.specs.Wider.{AreOffers}
use Rattle.mk_claims.specs.Untouched.{untouched}

-- Findings of this kind hide races and stale reads.
abbrev pub is_static : Finding → Bool
is_static (finding.Race recipe writer file) = false
is_static (finding.Stale recipe file) = false
is_static found = true

-- Where one of the findings hides others, what the hidden ones claim, but for what mending the
-- findings touches.
abbrev pub later_claims : Subject → (findings hidden : List Finding) → List Claim
later_claims x findings hidden =
    if list_any is_static findings
    then untouched (map (claim_of x) findings) (map (claim_of x) hidden) else []

-- What the findings claim, and then what those claim that they hide.
abbrev pub all_claims : Subject → (findings hidden : List Finding) → List Claim
all_claims x findings hidden = map (claim_of x) findings ++ later_claims x findings hidden

-- The claims as they are shown: without the lines that would close a cycle with the other lines,
-- the graph, and what the rules say of prerequisites that the goals don't reach.
abbrev pub AreShown : Subject → (claims shown : List Claim) → Type 0
AreShown x claims shown =
    (offers : List Offer) × AreOffers x claims offers × (shown ≡ map claim_offered offers)
