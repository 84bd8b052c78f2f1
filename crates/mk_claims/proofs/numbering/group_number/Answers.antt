use Rattle.std.proofs.Common.{◌∙◌, ℕ, List, ap, get_or, refl, sym}
use Rattle.mk_claims.specs.Claims.{claim_view}
use Rattle.mk_claims.proofs.Numbers.{number_found, number_missing}
use Rattle.mk_claims.proofs.numbering.group_number.Goals as goal

pub returns-in_default : goal.returns-in_default
returns-in_default c = λ groups is.
    number_missing (record { topic = c.args.claim.now.topic; who = c.args.claim.now.who }) c.args.rows.now.entries groups (claim_view c.args.claim.now) refl (sym c.in_default.is ∙ c.get_index_of.ensures.index)

pub returns-in-Some-get : goal.returns-in-Some-get
returns-in-Some-get c = λ groups is.
    let place = c.in-Some.place in
    let found = number_found (record { topic = c.args.claim.now.topic; who = c.args.claim.now.who }) c.args.rows.now.entries groups (claim_view c.args.claim.now) place refl (sym c.in-Some.is ∙ c.get_index_of.ensures.index) in
    c.in-Some-get.ensures.lookup.3.1 0 ∙ (ap (λ (l : List ℕ). get_or l place 0) is ∙ found)
