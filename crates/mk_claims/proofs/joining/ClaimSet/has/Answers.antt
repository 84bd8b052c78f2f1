use Rattle.std.proofs.Common.{◌≡◌, ◌∙◌, [], List, ap, not, sym}
use Rattle.std.specs.List.{list_any}
use Rattle.std.proofs.lemmas.List.{nil_from_length}
use Rattle.mk_claims.specs.contracts.claim.ClaimPartialEq.TheImpl as claim_eqs
use Rattle.mk_claims.specs.declared.claim.Claim as borrowed
use Rattle.mk_claims.proofs.ClaimSets.{claim_there}
use Rattle.mk_claims.proofs.joining.ClaimSet.has.Goals as goal

pub returns-then-not-is_empty : goal.returns-then-not-is_empty
returns-then-not-is_empty c = c.contains.ensures ∙ claim_there c.args.claim c.self.inside.claims.keys c.args.self.now c.self.view_is

pub returns-else-not-is_empty : goal.returns-else-not-is_empty
returns-else-not-is_empty c =
    let keys = c.self.inside.claims.keys in
    let empty : keys ≡ [] = nil_from_length keys (c.is_empty.ensures.0 c.if-not-is_empty.false) in
    ap not c.if-not-is_empty.false ∙ (sym (ap (λ (l : List borrowed.Claim). list_any (claim_eqs.eq-value.it c.args.claim) l) empty) ∙ claim_there c.args.claim keys c.args.self.now c.self.view_is)
