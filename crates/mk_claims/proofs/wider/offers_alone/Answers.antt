use Rattle.std.proofs.Common.{◌∙◌, ap, map, subst, sym, IfOk}
use Rattle.mk_graph.specs.Graph.{Graph}
use Rattle.mk_claims.specs.Claims.{claim_view}
use Rattle.mk_claims.specs.Offers.{names_in, offer_view}
use Rattle.mk_claims.specs.Wider.{AreOn}
use Rattle.mk_claims.proofs.wider.offers_alone.Goals as goal

pub settled-requires : goal.settled-requires
settled-requires c = c.names.ensures ∙ sym (ap names_in c.graph.ensures.value)

pub returns : goal.returns
returns c = subst (λ (g : Graph). IfOk c.settled.result (λ offers. AreOn g (map claim_view c.args.claims.now) (map offer_view offers.items))) c.graph.ensures.value c.settled.ensures
