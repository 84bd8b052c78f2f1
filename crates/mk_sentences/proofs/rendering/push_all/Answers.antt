use Rattle.std.proofs.Common.{◌≡◌, ◌∙◌, ℕ, ◌-◌, List, ◌++◌, ap, map, length, take, drop, append_assoc, string_bytes}
use Rattle.std.proofs.lemmas.Result.{on_ok_weaker}
use Rattle.mk_claims.specs.Claims.{Claim, claim_view}
use Rattle.mk_sentences.specs.Text.{claims_text, then_text}
use Rattle.mk_sentences.proofs.Fronts.{back_seen, front_seen}
use Rattle.mk_sentences.proofs.rendering.push_all.Goals as goal

pub returns : goal.returns
returns c =
    let m = c.args.makefile.now in
    let old = string_bytes c.args.out.now in
    let found = c.args.findings.now in
    let claims = c.args.claims.now in
    let many = length found in
    let all : List Claim = map claim_view claims in
    let count = c.min-count.result in
    let front = front_seen claim_view claims many count c.min-count.ensures in
    let back = back_seen claim_view claims many count c.min-count.ensures in
    on_ok_weaker c.push_then.result (λ is.
    is
    ∙ (ap (λ (o : List ℕ). o ++ then_text m found (map claim_view (take (length claims - count) (drop count claims)))) (c.in_ok-push_claims.ensures ∙ ap (λ (cs : List Claim). old ++ claims_text m cs) front)
    ∙ (ap (λ (cs : List Claim). (old ++ claims_text m (take many all)) ++ then_text m found cs) back
    ∙ append_assoc old (claims_text m (take many all)) (then_text m found (drop many all))))) c.push_then.ensures
