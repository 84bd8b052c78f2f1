use Rattle.std.proofs.Common.{◌∙◌, List, ◌++◌, ap, false, length, map, string_bytes}
use Rattle.serde_json.specs.View.{items_of}
use Rattle.serde_json.specs.Written.{items_text}
use Rattle.mk_claims.specs.Claims.{Claim, claim_view}
use Rattle.mk_claims.specs.Grouping.{groups}
use Rattle.mk_claims.specs.Joining.{joined}
use Rattle.mk_sentences.proofs.Fronts.{back_seen, front_seen}
use Rattle.mk_core_json.specs.NoValue.{found_text, groups_values}
use Rattle.mk_core_json.proofs.NoTexts.{no_joined}
use Rattle.mk_core_json.proofs.no.no_value_text.Goals as goal

pub returns : goal.returns
returns c =
    let m = c.args.makefile.now in
    let found = c.args.found.now in
    let claims = c.args.claims.now in
    let front = front_seen claim_view claims (length found) c.min-count.result c.min-count.ensures in
    let back = back_seen claim_view claims (length found) c.min-count.result c.min-count.ensures in
    no_joined m found (map claim_view claims) _ _ _ _ _ c.in_ok-text.ensures.ok
    (c.in_ok-push_found.ensures ∙ ap (λ (cs : List Claim). string_bytes c.in_ok-text.text ++ found_text m found cs) front)
    c.in_ok-push_str.ensures.bytes
    (c.in_ok-push_later.ensures ∙ ap (λ (cs : List Claim). string_bytes c.push_str.new.self ++ items_text false (items_of (groups_values m (groups (joined cs))))) back)
    c.in_ok-push_str-2.ensures.bytes
