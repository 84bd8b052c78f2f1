use Rattle.std.proofs.Common.{◌≡◌, List, ℕ, String, Global, sym, ap, ◌∙◌, subst, get_or, map, string_bytes}
use Rattle.std.proofs.lemmas.List.{take_all}
use Rattle.mk_graph.specs.Membership.{Has}
use Rattle.mk_world.specs.Tables.{look}
use Rattle.mk_world.proofs.Loops.{mapped_at, one_known}
use Rattle.mk_world.proofs.ending.all_of.Goals as goal

pub returns-in-None : goal.returns-in-None
returns-in-None g c =
    let spelled : c.as_str.result.now ≡ string_bytes (get_or c.as_slice-name-items.result.now c.loop-name.name-index c.name-item.result) = c.as_str.ensures.value ∙ ap (λ (s : String Global). string_bytes s) c.name-item.is in
    let has = mapped_at string_bytes c.as_slice-name-items.result.now c.loop-name.name-index c.name-item.result c.loop-name-test.true in
    (c.as_str.result.now, subst (λ (l : List (List ℕ)). Has l c.as_str.result.now) c.as_slice-name-items.ensures (rw spelled has), sym c.get.ensures ∙ c.in-None.is)

pub loop-name-preserved : goal.loop-name-preserved
loop-name-preserved g c =
    let spelled : c.as_str.result.now ≡ string_bytes (get_or c.as_slice-name-items.result.now c.loop-name.name-index c.name-item.result) = c.as_str.ensures.value ∙ ap (λ (s : String Global). string_bytes s) c.name-item.is in
    let is = ap (look c.args.names.now c.args.values.now) (sym spelled) ∙ (sym c.get.ensures ∙ c.in-Some.is) in
    rw c.in_ok-push-in-Some.ensures.items (one_known string_bytes (look c.args.names.now c.args.values.now) c.as_slice-name-items.result.now c.loop-name.name-index c.name-item.result c.loop-name.all.items c.in-Some.value c.loop-name-test.true is c.loop-name.invariant)

pub returns : goal.returns
returns g c =
    let all = ap (map string_bytes) (take_all c.loop-name.name-index c.as_slice-name-items.result.now c.loop-name-test.false) ∙ c.as_slice-name-items.ensures in
    ap (map (look c.args.names.now c.args.values.now)) (sym all) ∙ c.loop-name.invariant
