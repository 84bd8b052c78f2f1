use Rattle.std.proofs.Common.{ℕ, ◌+◌, ◌∙◌, ◌++◌, List, drop, map, ap, string_bytes}
use Rattle.std.specs.Borrow.{Bor}
use Rattle.serde_json.specs.Data.{Data}
use Rattle.serde_json.specs.Written.{compact_text}
use Rattle.mk_repair.specs.Rows.{names_view}
use Rattle.mk_repair.proofs.Appending.{drop_at_get}
use Rattle.mk_claims.specs.Topics.{topic_view}
use Rattle.mk_claims.specs.Grouping.{GroupKey, group_of}
use Rattle.mk_claims.specs.Tables.{groups_view}
use Rattle.mk_core_json.specs.GroupValue.{group_value}
use Rattle.mk_core_json.proofs.NoTexts.{items_step}
use Rattle.mk_core_json.proofs.group.push_groups.Goals as goal

pub loop-place-preserved : goal.loop-place-preserved
loop-place-preserved c =
    let entries = c.args.groups.now.entries in
    let i = c.loop-place.place in
    let values : List (GroupKey × List (List ℕ)) → List Data = λ gs. map (group_value c.args.places.now) (map group_of gs) in
    items_step c.loop-place.later _ (values (groups_view (drop (i + 1) entries))) (values (groups_view (drop i entries))) (string_bytes c.loop-place.out) _ _ _
    c.in_ok-push_comma.ensures
    (c.in_ok-push_group.ensures ∙ ap (λ (names : List (Bor (List ℕ))). string_bytes c.push_comma.new.text ++ compact_text (group_value c.args.places.now (record { topic = topic_view c.in-Some.key.now.topic; what = names_view c.in-Some.key.now.what.now; who = names_view names }))) c.deref.ensures.value)
    (ap (λ rest. values (groups_view rest)) (drop_at_get entries i (c.in-Some.key.now, c.in-Some.who.now) c.in-Some.ensures.entry)) c.loop-place.invariant
