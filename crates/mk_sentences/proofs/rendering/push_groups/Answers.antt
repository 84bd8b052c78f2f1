use Rattle.std.proofs.Common.{ℕ, ◌+◌, ◌∙◌, ◌++◌, List, drop, map, ap, string_bytes}
use Rattle.std.specs.Borrow.{Bor}
use Rattle.std.specs.List.{flat_map}
use Rattle.mk_repair.specs.Rows.{names_view}
use Rattle.mk_repair.proofs.Appending.{append_step, drop_at_get}
use Rattle.mk_claims.specs.Topics.{topic_view}
use Rattle.mk_claims.specs.Grouping.{GroupKey, group_of}
use Rattle.mk_claims.specs.Tables.{groups_view}
use Rattle.mk_sentences.specs.Text.{group_text}
use Rattle.mk_sentences.proofs.rendering.push_groups.Goals as goal

pub loop-place-preserved : goal.loop-place-preserved
loop-place-preserved c =
    let entries = c.args.groups.now.entries in
    let i = c.loop-place.place in
    let texts : List (GroupKey × List (List ℕ)) → List ℕ = λ gs. flat_map (group_text c.args.places.now) (map group_of gs) in
    append_step (string_bytes c.loop-place.out) _ _ (texts (groups_view (drop (i + 1) entries))) (texts (groups_view (drop i entries))) _
    (c.in_ok-push_group.ensures ∙ ap (λ (names : List (Bor (List ℕ))). string_bytes c.loop-place.out ++ group_text c.args.places.now (record { topic = topic_view c.in-Some.key.now.topic; what = names_view c.in-Some.key.now.what.now; who = names_view names })) c.deref.ensures.value)
    (ap (λ rest. texts (groups_view rest)) (drop_at_get entries i (c.in-Some.key.now, c.in-Some.who.now) c.in-Some.ensures.entry)) c.loop-place.invariant
