use Rattle.std.proofs.Common.{ℕ, ◌+◌, ◌∙◌, List, drop, map, sym, ap}
use Rattle.mk_repair.specs.Gathering.{with_value, with_values}
use Rattle.mk_repair.specs.Rows.{names_view}
use Rattle.mk_repair.proofs.Appending.{drop_at_get}
use Rattle.mk_claims.specs.Topics.{topic_view}
use Rattle.mk_claims.specs.Grouping.{GroupKey, group_key_eq, group_pair}
use Rattle.mk_claims.specs.Tables.{groups_view, rows_view}
use Rattle.mk_claims.proofs.SameKeys.{group_added}
use Rattle.mk_claims.proofs.grouping.groups_of.Goals as goal

pub loop-place-preserved : goal.loop-place-preserved
loop-place-preserved c =
    let entries = c.args.rows.now.entries in
    let i = c.loop-place.place in
    let added = group_added c.loop-place.table.entries c.add_value.new.rows.entries _ _ c.in_ok-add_value.ensures in
    let named = ap (λ (names : List (List ℕ)). with_value group_key_eq (groups_view c.loop-place.table.entries) (record { topic = topic_view c.in-Some.key.now.topic; what = names }) c.in-Some.key.now.who.now) (ap names_view c.as_slice.ensures.value) in
    let here = ap (λ rest. map group_pair (rows_view rest)) (drop_at_get entries i (c.in-Some.key.now, c.in-Some.files.now) c.in-Some.ensures.entry) in
    ap (λ (rows : List (GroupKey × List (List ℕ))). with_values group_key_eq rows (map group_pair (rows_view (drop (i + 1) entries)))) (added ∙ named)
    ∙ (sym (ap (λ (pairs : List (GroupKey × List ℕ)). with_values group_key_eq (groups_view c.loop-place.table.entries) pairs) here) ∙ c.loop-place.invariant)
