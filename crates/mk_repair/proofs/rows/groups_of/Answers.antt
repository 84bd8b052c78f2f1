use Rattle.std.proofs.Common.{ℕ, ◌+◌, ◌∙◌, List, drop, sym, ap}
use Rattle.mk_repair.specs.Gathering.{turned, with_value, with_values}
use Rattle.mk_repair.specs.Lines.{names_eq}
use Rattle.mk_repair.specs.Rows.{groups_view, rows_view, names_view}
use Rattle.mk_repair.proofs.Appending.{drop_at_get}
use Rattle.mk_repair.proofs.Gathered.{group_added, names_seen}
use Rattle.mk_repair.proofs.rows.groups_of.Goals as goal

pub loop-place-preserved : goal.loop-place-preserved
loop-place-preserved c =
    let entries = c.args.rows.now.entries in
    let i = c.loop-place.place in
    let added = group_added c.loop-place.groups.entries c.add_value.new.rows.entries _ c.as_slice.result c.in-Some.target.now c.in_ok-add_value.ensures (λ x y. names_seen x.now y.now) in
    let named = ap names_view c.as_slice.ensures.value in
    let here = ap (λ rest. turned (rows_view rest)) (drop_at_get entries i (c.in-Some.target.now, c.in-Some.prerequisites.now) c.in-Some.ensures.entry) in
    ap (λ (rows : List (List (List ℕ) × List (List ℕ))). with_values names_eq rows (turned (rows_view (drop (i + 1) entries)))) (added ∙ ap (λ (names : List (List ℕ)). with_value names_eq (groups_view c.loop-place.groups.entries) names c.in-Some.target.now.now) named)
    ∙ (sym (ap (λ (pairs : List (List (List ℕ) × List ℕ)). with_values names_eq (groups_view c.loop-place.groups.entries) pairs) here) ∙ c.loop-place.invariant)
