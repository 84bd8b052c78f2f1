use Rattle.std.proofs.Common.{ℕ, ◌+◌, ◌∙◌, ◌++◌, List, drop, ap, string_bytes}
use Rattle.std.specs.Borrow.{Bor}
use Rattle.std.specs.List.{flat_map}
use Rattle.mk_repair.specs.Lines.{line_text, lines_between}
use Rattle.mk_repair.specs.Rows.{groups_view, names_view}
use Rattle.mk_repair.proofs.Appending.{append_step, drop_at_get}
use Rattle.mk_repair.proofs.lines.push_groups.Goals as goal

pub loop-place-preserved : goal.loop-place-preserved
loop-place-preserved c =
    let entries = c.args.groups.now.entries in
    let i = c.loop-place.place in
    let texts : List (List (List ℕ) × List (List ℕ)) → List ℕ = flat_map (λ group. flat_map line_text (lines_between group.1 group.0)) in
    append_step (string_bytes c.loop-place.out) _ _ (texts (groups_view (drop (i + 1) entries))) (texts (groups_view (drop i entries))) _
    (c.in_ok-push_lines_between.ensures ∙ ap (λ (targets : List (Bor (List ℕ))). (string_bytes c.loop-place.out) ++ flat_map line_text (lines_between (names_view targets) (names_view c.in-Some.prerequisites.now.now))) c.deref.ensures.value)
    (ap (λ rest. texts (groups_view rest)) (drop_at_get entries i (c.in-Some.prerequisites.now, c.in-Some.targets.now) c.in-Some.ensures.entry)) c.loop-place.invariant
