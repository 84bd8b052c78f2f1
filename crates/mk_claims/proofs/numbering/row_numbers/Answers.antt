use Rattle.std.proofs.Common.{◌≡◌, ◌∙◌, ◌+◌, ◌++◌, ◌∷◌, [], ℕ, List, ap, append_assoc, drop, map, sym}
use Rattle.std.specs.Borrow.{Bor}
use Rattle.mk_repair.specs.Rows.{names_view}
use Rattle.mk_repair.proofs.Appending.{drop_at_get}
use Rattle.mk_claims.specs.Grouping.{Group, group_of}
use Rattle.mk_claims.specs.Numbering.{number_with, row_number}
use Rattle.mk_claims.specs.Tables.{groups_view, rows_view}
use Rattle.mk_claims.specs.Topics.{topic_view}
use Rattle.mk_claims.proofs.numbering.row_numbers.Goals as goal

pub loop-place-preserved : goal.loop-place-preserved
loop-place-preserved c =
    let entries = c.args.rows.now.entries in
    let i = c.loop-place.place in
    let old = c.loop-place.numbers.items in
    let groups : List Group = map group_of (groups_view c.args.groups.now.entries) in
    let rest = map (row_number groups) (rows_view (drop (i + 1) entries)) in
    let number = c.number_with.ensures ∙ ap (λ (files : List (Bor (List ℕ))). number_with groups (topic_view c.in-Some.key.now.topic) (names_view files)) c.as_slice.ensures.value in
    let here = ap (λ left. map (row_number groups) (rows_view left)) (drop_at_get entries i (c.in-Some.key.now, c.in-Some.files.now) c.in-Some.ensures.entry) in
    ap (λ (l : List ℕ). l ++ rest) c.in_ok-push.ensures.items
    ∙ (append_assoc old (c.number_with.result ∷ []) rest ∙ (ap (λ (n : ℕ). old ++ n ∷ rest) number ∙ (sym (ap (λ (l : List ℕ). old ++ l) here) ∙ c.loop-place.invariant)))
