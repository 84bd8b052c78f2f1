use Rattle.std.proofs.Common.{◌≡◌, ◌∙◌, ℕ, List, ◌++◌, ap, false, map, string_bytes}
use Rattle.std.proofs.lemmas.Result.{on_ok_weaker}
use Rattle.serde_json.specs.View.{items_of}
use Rattle.serde_json.specs.Written.{compact_text, items_text}
use Rattle.mk_repair.specs.Gathering.{gathered}
use Rattle.mk_claims.specs.Claims.{Claim, claim_view}
use Rattle.mk_sentences.specs.Counts.{counts_of}
use Rattle.mk_claims.specs.Grouping.{Group, RowKey, group_key_eq, group_of, group_pair, groups, rows}
use Rattle.mk_claims.specs.Joining.{joined, joined_claim}
use Rattle.mk_claims.specs.Numbering.{group_number}
use Rattle.mk_claims.specs.Tables.{groups_view}
use Rattle.mk_sentences.specs.declared.counts.Counts.{Counts}
use Rattle.mk_core_json.specs.FindingValue.{finding_values}
use Rattle.mk_core_json.specs.NoValue.{counts_value, group_numbers, groups_values}
use Rattle.mk_core_json.proofs.NoTexts.{five_parts}
use Rattle.mk_core_json.proofs.no.push_grouped.Goals as goal

pub returns : goal.returns
returns c =
    let m = c.args.makefile.now in
    let found = c.args.found.now in
    let claims : List Claim = map claim_view c.args.claims.now.list.now in
    let gs : List Group = groups (joined claims) in
    let table : map group_of (groups_view c.in_ok-groups.groups.entries) ≡ gs =
    ap (map group_of) (c.in_ok-groups.ensures ∙ ap (λ (r : List (RowKey × List (List ℕ))). gathered group_key_eq (map group_pair r)) c.requires.rows) in
    let counts : c.in_ok-counts.counts ≡ counts_of claims gs = c.in_ok-counts.ensures ∙ ap (counts_of claims) table in
    let numbers : c.as_slice.result.now ≡ group_numbers claims =
    c.as_slice.ensures.value
    ∙ (c.in_ok-numbers.ensures
    ∙ (ap (λ (r : List (RowKey × List (List ℕ))). map (λ d. group_number r (map group_of (groups_view c.in_ok-groups.groups.entries)) (joined_claim claims d)) claims) c.requires.rows
    ∙ ap (λ (l : List Group). map (λ d. group_number (rows (joined claims)) l (joined_claim claims d)) claims) table)) in
    let first = c.in_ok-push_counts.ensures ∙ ap (λ (k : Counts). string_bytes c.args.text.now ++ compact_text (counts_value k)) counts in
    let third = c.in_ok-push_findings.ensures ∙ ap (λ (l : List ℕ). string_bytes c.push_str.new.self ++ items_text false (items_of (finding_values 1 found l))) numbers in
    on_ok_weaker c.push_placed.result (λ is.
    five_parts (string_bytes c.args.text.now) _ _ _ _ _ _ _ _ _ _ first c.in_ok-push_str.ensures.bytes third c.in_ok-push_str-2.ensures.bytes
    (is ∙ ap (λ (l : List Group). string_bytes c.push_str-2.new.self ++ items_text false (items_of (groups_values m l))) table)) c.push_placed.ensures
