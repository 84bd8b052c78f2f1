-- The reads of each recipe are judged in its turn.
use Rattle.std.proofs.Common.{◌≡◌, ◌∙◌, ◌<◌, ◌≤◌, ◌+◌, ◌∷◌, ◌++◌, [], ℕ, List, ap, sym, subst, length, get_or, map, drop, take, append-nil, arith}
use Rattle.std.specs.List.{flat_map}
use Rattle.std.proofs.lemmas.Grind.{flat_map-append}
use Rattle.std.proofs.lemmas.List.{get_or-map, length-map, take_more, take_all, map_push}
use Rattle.std.proofs.lemmas.List.Elements.{All-get_or}
use Rattle.mk_graph.specs.Serial.{serial_order}
use Rattle.mk_cert_text.specs.Certificate.{Way}
use Rattle.mk_subject.specs.NodeRow.{NodeRow, IsRow}
use Rattle.mk_find.specs.Listed.{Adds}
use Rattle.mk_find.specs.Candidates.{stale}
use Rattle.mk_subject.specs.Subject.{reads_of}
use Rattle.mk_subject.specs.Reads.{Read}
use Rattle.mk_find.specs.Certifying.{AddsEntries, AreEntriesFor, reads_by}
use Rattle.mk_find.proofs.Adding.{drop_past, leads_each, leads_done}
use Rattle.mk_find.proofs.AddingEntries.{adds_no_entries, adds_more_entries, nothing_before}
use Rattle.mk_find.proofs.stale_findings.judge_all.Goals as goal

pub loop-entry-init : goal.loop-entry-init
loop-entry-init c =
    let x = c.args.subject.now in
    (λ last h. subst (λ (ns : List ℕ). Adds x (flat_map (λ t. map (λ f. stale t f) (reads_of x t)) ns) c.args.found.now last) c.entries-entries.ensures.in_order h, λ none. subst (λ (l : List Way). AddsEntries x [] [] l) (sym c.in_ok-ways.ensures) (adds_no_entries x []))

pub judge_recipe-requires-clause-row : goal.judge_recipe-requires-clause-row
judge_recipe-requires-clause-row c =
    let x = c.args.subject.now in
    let entries = c.entries-entries.result.now in
    let lt : c.loop-entry.entry-index < length entries = omega arith in
    subst (λ (e : NodeRow). IsRow x e) (sym c.entry-item.is) (All-get_or (IsRow x) entries c.loop-entry.entry-index c.entry-item.result lt c.entries-entries.ensures.right)

pub loop-entry-preserved : goal.loop-entry-preserved
loop-entry-preserved c =
    let x = c.args.subject.now in
    let number = λ (e : NodeRow). e.number in
    let entries = c.entries-entries.result.now in
    let i = c.loop-entry.entry-index in
    let n = c.entry-item.result.number in
    let lt : i < length entries = omega arith in
    let low : i < length (map number entries) = omega (arith, length-map entries number) in
    let is : get_or (map number entries) i 0 ≡ n = get_or-map number entries i c.entry-item.result 0 lt ∙ ap number (sym c.entry-item.is) in
    let numbers : map number (take (i + 1) entries) ≡ map number (take i entries) ++ n
    ∷ [] = ap (map number) (take_more entries i c.entry-item.result lt)
    ∙ (map_push number (take i entries) (get_or entries i c.entry-item.result)
    ∙ ap (λ (k : ℕ). map number (take i entries) ++ k ∷ []) (ap number (sym c.entry-item.is))) in
    let reads : flat_map (reads_by x) (map number (take i entries)) ++ reads_by x n
    ≡ flat_map (reads_by x) (map number (take (i + 1) entries)) = ap
    (λ (l : List Read). flat_map (reads_by x) (map number (take i entries)) ++ l)
    (sym (append-nil (reads_by x n))) ∙ (sym (flat_map-append (reads_by x) (map number (take i entries))
    (n ∷ [])) ∙ ap (flat_map (reads_by x)) (sym numbers)) in
    let added = c.in_ok-judge_recipe.ensures.found in (
      leads_each x (λ t. map (λ f. stale t f) (reads_of x t)) (map number entries) i 0 _ c.loop-entry.found c.judge_recipe.new.found c.args.found.now low c.loop-entry.invariant.0
          (subst (λ (k : ℕ). Adds x (map (λ f. stale k f) (reads_of x k)) c.loop-entry.found c.judge_recipe.new.found) (sym is) added),
      λ none. subst (λ (l : List Read). AddsEntries x l [] c.judge_recipe.new.ways) reads
          (adds_more_entries x (flat_map (reads_by x) (map number (take i entries))) (reads_by x n) []
          c.loop-entry.ways c.judge_recipe.new.ways (c.loop-entry.invariant.1
          (nothing_before x (map (λ f. stale n f) (reads_of x n)) c.loop-entry.found
          c.judge_recipe.new.found added none)) (c.in_ok-judge_recipe.ensures.ways none)),
    )

pub returns-clause-found : goal.returns-clause-found
returns-clause-found c =
    let x = c.args.subject.now in
    let number = λ (e : NodeRow). e.number in
    let entries = c.entries-entries.result.now in
    let i = c.loop-entry.entry-index in
    let past : length (map number entries) ≤ i = omega (arith, length-map entries number) in
    leads_done x (flat_map (λ t. map (λ f. stale t f) (reads_of x t)) (drop i (map number entries))) _ c.loop-entry.found c.args.found.now (ap (flat_map (λ t. map (λ f. stale t f) (reads_of x t))) (drop_past (map number entries) i past)) c.loop-entry.invariant.0

pub returns-clause-ways : goal.returns-clause-ways
returns-clause-ways c none =
    let x = c.args.subject.now in
    let entries = c.entries-entries.result.now in
    let i = c.loop-entry.entry-index in
    let past : length entries ≤ i = c.loop-entry-test.false in
    let all : map (λ (e : NodeRow). e.number) (take i entries) ≡ serial_order x.graph = ap (map (λ (e : NodeRow). e.number)) (take_all i entries past) ∙ c.entries-entries.ensures.in_order in
    let a = subst (λ (l : List ℕ). AddsEntries x (flat_map (reads_by x) l) [] c.loop-entry.ways) all (c.loop-entry.invariant.1 none) in
    subst (λ (l : List Way). AreEntriesFor x (flat_map (reads_by x) (serial_order x.graph)) l) (sym (c.into_ways.ensures ∙ a.added)) a.right
