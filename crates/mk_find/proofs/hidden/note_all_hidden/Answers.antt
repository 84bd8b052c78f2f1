-- The reads of each recipe are judged in its turn.
use Rattle.std.proofs.Common.{◌≡◌, ◌∙◌, ◌<◌, ◌≤◌, ℕ, List, ap, sym, subst, length, get_or, map, drop, arith}
use Rattle.std.specs.List.{flat_map}
use Rattle.std.proofs.lemmas.List.{get_or-map, length-map}
use Rattle.std.proofs.lemmas.List.Elements.{All-get_or}
use Rattle.mk_subject.specs.NodeRow.{NodeRow, IsRow}
use Rattle.mk_find.specs.Listed.{Adds}
use Rattle.mk_find.specs.Findings.{hidden_reads}
use Rattle.mk_find.proofs.Adding.{drop_past, leads_each, leads_done}
use Rattle.mk_find.proofs.hidden.note_all_hidden.Goals as goal

pub loop-entry-init : goal.loop-entry-init
loop-entry-init c =
    let x = c.args.subject.now in
    λ last h. subst (λ (ns : List ℕ). Adds x (flat_map (hidden_reads x) ns) c.args.found.now last) c.entries-entries.ensures.in_order h

pub search_hidden-requires-clause-row : goal.search_hidden-requires-clause-row
search_hidden-requires-clause-row c =
    let x = c.args.subject.now in
    let entries = c.entries-entries.result.now in
    let lt : c.loop-entry.entry-index < length entries = omega arith in
    subst (λ (e : NodeRow). IsRow x e) (sym c.entry-item.is) (All-get_or (IsRow x) entries c.loop-entry.entry-index c.entry-item.result lt c.entries-entries.ensures.right)

pub loop-entry-preserved : goal.loop-entry-preserved
loop-entry-preserved c =
    let x = c.args.subject.now in
    let number = λ (e : NodeRow). e.number in
    let entries = c.entries-entries.result.now in
    let i = c.loop-entry.entry-index in
    let lt : i < length entries = omega arith in
    let low : i < length (map number entries) = omega (arith, length-map entries number) in
    let is : get_or (map number entries) i 0 ≡ c.entry-item.result.number = get_or-map number entries i c.entry-item.result 0 lt ∙ ap number (sym c.entry-item.is) in
    leads_each x (hidden_reads x) (map number entries) i 0 _ c.loop-entry.found c.search_hidden.new.found c.args.found.now low c.loop-entry.invariant
    (subst (λ (n : ℕ). Adds x (hidden_reads x n) c.loop-entry.found c.search_hidden.new.found) (sym is) c.in_ok-search_hidden.ensures)

pub returns : goal.returns
returns c =
    let x = c.args.subject.now in
    let number = λ (e : NodeRow). e.number in
    let entries = c.entries-entries.result.now in
    let i = c.loop-entry.entry-index in
    let past : length (map number entries) ≤ i = omega (arith, length-map entries number) in
    leads_done x (flat_map (hidden_reads x) (drop i (map number entries))) _ c.loop-entry.found c.args.found.now (ap (flat_map (hidden_reads x)) (drop_past (map number entries) i past)) c.loop-entry.invariant
