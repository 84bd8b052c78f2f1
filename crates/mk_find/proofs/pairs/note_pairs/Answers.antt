use Rattle.std.proofs.Common.{◌≡◌, ◌∙◌, ◌<◌, ◌≤◌, ℕ, ◌+◌, List, ap, sym, subst, length, get_or, map, drop, arith}
use Rattle.std.specs.List.{flat_map}
use Rattle.std.proofs.lemmas.List.{get_or-map, length-map, drop_more}
use Rattle.std.proofs.lemmas.List.Elements.{All-get_or}
use Rattle.mk_subject.specs.NodeRow.{NodeRow, IsRow}
use Rattle.mk_find.specs.NodeChecks.{behind}
use Rattle.mk_find.specs.Listed.{Adds}
use Rattle.mk_graph.specs.Membership.{IsDistinct}
use Rattle.mk_graph.specs.Serial.{serial_order}
use Rattle.mk_subject.specs.Subject.{writes_of}
use Rattle.mk_find.specs.Candidates.{pairs_of_writers, two_writers}
use Rattle.mk_find.proofs.Behind.{behind_after}
use Rattle.mk_find.proofs.Adding.{Leads, drop_past, leads_on, leads_done}
use Rattle.mk_find.proofs.pairs.note_pairs.Goals as goal

pub loop-entry-init : goal.loop-entry-init
loop-entry-init c =
    let x = c.args.subject.now in
    λ last h. subst (λ (ns : List ℕ). Adds x (pairs_of_writers x ns) c.args.found.now last) c.entries-entries.ensures.in_order h

pub note_files-requires : goal.note_files-requires
note_files-requires c =
    let x = c.args.subject.now in
    let entries = c.entries-entries.result.now in
    let lt : c.loop-entry.entry-index < length entries = omega arith in
    subst (λ (e : NodeRow). IsRow x e) (sym c.entry-item.is) (All-get_or (IsRow x) entries c.loop-entry.entry-index c.entry-item.result lt c.entries-entries.ensures.right)

pub loop-entry-preserved : goal.loop-entry-preserved
loop-entry-preserved c =
    let x = c.args.subject.now in
    let number = λ (e : NodeRow). e.number in
    let entries = c.entries-entries.result.now in
    let order = map number entries in
    let i = c.loop-entry.entry-index in
    let lt : i < length entries = omega arith in
    let low : i < length order = omega (arith, length-map entries number) in
    let is : c.entry-item.result.number ≡ get_or order i 0 = sym (get_or-map number entries i c.entry-item.result 0 lt ∙ ap number (sym c.entry-item.is)) in
    let same : order ≡ serial_order x.graph = c.entries-entries.ensures.in_order in
    let distinct : IsDistinct order = subst (λ (ns : List ℕ). IsDistinct ns) (sym same) (c.serial_reaches_each_once.ensures x.graph c.graph-graph.ensures.graph.no_cycle).0 in
    let later : behind c.entry-item.result.number (serial_order x.graph) ≡ drop (i + 1) order = ap (behind c.entry-item.result.number) (sym same) ∙ (ap (λ n. behind n order) is ∙ behind_after order i distinct low) in
    leads_on x (flat_map (λ f. map (λ t. two_writers (get_or order i 0) t f) (drop (i + 1) order)) (writes_of x (get_or order i 0))) (pairs_of_writers x (drop (i + 1) order)) _ c.loop-entry.found c.note_files.new.found c.args.found.now
    (subst (λ (ns : List ℕ). Leads x (pairs_of_writers x ns) (pairs_of_writers x (serial_order x.graph)) c.loop-entry.found c.args.found.now) (drop_more order i 0 low) c.loop-entry.invariant)
    (subst (λ (n : ℕ). Adds x (flat_map (λ f. map (λ t. two_writers n t f) (drop (i + 1) order)) (writes_of x n)) c.loop-entry.found c.note_files.new.found) is
    (subst (λ (ns : List ℕ). Adds x (flat_map (λ f. map (λ t. two_writers c.entry-item.result.number t f) ns) (writes_of x c.entry-item.result.number)) c.loop-entry.found c.note_files.new.found) later c.in_ok-note_files.ensures))

pub returns : goal.returns
returns c =
    let x = c.args.subject.now in
    let number = λ (e : NodeRow). e.number in
    let entries = c.entries-entries.result.now in
    let i = c.loop-entry.entry-index in
    let past : length (map number entries) ≤ i = omega (arith, length-map entries number) in
    leads_done x (pairs_of_writers x (drop i (map number entries))) _ c.loop-entry.found c.args.found.now (ap (pairs_of_writers x) (drop_past (map number entries) i past)) c.loop-entry.invariant
