use Rattle.std.proofs.Common.{◌≡◌, ◌∙◌, ◌<◌, ◌≤◌, ℕ, List, ap, sym, subst, length, get_or, map, drop, arith}
use Rattle.std.specs.List.{flat_map}
use Rattle.std.proofs.lemmas.List.{get_or-map, length-map}
use Rattle.std.proofs.lemmas.List.Elements.{All-get_or}
use Rattle.mk_subject.specs.NodeRow.{NodeRow, IsRow}
use Rattle.mk_find.specs.Listed.{Adds}
use Rattle.mk_find.specs.Candidates.{race}
use Rattle.mk_subject.specs.Subject.{reads_of}
use Rattle.mk_graph.specs.Serial.{serial_order}
use Rattle.mk_find.proofs.Adding.{drop_past, leads_each, leads_done}
use Rattle.mk_find.proofs.race_findings.note_races.Goals as goal

pub loop-entry-init : goal.loop-entry-init
loop-entry-init c =
    let x = c.args.subject.now in
    record {
      leads = λ last h. subst (λ (ns : List ℕ). Adds x (flat_map (λ t. flat_map (λ f. map (λ o. race t o f) (serial_order x.graph)) (reads_of x t)) ns) c.args.found.now last) c.entries-entries.ensures.in_order h;
      graph = c.new-earlier.ensures ∙ c.graph.ensures.value;
    }

pub note_files-requires-clause-graph : goal.note_files-requires-clause-graph
note_files-requires-clause-graph c = c.loop-entry.invariant.graph

pub note_files-requires-clause-row : goal.note_files-requires-clause-row
note_files-requires-clause-row c =
    let x = c.args.subject.now in
    let entries = c.entries-entries.result.now in
    let lt : c.loop-entry.entry-index < length entries = omega arith in
    subst (λ (e : NodeRow). IsRow x e) (sym c.entry-item.is) (All-get_or (IsRow x) entries c.loop-entry.entry-index c.entry-item.result lt c.entries-entries.ensures.right)

pub loop-entry-preserved : goal.loop-entry-preserved
loop-entry-preserved c =
    let x = c.args.subject.now in
    let number = λ (e : NodeRow). e.number in
    let entries = c.entries-entries.result.now in
    let i = c.loop-entry.entry-index in
    let lt : i < length entries = omega arith in
    let low : i < length (map number entries) = omega (arith, length-map entries number) in
    let is : get_or (map number entries) i 0 ≡ c.entry-item.result.number = get_or-map number entries i c.entry-item.result 0 lt ∙ ap number (sym c.entry-item.is) in
    record {
      leads = leads_each x (λ t. flat_map (λ f. map (λ o. race t o f) (serial_order x.graph)) (reads_of x t)) (map number entries) i 0 _ c.loop-entry.found c.note_files.new.found c.args.found.now low c.loop-entry.invariant.leads
          (subst (λ (n : ℕ). Adds x (flat_map (λ f. map (λ o. race n o f) (serial_order x.graph)) (reads_of x n)) c.loop-entry.found c.note_files.new.found) (sym is) c.in_ok-note_files.ensures.found);
      graph = c.in_ok-note_files.ensures.graph ∙ c.loop-entry.invariant.graph;
    }

pub returns : goal.returns
returns c =
    let x = c.args.subject.now in
    let number = λ (e : NodeRow). e.number in
    let entries = c.entries-entries.result.now in
    let i = c.loop-entry.entry-index in
    let past : length (map number entries) ≤ i = omega (arith, length-map entries number) in
    leads_done x (flat_map (λ t. flat_map (λ f. map (λ o. race t o f) (serial_order x.graph)) (reads_of x t))
    (drop i (map number entries))) _ c.loop-entry.found c.args.found.now
    (ap (flat_map (λ t. flat_map (λ f. map (λ o. race t o f) (serial_order x.graph)) (reads_of x t)))
    (drop_past (map number entries) i past)) c.loop-entry.invariant.leads
