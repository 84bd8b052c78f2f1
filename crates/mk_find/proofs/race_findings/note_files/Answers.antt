-- Nobody races for a file that is settled, so the others are enough.
use Rattle.std.proofs.Common.{◌≡◌, ◌∙◌, [], ℕ, List, refl, ap, subst, map, drop, arith}
use Rattle.std.specs.Prelude.{not}
use Rattle.std.specs.List.{flat_map}
use Rattle.mk_graph.specs.Serial.{serial_order}
use Rattle.mk_subject.specs.Subject.{reads_of}
use Rattle.mk_find.specs.Candidates.{race}
use Rattle.mk_subject.specs.NodeRow.{NodeRow}
use Rattle.mk_subject.specs.FileInfo.{known_of}
use Rattle.mk_find.specs.Listed.{Adds}
use Rattle.mk_subject.specs.Settled.{is_settled}
use Rattle.mk_subject.specs.Target.{unsettled_of}
use Rattle.mk_find.proofs.Adding.{adds_each_lifted, leads_each, leads_done}
use Rattle.mk_find.proofs.SettledReads.{open_at, none_left, no_race}
use Rattle.mk_subject.proofs.SettledReads.{settled}
use Rattle.mk_subject.proofs.Targets.{by_name}
use Rattle.mk_find.proofs.race_findings.note_files.Goals as goal

pub loop-place-init : goal.loop-place-init
loop-place-init c = record { leads = λ last h. h; graph = refl }

pub note_file-requires-clause-read : goal.note_file-requires-clause-read
note_file-requires-clause-read c =
    let number : c.row.inside.number ≡ c.args.row.now.number = ap (λ (e : NodeRow). e.number) c.row.view_is in
    record {
      row = c.requires.row;
      file = by_name c.args.subject.now c.unsettled-file.result _ c.unsettled-file.ensures;
      read = (open_at c.args.subject.now c.row.inside.number c.args.row.now.number c.loop-place.place c.count_of_unsettled-place-end.result c.unsettled-file.result number c.count_of_unsettled-place-end.ensures (omega arith) c.unsettled-file.ensures).read;
    }

pub note_file-requires-clause-graph : goal.note_file-requires-clause-graph
note_file-requires-clause-graph c = c.loop-place.invariant.graph ∙ c.requires.graph

pub loop-place-preserved : goal.loop-place-preserved
loop-place-preserved c =
    let x = c.args.subject.now in
    let e = c.args.row.now in
    let i = c.loop-place.place in
    let number : c.row.inside.number ≡ e.number = ap (λ (k : NodeRow). k.number) c.row.view_is in
    let at = open_at x c.row.inside.number e.number i c.count_of_unsettled-place-end.result c.unsettled-file.result number c.count_of_unsettled-place-end.ensures (omega arith) c.unsettled-file.ensures in
    let races = λ (f : List ℕ). map (λ o. race e.number o f) (serial_order x.graph) in
    record {
      leads = leads_each x races (unsettled_of x e.number) i [] _ c.loop-place.found c.note_file.new.found c.args.found.now at.low c.loop-place.invariant.leads
          (subst (λ (f : List ℕ). Adds x (races f) c.loop-place.found c.note_file.new.found) at.file c.in_ok-note_file.ensures.found);
      graph = c.in_ok-note_file.ensures.graph ∙ c.loop-place.invariant.graph;
    }

pub returns-clause-found : goal.returns-clause-found
returns-clause-found c =
    let x = c.args.subject.now in
    let e = c.args.row.now in
    let i = c.loop-place.place in
    let number : c.row.inside.number ≡ e.number = ap (λ (k : NodeRow). k.number) c.row.view_is in
    let left = unsettled_of x e.number in
    let none = none_left x c.row.inside.number e.number i c.count_of_unsettled-place-end.result number c.count_of_unsettled-place-end.ensures (omega arith) in
    let races = λ (f : List ℕ). map (λ o. race e.number o f) (serial_order x.graph) in
    adds_each_lifted x races (λ f. not (is_settled (known_of x f))) (reads_of x e.number) c.args.found.now c.loop-place.found
    (λ f out. no_race x f (settled (known_of x f) out) e.number)
    (leads_done x (flat_map races (drop i left)) _ c.loop-place.found c.args.found.now (ap (flat_map races) none) c.loop-place.invariant.leads)
