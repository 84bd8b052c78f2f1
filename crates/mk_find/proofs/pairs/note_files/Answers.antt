use Rattle.std.proofs.Common.{◌≡◌, ◌<◌, ◌≤◌, ℕ, List, ap, sym, subst, length, map, drop, [], arith}
use Rattle.std.specs.List.{flat_map}
use Rattle.mk_graph.specs.Serial.{serial_order}
use Rattle.mk_subject.specs.Subject.{writes_of}
use Rattle.mk_find.specs.Candidates.{two_writers}
use Rattle.mk_subject.specs.NodeRow.{NodeRow}
use Rattle.mk_find.specs.NodeChecks.{behind}
use Rattle.mk_find.specs.Listed.{Adds}
use Rattle.mk_find.proofs.Adding.{drop_past, leads_each, leads_done}
use Rattle.mk_subject.proofs.Targets.{by_name, is_written, written_at}
use Rattle.mk_find.proofs.pairs.note_files.Goals as goal

pub loop-place-init : goal.loop-place-init
loop-place-init c = λ last h. h

pub note_file-requires : goal.note_file-requires
note_file-requires c =
    let x = c.args.subject.now in
    let e = c.args.row.now in
    let i = c.loop-place.place in
    let number : c.row.inside.number ≡ e.number = ap (λ (k : NodeRow). k.number) c.row.view_is in
    let low : i < length (writes_of x e.number) = omega (arith, c.loop-place-test.true, c.count_of_written-place-end.ensures, ap (λ n. length (writes_of x n)) number) in
    record {
      row = c.requires;
      file = by_name x c.written-file.result _ c.written-file.ensures;
      written = is_written x c.written-file.result c.row.inside.number e.number i number c.written-file.ensures low;
    }

pub loop-place-preserved : goal.loop-place-preserved
loop-place-preserved c =
    let x = c.args.subject.now in
    let e = c.args.row.now in
    let i = c.loop-place.place in
    let number : c.row.inside.number ≡ e.number = ap (λ (k : NodeRow). k.number) c.row.view_is in
    let low : i < length (writes_of x e.number) = omega (arith, c.loop-place-test.true, c.count_of_written-place-end.ensures, ap (λ n. length (writes_of x n)) number) in
    let is = written_at x c.written-file.result c.row.inside.number e.number i number c.written-file.ensures in
    leads_each x (λ f. map (λ t. two_writers e.number t f) (behind e.number (serial_order x.graph))) (writes_of x e.number) i [] _ c.loop-place.found c.note_file.new.found c.args.found.now low c.loop-place.invariant
    (subst (λ (f : List ℕ). Adds x (map (λ t. two_writers e.number t f) (behind e.number (serial_order x.graph))) c.loop-place.found c.note_file.new.found) (sym is) c.in_ok-note_file.ensures)

pub returns : goal.returns
returns c =
    let x = c.args.subject.now in
    let e = c.args.row.now in
    let i = c.loop-place.place in
    let files = writes_of x e.number in
    let number : c.row.inside.number ≡ e.number = ap (λ (k : NodeRow). k.number) c.row.view_is in
    let past : length files ≤ i = omega (arith, c.loop-place-test.false, c.count_of_written-place-end.ensures, ap (λ n. length (writes_of x n)) number) in
    leads_done x (flat_map (λ f. map (λ t. two_writers e.number t f) (behind e.number (serial_order x.graph)))
    (drop i files)) _ c.loop-place.found c.args.found.now
    (ap (flat_map (λ f. map (λ t. two_writers e.number t f) (behind e.number (serial_order x.graph))))
    (drop_past files i past)) c.loop-place.invariant
