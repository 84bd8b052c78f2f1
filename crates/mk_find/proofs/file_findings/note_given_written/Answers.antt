use Rattle.std.proofs.Common.{◌≡◌, ◌<◌, ◌≤◌, ◌∷◌, [], ℕ, List, ap, sym, subst, length, map, drop, arith}
use Rattle.mk_subject.specs.Subject.{writes_of}
use Rattle.mk_find.specs.Candidates.{given_written}
use Rattle.mk_subject.specs.NodeRow.{NodeRow}
use Rattle.mk_find.specs.Listed.{Adds}
use Rattle.mk_find.proofs.Adding.{drop_past, leads_map, leads_done}
use Rattle.mk_subject.proofs.Targets.{by_name, is_written, written_at}
use Rattle.mk_find.proofs.file_findings.note_given_written.Goals as goal

pub loop-place-init : goal.loop-place-init
loop-place-init c = λ last h. h

pub note_taken-requires : goal.note_taken-requires
note_taken-requires c =
    let x = c.args.subject.now in
    let e = c.args.row.now in
    let i = c.loop-place.place in
    let number : c.row.inside.number ≡ e.number = ap (λ (k : NodeRow). k.number) c.row.view_is in
    let low : i < length (writes_of x e.number) = omega (arith, c.loop-place-test.true, c.count_of_written-place-end.ensures, ap (λ n. length (writes_of x n)) number) in
    record {
      row = c.requires;
      file = by_name x c.written-file.result _ c.written-file.ensures;
      written = is_written x c.written-file.result c.row.inside.number e.number i number c.written-file.ensures low;
    }

pub loop-place-preserved : goal.loop-place-preserved
loop-place-preserved c =
    let x = c.args.subject.now in
    let e = c.args.row.now in
    let i = c.loop-place.place in
    let number : c.row.inside.number ≡ e.number = ap (λ (k : NodeRow). k.number) c.row.view_is in
    let low : i < length (writes_of x e.number) = omega (arith, c.loop-place-test.true, c.count_of_written-place-end.ensures, ap (λ n. length (writes_of x n)) number) in
    let is = written_at x c.written-file.result c.row.inside.number e.number i number c.written-file.ensures in
    leads_map x (λ f. given_written e.number f) (writes_of x e.number) i [] _ c.loop-place.found c.note_taken.new.found c.args.found.now low c.loop-place.invariant
    (subst (λ (f : List ℕ). Adds x (given_written e.number f ∷ []) c.loop-place.found c.note_taken.new.found) (sym is) c.in_ok-note_taken.ensures)

pub returns : goal.returns
returns c =
    let x = c.args.subject.now in
    let e = c.args.row.now in
    let i = c.loop-place.place in
    let files = writes_of x e.number in
    let number : c.row.inside.number ≡ e.number = ap (λ (k : NodeRow). k.number) c.row.view_is in
    let past : length files ≤ i = omega (arith, c.loop-place-test.false, c.count_of_written-place-end.ensures, ap (λ n. length (writes_of x n)) number) in
    leads_done x (map (λ f. given_written e.number f) (drop i files)) _ c.loop-place.found c.args.found.now (ap (map (λ f. given_written e.number f)) (drop_past files i past)) c.loop-place.invariant
