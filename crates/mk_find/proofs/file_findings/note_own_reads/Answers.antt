-- Nothing is found of the files that are settled, so the others are enough.
use Rattle.std.proofs.Common.{◌≡◌, ◌∷◌, [], ℕ, List, ap, subst, map, drop, arith}
use Rattle.std.specs.Prelude.{not}
use Rattle.mk_subject.specs.Subject.{reads_of}
use Rattle.mk_find.specs.Candidates.{own_read}
use Rattle.mk_subject.specs.NodeRow.{NodeRow}
use Rattle.mk_subject.specs.FileInfo.{known_of}
use Rattle.mk_find.specs.Listed.{Adds}
use Rattle.mk_subject.specs.Settled.{is_settled}
use Rattle.mk_subject.specs.Target.{unsettled_of}
use Rattle.mk_find.proofs.Adding.{adds_lifted, leads_map, leads_done}
use Rattle.mk_find.proofs.SettledReads.{open_at, none_left, not_own_read}
use Rattle.mk_subject.proofs.SettledReads.{settled}
use Rattle.mk_find.proofs.file_findings.note_own_reads.Goals as goal

pub loop-place-init : goal.loop-place-init
loop-place-init c = record {
  leads = λ last h. h;
  written = tt;
}

pub note_own-requires-clause-written : goal.note_own-requires-clause-written
note_own-requires-clause-written c = c.loop-place.invariant.written

pub note_own-requires-clause-read : goal.note_own-requires-clause-read
note_own-requires-clause-read c =
    let number : c.row.inside.number ≡ c.args.row.now.number = ap (λ (e : NodeRow). e.number) c.row.view_is in
    (open_at c.args.subject.now c.row.inside.number c.args.row.now.number c.loop-place.place c.count_of_unsettled-place-end.result c.unsettled-file.result number c.count_of_unsettled-place-end.ensures (omega arith) c.unsettled-file.ensures).read

pub loop-place-preserved : goal.loop-place-preserved
loop-place-preserved c =
    let x = c.args.subject.now in
    let e = c.args.row.now in
    let i = c.loop-place.place in
    let number : c.row.inside.number ≡ e.number = ap (λ (k : NodeRow). k.number) c.row.view_is in
    let at = open_at x c.row.inside.number e.number i c.count_of_unsettled-place-end.result c.unsettled-file.result number c.count_of_unsettled-place-end.ensures (omega arith) c.unsettled-file.ensures in
    let candidate = λ (f : List ℕ). own_read e.number f in
    record {
      leads = leads_map x candidate (unsettled_of x e.number) i [] _ c.loop-place.found c.note_own.new.found c.args.found.now at.low c.loop-place.invariant.leads
          (subst (λ (f : List ℕ). Adds x (candidate f ∷ []) c.loop-place.found c.note_own.new.found) at.file c.in_ok-note_own.ensures.added);
      written = c.in_ok-note_own.ensures.written;
    }

pub returns : goal.returns
returns c =
    let x = c.args.subject.now in
    let e = c.args.row.now in
    let i = c.loop-place.place in
    let number : c.row.inside.number ≡ e.number = ap (λ (k : NodeRow). k.number) c.row.view_is in
    let left = unsettled_of x e.number in
    let none = none_left x c.row.inside.number e.number i c.count_of_unsettled-place-end.result number c.count_of_unsettled-place-end.ensures (omega arith) in
    let candidate = λ (f : List ℕ). own_read e.number f in
    adds_lifted x candidate (λ f. not (is_settled (known_of x f))) (reads_of x e.number) c.args.found.now c.loop-place.found
    (λ f out. not_own_read x f (settled (known_of x f) out) e.number c.graph-graph.ensures.graph c.serial_reaches_each_once.ensures)
    (leads_done x (map candidate (drop i left)) _ c.loop-place.found c.args.found.now (ap (map candidate) none) c.loop-place.invariant.leads)
