-- Each read is judged in its turn.
use Rattle.std.proofs.Common.{◌≡◌, ◌∙◌, ◌<◌, ◌≤◌, [], ℕ, List, ap, sym, subst, length, get_or, drop, arith}
use Rattle.std.specs.List.{flat_map}
use Rattle.mk_subject.proofs.Entries.{same_reads}
use Rattle.mk_graph_search.specs.Places.{SearchInput}
use Rattle.mk_graph_search.specs.Ways.{successors}
use Rattle.mk_find.specs.Findings.{hidden_read}
use Rattle.mk_find.specs.FirstPaths.{AlwaysNoneBefore}
use Rattle.mk_subject.specs.Carried.{carried}
use Rattle.mk_subject.specs.NodeRow.{NodeRow}
use Rattle.mk_find.specs.Listed.{Adds}
use Rattle.mk_subject.specs.Subject.{reads_of}
use Rattle.mk_subject.specs.Target.{Target}
use Rattle.mk_find.proofs.Adding.{drop_past, leads_each, leads_done}
use Rattle.mk_find.proofs.FileReads.{read_at}
use Rattle.mk_find.proofs.Trying.{always_none_before_first}
use Rattle.mk_find.proofs.hidden.note_hidden_reads.Goals as goal

pub loop-place-init : goal.loop-place-init
loop-place-init c = (c.requires.search, λ last h. h, always_none_before_first c.args.tables.now.subject.now c.args.search.now.start)

pub read-file-requires-clause-place : goal.read-file-requires-clause-place
read-file-requires-clause-place c =
    let x = c.args.tables.now.subject.now in
    let count = c.count_of_reads-place-end.ensures ∙ ap (λ (k : NodeRow). length (reads_of x k.number)) c.row.view_is in
    omega (arith, c.loop-place-test.true, count, ap (λ (l : List (List ℕ)). length l) (same_reads x c.args.row.now c.requires.row))

pub note_hidden_read-requires-clause-rows : goal.note_hidden_read-requires-clause-rows
note_hidden_read-requires-clause-rows c =
    subst (λ (task : SearchInput). (t : ℕ) → successors task.rows t ≡ carried c.args.tables.now.subject.now t) (sym c.loop-place.invariant.0) c.requires.tables.rows

pub note_hidden_read-requires-clause-start : goal.note_hidden_read-requires-clause-start
note_hidden_read-requires-clause-start c =
    ap (λ (task : SearchInput). task.start) c.loop-place.invariant.0

pub note_hidden_read-requires-clause-ends : goal.note_hidden_read-requires-clause-ends
note_hidden_read-requires-clause-ends c = c.requires.tables.ends

pub note_hidden_read-requires-clause-read : goal.note_hidden_read-requires-clause-read
note_hidden_read-requires-clause-read c =
    let x = c.args.tables.now.subject.now in
    let e = c.args.row.now in
    let i = c.loop-place.place in
    let count = c.count_of_reads-place-end.ensures ∙ ap (λ (k : NodeRow). length (reads_of x k.number)) c.row.view_is in
    let low : i < length (reads_of x e.number) = omega (arith, c.loop-place-test.true, count) in
    read_at _ i c.requires.row low c.read-file.ensures

pub loop-place-preserved : goal.loop-place-preserved
loop-place-preserved c =
    let x = c.args.tables.now.subject.now in
    let t = c.args.row.now.number in
    let files = reads_of x t in
    let i = c.loop-place.place in
    let f = c.read-file.result.file in
    let is : f ≡ get_or files i [] = ap (λ (v : Target). v.file) c.read-file.ensures in
    let count = c.count_of_reads-place-end.ensures ∙ ap (λ (k : NodeRow). length (reads_of x k.number)) c.row.view_is in
    let low : i < length files = omega (arith, c.loop-place-test.true, count) in
    let inv = c.loop-place.invariant in
    let found = c.note_hidden_read.new.found in (
      c.in_ok-note_hidden_read.ensures.same ∙ inv.0,
      leads_each x (hidden_read x t) files i [] _ c.loop-place.found found c.args.found.now low inv.1 (subst (λ (k : List ℕ). Adds x (hidden_read x t k) c.loop-place.found found) is c.in_ok-note_hidden_read.ensures.found),
      subst (λ (task : SearchInput). AlwaysNoneBefore x task.start c.note_hidden_read.new.passed) (sym c.in_ok-note_hidden_read.ensures.same) c.in_ok-note_hidden_read.ensures.passed,
    )

pub returns : goal.returns
returns c =
    let x = c.args.tables.now.subject.now in
    let e = c.args.row.now in
    let i = c.loop-place.place in
    let count = c.count_of_reads-place-end.ensures ∙ ap (λ (k : NodeRow). length (reads_of x k.number)) c.row.view_is in
    let past : length (reads_of x e.number) ≤ i = omega (arith, c.loop-place-test.false, count) in
    leads_done x (flat_map (hidden_read x e.number) (drop i (reads_of x e.number))) _ c.loop-place.found c.args.found.now (ap (flat_map (hidden_read x e.number)) (drop_past (reads_of x e.number) i past)) c.loop-place.invariant.1
