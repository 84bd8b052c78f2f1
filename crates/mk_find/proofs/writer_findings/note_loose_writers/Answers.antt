use Rattle.std.proofs.Common.{◌<◌, ◌≤◌, ap, length, map, drop, arith}
use Rattle.mk_lemmas.proofs.Members.{Has-get_or}
use Rattle.mk_find.specs.Candidates.{loose}
use Rattle.mk_find.proofs.Adding.{drop_past, leads_map, leads_done}
use Rattle.mk_find.proofs.writer_findings.note_loose_writers.Goals as goal

pub loop-writer-init : goal.loop-writer-init
loop-writer-init c = λ last h. h

pub note_loose_writer-requires-clause-written : goal.note_loose_writer-requires-clause-written
note_loose_writer-requires-clause-written c =
    let lt : c.loop-writer.writer-index < length c.args.writers.now = omega arith in
    c.requires.written _ (Has-get_or c.args.writers.now c.loop-writer.writer-index 0 lt)

pub loop-writer-preserved : goal.loop-writer-preserved
loop-writer-preserved c =
    let lt : c.loop-writer.writer-index < length c.args.writers.now = omega arith in
    leads_map c.args.subject.now (λ o. loose c.args.row.now.number o) c.args.writers.now c.loop-writer.writer-index 0 _ c.loop-writer.found c.note_loose_writer.new.found c.args.found.now lt c.loop-writer.invariant c.in_ok-note_loose_writer.ensures

pub returns : goal.returns
returns c =
    let past : length c.args.writers.now ≤ c.loop-writer.writer-index = omega arith in
    leads_done c.args.subject.now (map (λ o. loose c.args.row.now.number o)
    (drop c.loop-writer.writer-index c.args.writers.now)) _ c.loop-writer.found
    c.args.found.now (ap (map (λ o. loose c.args.row.now.number o))
    (drop_past c.args.writers.now c.loop-writer.writer-index past)) c.loop-writer.invariant
