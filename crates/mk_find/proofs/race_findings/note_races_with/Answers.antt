use Rattle.std.proofs.Common.{◌<◌, ◌≤◌, ◌∙◌, ap, refl, length, map, drop, arith}
use Rattle.mk_lemmas.proofs.Members.{Has-get_or}
use Rattle.mk_find.specs.Candidates.{race}
use Rattle.mk_find.specs.HappensBefore.{NodeInGraph}
use Rattle.mk_find.proofs.Adding.{drop_past, leads_map, leads_done}
use Rattle.mk_find.proofs.race_findings.note_races_with.Goals as goal

pub loop-writer-init : goal.loop-writer-init
loop-writer-init c = record { leads = λ last h. h; same = refl }

pub note_race-requires-clause-graph : goal.note_race-requires-clause-graph
note_race-requires-clause-graph c = ap (λ (p : NodeInGraph). p.graph) c.loop-writer.invariant.same ∙ c.requires.graph

pub note_race-requires-clause-number : goal.note_race-requires-clause-number
note_race-requires-clause-number c = ap (λ (p : NodeInGraph). p.number) c.loop-writer.invariant.same ∙ c.requires.number

pub note_race-requires-clause-written : goal.note_race-requires-clause-written
note_race-requires-clause-written c =
    let lt : c.loop-writer.writer-index < length c.args.writers.now = omega arith in
    c.requires.written _ (Has-get_or c.args.writers.now c.loop-writer.writer-index 0 lt)

pub loop-writer-preserved : goal.loop-writer-preserved
loop-writer-preserved c =
    let lt : c.loop-writer.writer-index < length c.args.writers.now = omega arith in
    record {
      leads = leads_map c.args.read.now.subject.now (λ o. race c.args.read.now.row.now.number o c.args.read.now.file.file) c.args.writers.now c.loop-writer.writer-index 0 _ c.loop-writer.found c.note_race.new.found c.args.found.now lt c.loop-writer.invariant.leads c.in_ok-note_race.ensures.found;
      same = c.in_ok-note_race.ensures.same ∙ c.loop-writer.invariant.same;
    }

pub returns-clause-found : goal.returns-clause-found
returns-clause-found c =
    let past : length c.args.writers.now ≤ c.loop-writer.writer-index = omega arith in
    leads_done c.args.read.now.subject.now (map (λ o. race c.args.read.now.row.now.number o c.args.read.now.file.file)
    (drop c.loop-writer.writer-index c.args.writers.now)) _ c.loop-writer.found
    c.args.found.now (ap (map (λ o. race c.args.read.now.row.now.number o c.args.read.now.file.file))
    (drop_past c.args.writers.now c.loop-writer.writer-index past)) c.loop-writer.invariant.leads
