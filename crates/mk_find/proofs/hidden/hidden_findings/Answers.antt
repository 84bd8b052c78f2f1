-- The races, and then the stale reads.
use Rattle.mk_find.specs.Candidates.{by_node, race_candidates}
use Rattle.mk_find.proofs.Adding.{adds_both}
use Rattle.mk_find.specs.Findings.{hidden_reads}
use Rattle.mk_find.proofs.hidden.hidden_findings.Goals as goal

pub returns : goal.returns
returns c =
    let x = c.args.subject.now in
    adds_both x (race_candidates x) (by_node x (hidden_reads x)) c.new-found.result c.note_races.new.found c.note_all_hidden.new.found c.into_findings.result.items c.new-found.ensures c.into_findings.ensures c.in_ok-note_races.ensures c.in_ok-note_all_hidden.ensures
