use Rattle.std.proofs.Common.{◌≡◌, ap}
use Rattle.mk_cert_text.specs.Certificate.{Way}
use Rattle.mk_cert.proofs.Judged.{judged_told}
use Rattle.mk_cert.proofs.judging.note_good.Goals as goal

pub returns-clause-judged : goal.returns-clause-judged
returns-clause-judged c =
    let x = c.args.subject.now in
    let w = c.args.way.now in
    let file : c.way.inside.file.now ≡ w.file = ap (λ (v : Way). v.file) c.way.view_is in
    let found = rw c.in-Some.is at c.in_ok-start.ensures.start in
    judged_told x c.graph-graph.ensures.graph c.names_have_one_number.ensures w c.in-Some.start found.1 found.2 c.args.seen.now.items c.requires.sets found.0 c.note_at.new.sets.items c.way.inside.file.now file c.note_at.result c.note_at.ensures.new c.note_at.ensures.ok
