use Rattle.mk_core.proofs.Finding.{over_found}
use Rattle.mk_core.proofs.command.answer_with.Goals as goal

pub returns-clause-answer : goal.returns-clause-answer
returns-clause-answer g c =
    let request = c.args.request.now in
    let m = c.args.table.now in
    let ready = c.in_ok-ready.ready in
    let found = c.answer-answer.result in
    let answers = g.C.Command.answers c.args.command.now in
    λ told fits. over_found told request m (answers told) ready found
    (c.in_ok-ready.ensures.ready told (c.answer-answer.ensures.keeps told fits)) (c.answer-answer.ensures.answer told fits)
