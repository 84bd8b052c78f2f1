use Rattle.std.proofs.lemmas.Result.{err_from_is_err_and}
use Rattle.mk_core.proofs.Answering.{not_refused, over, read_fails, read_well, untouched_by, were_accepted}
use Rattle.mk_core.proofs.command.answer_request.Goals as goal

pub returns-in_err-makefile-clause-answer : goal.returns-in_err-makefile-clause-answer
returns-in_err-makefile-clause-answer g c =
    let p = err_from_is_err_and c.from_residual.result c.from_residual.ensures.1 in
    let request = c.args.request.now in
    let answers = g.C.Command.answers c.args.command.now in
    rw (p.1, p.2) (λ told fits. read_fails told request (answers told) _ _ c.as_ref.ensures.value c.as_slice.ensures c.in_err-makefile.field-0.0 (c.in_err-makefile.ensures.answer told fits))

pub returns-clause-answer : goal.returns-clause-answer
returns-clause-answer g c =
    let request = c.args.request.now in
    let m = c.in_ok-makefile.makefile in
    let command = c.args.command.now in
    let answers = g.C.Command.answers command in
    let found = c.answer_over-answer.result in
    λ told fits. over told request (answers told) m
    (read_well told request (answers told) _ _ c.as_ref.ensures.value c.as_slice.ensures m
    (c.in_ok-makefile.ensures.answer told (c.answer_over-answer.ensures.keeps told fits)))
    (g.met.C.Command.not_read command told) found (c.answer_over-answer.ensures.answer told fits)

pub returns-in_err-makefile-clause-untouched : goal.returns-in_err-makefile-clause-untouched
returns-in_err-makefile-clause-untouched g c =
    untouched_by c.args.request.now _ _ c.as_ref.ensures.value c.as_slice.ensures _ c.in_err-makefile.ensures.untouched

pub returns-clause-untouched : goal.returns-clause-untouched
returns-clause-untouched g c =
    not_refused c.args.request.now _ _ c.as_ref.ensures.value c.as_slice.ensures _ c.in_ok-makefile.ensures.accepted

pub returns-clause-accepted : goal.returns-clause-accepted
returns-clause-accepted g c =
    were_accepted c.args.request.now _ _ c.as_ref.ensures.value c.as_slice.ensures _ c.in_ok-makefile.ensures.accepted
