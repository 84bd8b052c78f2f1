use Rattle.std.proofs.lemmas.Result.{err_from_is_err_and}
use Rattle.std.proofs.Common.{refl}
use Rattle.mk_core.proofs.Answering.{text_drawn, no_text_drawn}
use Rattle.mk_core.proofs.Faults.{plain_infer, notes_infer}
use Rattle.mk_core.proofs.graph.drawn.Goals as goal

pub returns-in_err-text-clause-answer : goal.returns-in_err-text-clause-answer
returns-in_err-text-clause-answer c =
    let p = err_from_is_err_and c.from_residual.result c.from_residual.ensures.1 in
    rw (p.1, p.2) (no_text_drawn c.args.commands c.args.ready.now c.in_err-text.field-0.0 c.in_err-text.ensures)

pub returns-in_err-text-clause-memory : goal.returns-in_err-text-clause-memory
returns-in_err-text-clause-memory c =
    let p = err_from_is_err_and c.from_residual.result c.from_residual.ensures.1 in
    rw (p.1, p.2) (plain_infer c.in_err-text.field-0.0)

pub returns-in_err-text-clause-noted : goal.returns-in_err-text-clause-noted
returns-in_err-text-clause-noted c =
    let p = err_from_is_err_and c.from_residual.result c.from_residual.ensures.1 in
    rw (p.1, p.2) (λ failed. notes_infer failed failed c.in_err-text.field-0.0 refl)

pub returns-clause-answer : goal.returns-clause-answer
returns-clause-answer c = text_drawn c.args.commands c.args.ready.now c.in_ok-text.text.items c.in_ok-text.ensures
