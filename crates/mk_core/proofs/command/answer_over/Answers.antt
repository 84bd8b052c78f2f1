use Rattle.std.proofs.Common.{subst}
use Rattle.mk_read.specs.Reading.{Makefile}
use Rattle.mk_core.specs.Views.{AnswersOver}
use Rattle.mk_core.proofs.command.answer_over.Goals as goal

pub returns-clause-answer : goal.returns-clause-answer
returns-clause-answer g c =
    let answers = g.C.Command.answers c.args.command.now in
    λ told fits. subst (λ (m : Makefile). AnswersOver told c.args.request.now m (answers told) c.answer_with-answer.result) c.in_ok-table.ensures (c.answer_with-answer.ensures.answer told fits)
