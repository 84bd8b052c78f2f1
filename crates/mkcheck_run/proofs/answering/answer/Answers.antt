use Rattle.std.proofs.Common.{subst, sym}
use Rattle.mk_command.specs.declared.invocation.Invocation.{Invocation}
use Rattle.mkcheck_run.specs.Run.{AnswersOver}
use Rattle.mkcheck_run.proofs.answering.answer.Goals as goal

pub returns-in-Explain-clause-answer : goal.returns-in-Explain-clause-answer
returns-in-Explain-clause-answer g c =
    λ was below told fits. subst (λ (a : Invocation). AnswersOver was told a c.answer_explain.result) (sym c.in-Explain.is) (c.answer_explain.ensures.answer told)
