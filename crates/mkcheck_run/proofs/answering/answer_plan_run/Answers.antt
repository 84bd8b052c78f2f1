use Rattle.std.proofs.Common.{ℕ, List, Ok, ap, subst}
use Rattle.std.proofs.lemmas.Result.{err_from_is_err_and}
use Rattle.mk_core.specs.Answer.{Answers}
use Rattle.mk_core.specs.SimulationAnswer.{AnswersSimulation}
use Rattle.mkcheck_run.proofs.RunLemmas.{no_memory_runs}
use Rattle.mkcheck_run.proofs.answering.answer_plan_run.Goals as goal

pub returns-in_err-shown-clause-answer : goal.returns-in_err-shown-clause-answer
returns-in_err-shown-clause-answer g c =
    let p = err_from_is_err_and c.from_residual-in_err-shown.result c.from_residual-in_err-shown.ensures.1 in
    rw (p.1, p.2) (λ told fits. no_memory_runs told c.args.request.now c.args.plan.now c.args.form)

pub returns-clause-answer : goal.returns-clause-answer
returns-clause-answer g c =
    λ told fits. (
      Ok c.in_ok-run.run',
      subst (λ (name : List ℕ). Answers told c.args.request.now (AnswersSimulation told name) (Ok c.in_ok-run.run')) c.as_str.ensures (c.in_ok-run.ensures.answer told fits),
      ap Ok c.in_ok-shown.ensures,
    )
