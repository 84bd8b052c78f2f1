use Rattle.mk_core.proofs.checking.check.Goals as goal

pub returns-clause-answer : goal.returns-clause-answer
returns-clause-answer g c = c.answer_judged.ensures.answer

pub returns-clause-right : goal.returns-clause-right
returns-clause-right g c =
    λ told fits agreed. c.yes_is_right.ensures told c.args.request.now c.answer_judged.result (c.answer_judged.ensures.answer told fits) agreed
