use Rattle.mk_core.proofs.simulation.simulate.Goals as goal

pub returns-clause-answer : goal.returns-clause-answer
returns-clause-answer g c = c.answer_request.ensures.answer
