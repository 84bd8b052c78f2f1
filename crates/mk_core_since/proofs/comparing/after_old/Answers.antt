use Rattle.mk_core_since.proofs.comparing.after_old.Goals as goal

pub returns-in-Kept-clause-answer : goal.returns-in-Kept-clause-answer
returns-in-Kept-clause-answer g c = λ told fits. rw c.in-Kept.is (c.answer_judged.ensures.answer told fits)
