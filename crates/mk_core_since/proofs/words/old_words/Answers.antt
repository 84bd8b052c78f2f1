use Rattle.mk_core_since.proofs.words.old_words.Goals as goal

pub returns-in-Ok-Some-clause-noted : goal.returns-in-Ok-Some-clause-noted
returns-in-Ok-Some-clause-noted g c = rw c.in-Ok-Some.ensures.ok (c.given_in.ensures.noted _)
