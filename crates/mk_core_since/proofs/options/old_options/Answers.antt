use Rattle.mk_core_since.proofs.options.old_options.Goals as goal

pub returns-in-Ok-Some-clause-noted : goal.returns-in-Ok-Some-clause-noted
returns-in-Ok-Some-clause-noted g c = rw c.in-Ok-Some.ensures.ok (c.options_in.ensures.noted _)
