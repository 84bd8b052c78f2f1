use Rattle.mk_world.proofs.progress.RunningRecipe.look.Goals as goal

pub returns-clause-noted : goal.returns-clause-noted
returns-clause-noted c = rw (← c.self.view_is) c.set.ensures.noted
