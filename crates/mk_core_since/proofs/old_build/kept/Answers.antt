use Rattle.mk_core_since.proofs.old_build.kept.Goals as goal

pub returns : goal.returns
returns c = let (doubted, are, is) = c.in_ok-past.ensures in (c.requires.late, doubted, are c.requires.late c.requires.found, is)
