use Rattle.mk_repair.proofs.WordLines as lemmas
use Rattle.mk_repair.proofs.laws.lines_fit.Goals as goal

pub returns : goal.returns
returns c = lemmas.lines_fit
