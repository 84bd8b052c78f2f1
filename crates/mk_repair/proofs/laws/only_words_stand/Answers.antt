use Rattle.mk_repair.proofs.WordLines as lemmas
use Rattle.mk_repair.proofs.laws.only_words_stand.Goals as goal

pub returns : goal.returns
returns c = lemmas.only_words_stand
