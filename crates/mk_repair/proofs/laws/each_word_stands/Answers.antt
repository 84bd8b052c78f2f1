use Rattle.mk_repair.proofs.WordLines.{needed_stands, phony_stands}
use Rattle.mk_repair.proofs.laws.each_word_stands.Goals as goal

pub returns : goal.returns
returns c = (needed_stands, phony_stands)
