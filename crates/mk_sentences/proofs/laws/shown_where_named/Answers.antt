use Rattle.mk_sentences.proofs.FirstRules.{shown_nowhere}
use Rattle.mk_sentences.proofs.laws.shown_where_named.Goals as goal

pub returns : goal.returns
returns c = shown_nowhere
