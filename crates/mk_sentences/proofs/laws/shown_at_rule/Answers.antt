use Rattle.mk_sentences.proofs.FirstRules.{shown_first}
use Rattle.mk_sentences.proofs.laws.shown_at_rule.Goals as goal

pub returns : goal.returns
returns c = shown_first
