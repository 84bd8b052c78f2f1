use Rattle.mk_read_laws.proofs.PlainTexts.{texts_are_plain}
use Rattle.mk_read_laws.proofs.rule_laws.texts_are_plain.Goals as goal

pub returns : goal.returns
returns c = texts_are_plain
