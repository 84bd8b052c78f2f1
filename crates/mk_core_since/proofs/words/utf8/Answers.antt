use Rattle.mk_core_since.proofs.Lines.{utf8_text}
use Rattle.mk_core_since.proofs.words.utf8.Goals as goal

pub returns : goal.returns
returns c = utf8_text _ c.args.bytes.now c.from_utf8.result c.ok.result c.from_utf8.ensures.cases c.ok.ensures.value
