use Rattle.mk_read_parse.proofs.Utf8.{utf8_answer}
use Rattle.mk_read_parse.proofs.names.utf8.Goals as goal

pub returns : goal.returns
returns c = utf8_answer _ c.args.bytes.now c.from_utf8.result c.ok.result c.from_utf8.ensures.cases c.ok.ensures.value
