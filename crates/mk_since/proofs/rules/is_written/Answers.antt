use Rattle.mk_since.proofs.Deciding.{written_decides}
use Rattle.mk_since.proofs.rules.is_written.Goals as goal

pub returns : goal.returns
returns c = written_decides c.args.subject.now c.args.file.now c.writers-writers.result.now c.is_empty.result c.writers-writers.ensures c.is_empty.ensures
