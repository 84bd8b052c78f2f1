-- What stands among no files has no writers.
use Rattle.std.proofs.Common.{sym}
use Rattle.mk_subject.proofs.KnownFiles.{no_writers}
use Rattle.mk_subject.proofs.subject.Subject.writers.Goals as goal

pub returns-in-None : goal.returns-in-None
returns-in-None c = sym (no_writers c.args.self.now c.args.file.now (λ t. (c.in-None.ensures t).0))
