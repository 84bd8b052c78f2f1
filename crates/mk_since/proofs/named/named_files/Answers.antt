use Rattle.mk_since.proofs.Naming.{named_in_order}
use Rattle.mk_since.proofs.named.named_files.Goals as goal

pub returns-clause-named : goal.returns-clause-named
returns-clause-named c = named_in_order c.args.past.now c.args.subject.now _ _ c.in_ok-copies.ensures.all c.in_ok-names.ensures
