use Rattle.mkcheck_host.proofs.EndingLemmas.{sent_none, sent_some}
use Rattle.mkcheck_host.proofs.ending.cut.Goals as goal

pub returns-then-not-failed-clause-line : goal.returns-then-not-failed-clause-line
returns-then-not-failed-clause-line g c = sent_some c.emit.result _ _ _ c.emit.ensures.whole c.emit.ensures.part

pub returns-else-not-failed-clause-line : goal.returns-else-not-failed-clause-line
returns-else-not-failed-clause-line g c = sent_none _ _
