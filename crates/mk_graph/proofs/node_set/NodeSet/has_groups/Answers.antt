use Rattle.std.proofs.lemmas.Bool.{false≢true}
use Rattle.std.proofs.Common.{refl}
use Rattle.mk_graph.proofs.Loops.{group_there, group_lacks}
use Rattle.mk_graph.proofs.node_set.NodeSet.has_groups.Goals as goal

pub returns-then-not-has_all : goal.returns-then-not-has_all
returns-then-not-has_all c = (
  λ e. absurd (false≢true e),
  λ all. absurd
      (group_lacks c.args.groups.now c.loop-group.group-index c.group-item.result c.deref.result.now
      c.loop-group-test.true c.group-item.is c.deref.ensures.value c.args.self.now c.loop-group.invariant
      (λ h. false≢true (c.if-not-has_all.ensures.1 h)) all),
)

pub loop-group-preserved : goal.loop-group-preserved
loop-group-preserved c = group_there c.args.groups.now c.loop-group.group-index c.group-item.result c.deref.result.now c.loop-group-test.true c.group-item.is c.deref.ensures.value c.args.self.now c.loop-group.invariant (c.if-not-has_all.ensures.0 refl)
