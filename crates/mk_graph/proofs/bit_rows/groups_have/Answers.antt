use Rattle.std.proofs.Common.{refl, sym}
use Rattle.std.proofs.lemmas.Bool.{false≢true}
use Rattle.mk_graph.proofs.Loops.{group_within}
use Rattle.mk_graph.proofs.RowBits.{group_lacks_member, group_has_member}
use Rattle.mk_graph.proofs.bit_rows.groups_have.Goals as goal

pub some_has-requires : goal.some_has-requires
some_has-requires c n h = c.requires n (group_within c.args.groups.now c.loop-group.group-index c.group-item.result c.deref.result.now c.loop-group-test.true c.group-item.is c.deref.ensures.value n h)

pub returns-then-some_has : goal.returns-then-some_has
returns-then-some_has c = (
  λ e. absurd (false≢true (sym e)),
  λ all. absurd
      (group_has_member c.args.groups.now c.loop-group.group-index c.group-item.result c.deref.result.now
      c.loop-group-test.true c.group-item.is c.deref.ensures.value c.args.stride c.args.words.now c.args.member
      c.loop-group.invariant (λ h. false≢true (sym (c.if-some_has.ensures.1 h))) all),
)

pub loop-group-preserved : goal.loop-group-preserved
loop-group-preserved c = group_lacks_member c.args.groups.now c.loop-group.group-index c.group-item.result c.deref.result.now c.loop-group-test.true c.group-item.is c.deref.ensures.value c.args.stride c.args.words.now c.args.member c.loop-group.invariant (c.if-some_has.ensures.0 refl)
