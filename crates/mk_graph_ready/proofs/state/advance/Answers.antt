use Rattle.std.proofs.Common.{ℕ, List, sym, subst, arith}
use Rattle.mk_lemmas.proofs.Members.{Has-left, Has-right}
use Rattle.mk_graph.specs.Membership.{Has}
use Rattle.mk_graph.specs.Without.{joined}
use Rattle.mk_graph_ready.proofs.Stepping.{halts_left, opens_left, wants_more}
use Rattle.mk_graph_ready.proofs.state.advance.Goals as goal

pub want_all-requires : goal.want_all-requires
want_all-requires c = λ n h.
    let many = c.loop-group.invariant.wants.many in
    let behind = c.in-Some.ensures.behind in
    let low = c.loop-group.invariant.low n (subst (λ (gs : List (List ℕ)). Has (joined gs) n) (sym behind) (Has-left c.in-Some.group.now (joined c.next.new.self.behind) n h)) in
    omega arith

pub loop-group-preserved : goal.loop-group-preserved
loop-group-preserved c =
    let o = c.in-Some.ensures in
    let w = c.want_all.ensures in
    let before = c.loop-group.invariant in
    record {
      wants = wants_more c.args.stages.now c.loop-group.stages c.want_all.new.stages c.args.done.now c.args.left.now c.loop-group.left c.next.new.self c.in-Some.group.now before.left o w before.wants;
      left = λ groups l. opens_left c.loop-group.stages c.want_all.new.stages c.args.done.now groups c.loop-group.left c.next.new.self c.in-Some.group.now o w (before.left groups l);
      low = λ n h. before.low n (subst (λ (gs : List (List ℕ)). Has (joined gs) n) (sym o.behind) (Has-right c.in-Some.group.now (joined c.next.new.self.behind) n h));
    }

pub returns-clause-left : goal.returns-clause-left
returns-clause-left c = λ groups l. halts_left c.loop-group.stages c.args.done.now groups c.loop-group.left c.next.new.self c.in_default.ensures (c.loop-group.invariant.left groups l)
