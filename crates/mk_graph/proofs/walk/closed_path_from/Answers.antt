-- What was collected, the other way round, is the closed path.
use Rattle.std.proofs.Common.{arith}
use Rattle.std.proofs.lemmas.List.{nil_from_length}
use Rattle.mk_graph.proofs.Paths.{collected_some, collected_all}
use Rattle.mk_graph.proofs.walk.closed_path_from.Goals as goal
use Rattle.mk_graph.proofs.walk.closed_path_from.Goals.{in-Some+in_ok-push+then-frame-node, in_default}

pub returns : goal.returns
returns c =
    elim c.match-pop.branch [
      | in-Some+in_ok-push+then-frame-node w ↦ rw
          (c.reverse.ensures.items, w.path-is, w.in_ok-push.ensures.items)
          (collected_some _ _ _ _ _ w.in-Some.frame w.in-Some.ensures.items c.loop-frame.invariant
          w.if-frame-node.true)
      | in_default w ↦ rw (c.reverse.ensures.items, w.path-is)
          (collected_all c.args.node _ c.loop-frame.path.items c.loop-frame.frames.items
          (nil_from_length c.loop-frame.frames.items (let none = w.in_default.ensures.cases.0 in omega
          (arith, c.loop-frame.frames.ok.0))) c.loop-frame.invariant)
    ]
