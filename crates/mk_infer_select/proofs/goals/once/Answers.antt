use Rattle.std.proofs.Common.{◌<◌, length, arith}
use Rattle.mk_lemmas.proofs.Texts.{texts}
use Rattle.mk_infer_select.proofs.Once.{next_into, none_there}
use Rattle.mk_infer_select.proofs.goals.once.Goals as goal

pub loop-name-init : goal.loop-name-init
loop-name-init c = rw c.new-set.ensures (none_there (texts c.args.names.now))

pub loop-name-preserved : goal.loop-name-preserved
loop-name-preserved c =
    let lt : c.loop-name.name-index < length c.args.names.now = omega arith in
    next_into c.loop-name.set c.insert.new.self c.args.names.now c.loop-name.name-index _ _ c.in_ok-insert.ensures.ok c.loop-name.invariant lt
