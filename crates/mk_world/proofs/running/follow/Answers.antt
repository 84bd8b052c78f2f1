use Rattle.std.proofs.Common.{sym}
use Rattle.std.proofs.lemmas.Result.{err_from_is_err_and}
use Rattle.mk_world.proofs.Lines.{line_followed, line_cut}
use Rattle.mk_world.proofs.running.follow.Goals as goal

pub returns : goal.returns
returns c = line_followed c.args.world.now c.prepare.new.world c.obey.new.world c.args.order.now c.obey.result (sym c.if-not-knows.ensures) c.in_ok-prepare.ensures c.obey.ensures

-- memory runs out where idle nodes are passed
pub returns-in_err-prepare : goal.returns-in_err-prepare
returns-in_err-prepare c =
    let p = err_from_is_err_and c.from_residual.result c.from_residual.ensures.1 in
    rw p.1 (line_cut c.args.world.now c.prepare.new.world c.args.order.now c.in_err-prepare.field-0.0 p.0 (sym c.if-not-knows.ensures) c.in_err-prepare.ensures p.2)
