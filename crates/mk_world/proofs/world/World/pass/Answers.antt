use Rattle.std.proofs.Common.{Option, subst}
use Rattle.mk_world.specs.State.{MakeState}
use Rattle.mk_world.specs.Kept.{IsKeptIn}
use Rattle.mk_world.proofs.Keeping.{kept_pass}
use Rattle.mk_world.proofs.world.World.pass.Goals as goal

pub invariant_of-self-2 : goal.invariant_of-self-2
invariant_of-self-2 c =
    let scene = c.self.inside.scene in
    let k = subst (λ (o : Option MakeState). IsKeptIn scene o c.self.inside.readiness) c.in-Some.is c.self.invariant.2 in
    (c.in_ok-pass.ensures.fits, c.self.invariant.1, kept_pass scene c.in-Some.making c.pass.new.making c.self.inside.disk c.self.inside.disk c.number-number.result c.self.inside.readiness c.mark_done.new.self c.in_ok-pass.ensures.judged c.mark_done.ensures k, c.self.invariant.3)
