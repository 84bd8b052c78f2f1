use Rattle.std.proofs.Common.{Option, false, subst}
use Rattle.mk_build.specs.Steps.{Break}
use Rattle.mk_world.specs.State.{MakeState}
use Rattle.mk_world.specs.Kept.{IsKeptIn}
use Rattle.mk_world.proofs.Keeping.{kept_judged}
use Rattle.mk_world.proofs.world.World.break_only.Goals as goal

pub invariant_of-self-2 : goal.invariant_of-self-2
invariant_of-self-2 c =
    let scene = c.self.inside.scene in
    let k = subst (λ (o : Option MakeState). IsKeptIn scene o c.self.inside.readiness) c.in-Some.is c.self.invariant.2 in
    (c.break_off.ensures.fits, c.self.invariant.1, kept_judged scene c.in-Some.making c.break_off.new.making c.self.inside.disk c.self.inside.disk (Break c.args.number false) c.break_off.result c.self.inside.readiness tt c.break_off.ensures.judged c.break_off.ensures.err k, c.self.invariant.3)
