use Rattle.std.proofs.Common.{Option, rules, subst}
use Rattle.mk_build.specs.Steps.{Begin}
use Rattle.mk_world.specs.State.{MakeState}
use Rattle.mk_world.specs.Kept.{IsKeptIn}
use Rattle.mk_world.proofs.Keeping.{kept_judged}
use Rattle.mk_world.proofs.world.World.begin_number.Goals as goal

pub invariant_of-self-2 : goal.invariant_of-self-2
invariant_of-self-2 c =
    let scene = c.self.inside.scene in
    let k = subst (λ (o : Option MakeState). IsKeptIn scene o c.self.inside.readiness) c.in-Some.is c.self.invariant.2 in
    (c.begin.ensures.fits, c.self.invariant.1, kept_judged scene c.in-Some.making c.begin.new.making c.self.inside.disk c.self.inside.disk (Begin c.args.number) c.begin.result c.self.inside.readiness tt (c.begin.ensures.judged c.self.inside.disk) c.begin.ensures.err k, c.self.invariant.3)

pub returns : goal.returns
returns c =
    let judged = c.begin.ensures.judged c.self.inside.disk in
    search rules
