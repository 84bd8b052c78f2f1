use Rattle.std.proofs.Common.{Option, List, true, sym, subst}
use Rattle.mk_build.specs.Setting.{FileName}
use Rattle.mk_build.specs.Steps.{Break}
use Rattle.mk_world.specs.State.{MakeState}
use Rattle.mk_world.specs.First.{AreNamesOf}
use Rattle.mk_world.specs.Kept.{IsKeptIn}
use Rattle.mk_world.specs.Places.{ArePlaces}
use Rattle.mk_world.proofs.Keeping.{kept_judged}
use Rattle.mk_world.proofs.world.World.break_and_remove.Goals as goal

pub invariant_of-self-2 : goal.invariant_of-self-2
invariant_of-self-2 c =
    let scene = c.self.inside.scene in
    let k = subst (λ (o : Option MakeState). IsKeptIn scene o c.self.inside.readiness) c.in-Some.is c.self.invariant.2 in (
      c.break_and_remove.ensures.fits,
      subst (λ (ns : List FileName). AreNamesOf scene ns) (sym c.break_and_remove.ensures.names) c.self.invariant.1,
      kept_judged scene c.in-Some.making c.break_and_remove.new.making c.self.inside.disk c.break_and_remove.new.disk (Break c.args.number true) c.break_and_remove.result c.self.inside.readiness tt c.break_and_remove.ensures.judged c.break_and_remove.ensures.err k,
      subst (λ (ns : List FileName). ArePlaces scene ns c.self.inside.places) (sym c.break_and_remove.ensures.names) c.self.invariant.3,
    )
