use Rattle.std.proofs.Common.{Option, List, sym, subst}
use Rattle.mk_build.specs.Setting.{FileName}
use Rattle.mk_world.specs.State.{MakeState}
use Rattle.mk_world.specs.First.{AreNamesOf}
use Rattle.mk_world.specs.Kept.{IsKeptIn}
use Rattle.mk_world.specs.Places.{ArePlaces}
use Rattle.mk_world.proofs.Keeping.{kept_end}
use Rattle.mk_world.proofs.world.World.end.Goals as goal

pub invariant_of-self-2 : goal.invariant_of-self-2
invariant_of-self-2 c =
    let scene = c.self.inside.scene in
    let k = subst (λ (o : Option MakeState). IsKeptIn scene o c.self.inside.readiness) c.in-Some.is c.self.invariant.2 in (
      c.in_ok-end.ensures.fits,
      subst (λ (ns : List FileName). AreNamesOf scene ns)
          (sym c.in_ok-end.ensures.names) c.self.invariant.1,
      kept_end scene c.in-Some.making c.end.new.making
          c.self.inside.disk c.end.new.disk c.number-number.result c.self.inside.readiness c.mark_done.new.self
          c.in_ok-end.ensures.judged c.mark_done.ensures k,
      subst
          (λ (ns : List FileName). ArePlaces scene ns c.self.inside.places) (sym c.in_ok-end.ensures.names)
          c.self.invariant.3,
    )
