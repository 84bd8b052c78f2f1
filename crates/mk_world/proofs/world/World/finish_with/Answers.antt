use Rattle.std.proofs.Common.{Option, List, ◌<◌, length, sym, refl, subst, Err}
use Rattle.mk_graph.specs.Graph.{Graph}
use Rattle.mk_build.specs.SerialMake.{rest_of_run}
use Rattle.mk_world.specs.declared.fault.StepFault.TheVariants.{NoMake}
use Rattle.mk_world.specs.State.{MakeState, setting, world_in, disk_of}
use Rattle.mk_build.specs.Setting.{FileName}
use Rattle.mk_world.specs.First.{AreNamesOf}
use Rattle.mk_world.specs.Kept.{IsKeptIn}
use Rattle.mk_world.specs.Places.{ArePlaces}
use Rattle.mk_world.specs.Running.{TakesInTurn}
use Rattle.mk_world.proofs.Lines.{idle_finish}
use Rattle.mk_world.proofs.Keeping.{kept_finish, kept_unfinished}
use Rattle.mk_world.proofs.world.World.finish_with.Goals as goal

pub returns-in_default : goal.returns-in_default
returns-in_default c =
    let scene = c.self.inside.scene in
    let disk = c.self.inside.disk in
    let n = c.args.number in
    let cs = c.args.contents.now in
    rw (← c.self.view_is) (record {
      scene = refl;
      names = refl;
      takes = subst (λ (make : Option MakeState). TakesInTurn scene.graph (setting scene) (world_in scene disk make) (world_in scene disk make) (rest_of_run scene.graph (setting scene) n cs) (Err NoMake)) (sym c.in_default.is) (idle_finish scene.graph (setting scene) (disk_of disk) n cs);
    })

pub finish_with-requires-clause-node : goal.finish_with-requires-clause-node
finish_with-requires-clause-node c = rw (← c.self.view_is) at c.requires

pub mark_done-requires : goal.mark_done-requires
mark_done-requires c =
    let k = subst (λ (o : Option MakeState). IsKeptIn c.self.inside.scene o c.self.inside.readiness) c.in-Some.is c.self.invariant.2 in
    subst (λ (g : Graph). c.args.number < length g.nodes) (sym k.graph) (rw (← c.self.view_is) at c.requires)

pub invariant_of-self-in_err-finish_with : goal.invariant_of-self-in_err-finish_with
invariant_of-self-in_err-finish_with c =
    let scene = c.self.inside.scene in
    let k = subst (λ (o : Option MakeState). IsKeptIn scene o c.self.inside.readiness) c.in-Some.is c.self.invariant.2 in
    let cs = c.args.contents.now in (
      c.in_err-finish_with.ensures.fits,
      subst (λ (ns : List FileName). AreNamesOf scene ns)
          (sym c.in_err-finish_with.ensures.names) c.self.invariant.1,
      kept_unfinished scene c.in-Some.making
          c.finish_with.new.making c.self.inside.disk c.finish_with.new.disk c.args.number cs
          c.self.inside.readiness k c.in_err-finish_with.field-0.0 c.in_err-finish_with.ensures.takes,
      subst
          (λ (ns : List FileName). ArePlaces scene ns c.self.inside.places)
          (sym c.in_err-finish_with.ensures.names) c.self.invariant.3,
    )

pub invariant_of-self-2 : goal.invariant_of-self-2
invariant_of-self-2 c =
    let scene = c.self.inside.scene in
    let k = subst (λ (o : Option MakeState). IsKeptIn scene o c.self.inside.readiness) c.in-Some.is c.self.invariant.2 in
    let cs = c.args.contents.now in (
      c.in_ok-finish_with.ensures.fits,
      subst (λ (ns : List FileName). AreNamesOf scene ns)
          (sym c.in_ok-finish_with.ensures.names) c.self.invariant.1,
      kept_finish scene c.in-Some.making
          c.finish_with.new.making c.self.inside.disk c.finish_with.new.disk c.args.number cs
          c.self.inside.readiness k c.mark_done.new.self c.in_ok-finish_with.ensures.takes c.mark_done.ensures,
      subst (λ (ns : List FileName). ArePlaces scene ns c.self.inside.places)
          (sym c.in_ok-finish_with.ensures.names) c.self.invariant.3,
    )
