use Rattle.std.proofs.Common.{Option, List, ◌<◌, length, sym, refl, subst, Err}
use Rattle.mk_graph.specs.Graph.{Graph}
use Rattle.mk_build.specs.SerialMake.{rest_of_run}
use Rattle.mk_world.specs.declared.fault.StepFault.TheVariants.{NoMake}
use Rattle.mk_world.specs.State.{MakeState, setting, world_in, disk_of, number_of}
use Rattle.mk_build.specs.Setting.{FileName}
use Rattle.mk_world.specs.First.{AreNamesOf}
use Rattle.mk_world.specs.Kept.{IsKeptIn}
use Rattle.mk_world.specs.Places.{ArePlaces}
use Rattle.mk_world.specs.Running.{TakesInTurn, contents_of}
use Rattle.mk_world.proofs.Lines.{idle_finish, node_low}
use Rattle.mk_world.proofs.Keeping.{kept_finish, kept_unfinished}
use Rattle.mk_world.proofs.world.World.finish.Goals as goal

pub returns-in_default : goal.returns-in_default
returns-in_default c =
    let scene = c.self.inside.scene in
    let disk = c.self.inside.disk in
    let n = number_of scene.graph c.args.node.now in
    let cs = contents_of scene.graph (setting scene) (disk_of disk) n in
    rw (← c.self.view_is) (record {
      scene = refl;
      names = refl;
      takes = subst (λ (make : Option MakeState). TakesInTurn scene.graph (setting scene) (world_in scene disk make) (world_in scene disk make) (rest_of_run scene.graph (setting scene) n cs) (Err NoMake)) (sym c.in_default.is) (idle_finish scene.graph (setting scene) (disk_of disk) n cs);
    })

pub finish-requires-clause-node : goal.finish-requires-clause-node
finish-requires-clause-node c = rw c.number-number.ensures (node_low c.self.inside.scene.graph c.args.node.now (rw (← c.self.view_is) at c.requires))

pub mark_done-requires : goal.mark_done-requires
mark_done-requires c =
    let k = subst (λ (o : Option MakeState). IsKeptIn c.self.inside.scene o c.self.inside.readiness) c.in-Some.is c.self.invariant.2 in
    subst (λ (g : Graph). c.number-number.result < length g.nodes) (sym k.graph) (rw c.number-number.ensures (node_low c.self.inside.scene.graph c.args.node.now (rw (← c.self.view_is) at c.requires)))

pub invariant_of-self-in_err-finish : goal.invariant_of-self-in_err-finish
invariant_of-self-in_err-finish c =
    let scene = c.self.inside.scene in
    let k = subst (λ (o : Option MakeState). IsKeptIn scene o c.self.inside.readiness) c.in-Some.is c.self.invariant.2 in
    let cs = contents_of scene.graph (setting scene) (disk_of c.self.inside.disk) c.number-number.result in (
      c.in_err-finish.ensures.fits,
      subst (λ (ns : List FileName). AreNamesOf scene ns)
          (sym c.in_err-finish.ensures.names) c.self.invariant.1,
      kept_unfinished scene c.in-Some.making
          c.finish.new.making c.self.inside.disk c.finish.new.disk c.number-number.result cs
          c.self.inside.readiness k c.in_err-finish.field-0.0 c.in_err-finish.ensures.takes,
      subst
          (λ (ns : List FileName). ArePlaces scene ns c.self.inside.places) (sym c.in_err-finish.ensures.names)
          c.self.invariant.3,
    )

pub invariant_of-self-2 : goal.invariant_of-self-2
invariant_of-self-2 c =
    let scene = c.self.inside.scene in
    let k = subst (λ (o : Option MakeState). IsKeptIn scene o c.self.inside.readiness) c.in-Some.is c.self.invariant.2 in
    let cs = contents_of scene.graph (setting scene) (disk_of c.self.inside.disk) c.number-number.result in (
      c.in_ok-finish.ensures.fits,
      subst (λ (ns : List FileName). AreNamesOf scene ns)
          (sym c.in_ok-finish.ensures.names) c.self.invariant.1,
      kept_finish scene c.in-Some.making
          c.finish.new.making c.self.inside.disk c.finish.new.disk c.number-number.result cs
          c.self.inside.readiness k c.mark_done.new.self c.in_ok-finish.ensures.takes c.mark_done.ensures,
      subst
          (λ (ns : List FileName). ArePlaces scene ns c.self.inside.places) (sym c.in_ok-finish.ensures.names)
          c.self.invariant.3,
    )
