use Rattle.std.proofs.Common.{sym, subst, ◌∙◌}
use Rattle.mk_lines.proofs.NameTests.{Has-from_has_name, has_name-from_Has}
use Rattle.mk_build.specs.World.{IsFirstDisk}
use Rattle.mk_world.specs.State.{Scene, DiskState, setting_of, disk_of}
use Rattle.mk_world.specs.First.{AreNamesOf}
use Rattle.mk_world.proofs.FirstDisk.{is_first}
use Rattle.mk_world.proofs.world.World.new.Goals as goal

pub in_scene-requires : goal.in_scene-requires
in_scene-requires c =
    let all = c.in_ok-names.ensures.all in
    subst (λ (sc : Scene). AreNamesOf sc c.in_ok-disk.disk.names) (sym c.in_ok-scene.ensures) (
    subst (λ (d : DiskState). AreNamesOf (record { graph = c.args.graph.now; recorded = c.args.setting.now }) d.names) (sym c.in_ok-disk.ensures)
    (record { sorted = c.in_ok-names.ensures.sorted; all = λ f. (λ e. (all f).0 (Has-from_has_name _ f e), λ w. has_name-from_Has _ f ((all f).1 w)) })
    )

pub returns : goal.returns
returns c =
    let all = c.in_ok-names.ensures.all in
    let scene = c.in_ok-world.ensures.scene ∙ c.in_ok-scene.ensures in
    let disk = c.in_ok-world.ensures.disk ∙ c.in_ok-disk.ensures in
    record {
      scene = scene;
      idle = c.in_ok-world.ensures.idle;
      first = subst (λ (d : DiskState). IsFirstDisk c.args.graph.now (setting_of c.args.setting.now) (disk_of d)) (sym disk) (is_first c.args.graph.now c.args.setting.now c.in_ok-names.names c.in_ok-names.ensures.sorted c.in_ok-names.ensures.all);
      names = subst (λ (sc : Scene). AreNamesOf sc c.in_ok-world.world.disk.names) (sym scene) (
          subst (λ (d : DiskState). AreNamesOf (record { graph = c.args.graph.now; recorded = c.args.setting.now }) d.names) (sym disk)
          (record { sorted = c.in_ok-names.ensures.sorted; all = λ f. (λ e. (all f).0 (Has-from_has_name _ f e), λ w. has_name-from_Has _ f ((all f).1 w)) }));
    }
