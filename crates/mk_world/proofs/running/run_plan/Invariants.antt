use Rattle.std.proofs.Common.{◌≡◌, take, string_bytes}
use Rattle.mk_world.specs.State.{setting, world_of}
use Rattle.mk_world.specs.Running.{LeadsTo}
use Rattle.mk_world.proofs.Lines.{LinesRun}
use Rattle.mk_world.proofs.running.run_plan.Given as goal

-- the lines so far are run
abbrev pub invariant-loop-line : goal.invariant-loop-line
invariant-loop-line l = record {
  scene : l.world.scene ≡ l.fn.world.scene;
  names : l.world.disk.names ≡ l.fn.world.disk.names;
  leads : LeadsTo l.fn.world.scene.graph (setting l.fn.world.scene) (world_of l.fn.world) (world_of l.world);
  run : LinesRun l.fn.world l.world (take l.line-index l.line-items) (string_bytes l.text);
}
