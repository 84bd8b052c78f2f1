use Rattle.std.proofs.Common.{◌≡◌, map, drop, string_bytes, Result}
use Rattle.mk_build.specs.SerialMake.{puts}
use Rattle.mk_build.specs.Setting.{writes}
use Rattle.mk_build.specs.World.{World}
use Rattle.mk_world.specs.declared.fault.StepFault.{StepFault}
use Rattle.mk_world.specs.Fits.{Fits}
use Rattle.mk_world.specs.State.{busy, setting}
use Rattle.mk_world.specs.Running.{TakesInTurn}
use Rattle.mk_world.proofs.finishing.put_all.Given as goal

-- to take the puts that are left is to take all puts from the first world on
abbrev pub invariant-loop-file : goal.invariant-loop-file
invariant-loop-file l = record {
  fits : Fits l.scene l.making;
  names : l.disk.names ≡ l.fn.disk.names;
  left : (new : World) (r : Result (Unit {0}) StepFault)
      → TakesInTurn l.scene.graph (setting l.scene) (busy l.scene l.making l.disk) new
      (puts l.number (map string_bytes (drop l.file-index l.file-items)) l.rest) r
      → TakesInTurn l.scene.graph (setting l.scene) (busy l.scene l.fn.making l.fn.disk) new
      (puts l.number (writes l.scene.graph (setting l.scene) l.number) l.fn.contents) r;
}
