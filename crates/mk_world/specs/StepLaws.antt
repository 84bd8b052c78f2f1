-- Laws of steps and their tests.
use Rattle.std.specs.Prelude.{◌↔◌}
use Rattle.mk_graph.specs.Graph.{Graph}
use Rattle.mk_build.specs.Setting.{Setting}
use Rattle.mk_build.specs.World.{World}
use Rattle.mk_build.specs.Steps.{Step, Allowed}
use Rattle.mk_world.specs.Faults.{checks, AllHold}

-- A step is allowed exactly if all its tests hold.
abbrev pub AllowedWhereAllHolds : Type 0
AllowedWhereAllHolds =
    (g : Graph) (s : Setting) (w : World) (step : Step) →
    Allowed g s w step ↔ AllHold (checks g s w step)
