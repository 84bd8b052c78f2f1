-- What goes in order is done where it is before.
use Rattle.std.proofs.Common.{◌≡◌, ℕ, true}
use Rattle.mk_graph.specs.Graph.{Graph, node}
use Rattle.mk_build.specs.World.{World, Idle, Busy}
use Rattle.mk_graph.specs.Schedules.{Before}
use Rattle.mk_build.specs.Steps.{after_all}
use Rattle.mk_build.specs.BuildLaws.{IsDoneWhenReady}
use Rattle.mk_build.proofs.InOrder.{GoesInOrder, goes_in_order}
use Rattle.mk_build.proofs.build_laws.before_holds_in_histories.Goals as goal

-- in a world whose make goes in order
done_when_ready : (g : Graph) (o t : ℕ) → (node g t).recipe ≡ true → Before g o t → (w : World) → GoesInOrder g w → IsDoneWhenReady g o t w
done_when_ready g o t recipe before (Idle d) is = tt
done_when_ready g o t recipe before (Busy m d) is = λ ready. before recipe m.goals m.done is.part is.turns ready.0

pub returns : goal.returns
returns c = λ g o t recipe before s d steps legal. done_when_ready g o t recipe before (after_all g s (Idle d) steps) (goes_in_order g s d steps legal)
