use Rattle.mk_world.proofs.Ascending.{IsSortedTo}
use Rattle.mk_world.proofs.sorted.in_order.Given as goal

-- the first texts are there, sorted
abbrev pub invariant-loop-text : goal.invariant-loop-text
invariant-loop-text l = IsSortedTo l.text-items l.text-index l.ordered
