use Rattle.std.proofs.Common.{◌≡◌}
use Rattle.std.specs.Vec.Iter.{into_iter_items}
use Rattle.mk_foot.specs.Checks.{group_for}
use Rattle.mk_foot.proofs.checks.group_for.Given as goal

-- the first one is among the groups that are left
abbrev pub invariant-loop-group : goal.invariant-loop-group
invariant-loop-group l = group_for l.goals (into_iter_items l.group-iterator) ≡ group_for l.goals l.fn.groups.items
