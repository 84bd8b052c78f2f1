use Rattle.std.proofs.Common.{◌≡◌, drop}
use Rattle.mk_foot.specs.Steps.{test_each}
use Rattle.mk_foot.specs.Checks.{group_is_plain}
use Rattle.mk_foot.proofs.checks.groups_are_plain.Given as goal

-- what is left to test decides
abbrev pub invariant-loop-group : goal.invariant-loop-group
invariant-loop-group l = test_each group_is_plain (drop l.group-index l.groups) ≡ test_each group_is_plain l.groups
