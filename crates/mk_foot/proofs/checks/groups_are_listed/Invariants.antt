use Rattle.std.proofs.Common.{◌≡◌, drop}
use Rattle.mk_foot.specs.Steps.{test_each}
use Rattle.mk_foot.specs.Checks.{shared_lists_exist}
use Rattle.mk_foot.proofs.checks.groups_are_listed.Given as goal

-- what is left to test decides
abbrev pub invariant-loop-group : goal.invariant-loop-group
invariant-loop-group l = test_each (shared_lists_exist l.names) (drop l.group-index l.groups) ≡ test_each (shared_lists_exist l.names) l.groups
