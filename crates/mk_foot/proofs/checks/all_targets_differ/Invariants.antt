use Rattle.std.proofs.Common.{◌≡◌, drop}
use Rattle.mk_foot.specs.Steps.{test_each}
use Rattle.mk_foot.specs.Checks.{targets_differ}
use Rattle.mk_foot.proofs.checks.all_targets_differ.Given as goal

-- what is left to test decides
abbrev pub invariant-loop-group : goal.invariant-loop-group
invariant-loop-group l = test_each targets_differ (drop l.group-index l.groups) ≡ test_each targets_differ l.groups
