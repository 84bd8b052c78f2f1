use Rattle.std.proofs.Common.{◌≡◌, drop}
use Rattle.mk_foot.specs.Steps.{test_each}
use Rattle.mk_foot.specs.Checks.{list_is_plain}
use Rattle.mk_foot.proofs.checks.lists_are_plain.Given as goal

-- what is left to test decides
abbrev pub invariant-loop-list : goal.invariant-loop-list
invariant-loop-list l = test_each list_is_plain (drop l.list-index l.lists) ≡ test_each list_is_plain l.lists
