use Rattle.std.proofs.Common.{◌≡◌, drop}
use Rattle.mk_foot.specs.Steps.{test_each}
use Rattle.mk_foot.specs.Checks.{entry_is_plain}
use Rattle.mk_foot.proofs.checks.entries_are_plain.Given as goal

-- what is left to test decides
abbrev pub invariant-loop-entry : goal.invariant-loop-entry
invariant-loop-entry l = test_each entry_is_plain (drop l.entry-index l.entries) ≡ test_each entry_is_plain l.entries
