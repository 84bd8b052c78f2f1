use Rattle.std.proofs.Common.{◌≡◌, ◌++◌, drop}
use Rattle.mk_core_since.proofs.words.copied_names.Given as goal

-- the names so far, with those that are left
abbrev pub invariant-loop-name : goal.invariant-loop-name
invariant-loop-name l = l.copies.items ++ drop l.name-index l.names ≡ l.names
