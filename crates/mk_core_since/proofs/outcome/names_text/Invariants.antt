use Rattle.std.proofs.Common.{◌≡◌, ◌++◌, drop}
use Rattle.mk_core_since.specs.SinceText.{names_text}
use Rattle.mk_core_since.proofs.outcome.names_text.Given as goal

-- the lines so far, with those of the names that are left
abbrev pub invariant-loop-name : goal.invariant-loop-name
invariant-loop-name l = l.text.items ++ names_text (drop l.name-index l.names) ≡ names_text l.names
