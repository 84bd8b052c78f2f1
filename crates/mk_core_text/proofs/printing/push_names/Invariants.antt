use Rattle.std.proofs.Common.{◌≡◌, ◌++◌, take}
use Rattle.mk_core_text.specs.GraphText.{names_text}
use Rattle.mk_core_text.proofs.printing.push_names.Given as goal

-- the names so far
abbrev pub invariant-loop-number : goal.invariant-loop-number
invariant-loop-number l = l.out.items ≡ l.initial.out.items ++ names_text l.graph (take l.number-index l.numbers)
