use Rattle.std.proofs.Common.{◌≡◌, ◌+◌, drop}
use Rattle.mk_read.specs.Reading.{with_operands}
use Rattle.mk_read_parse.proofs.OperandLists.{texts_of}
use Rattle.mk_read_parse.proofs.reading.fix_operands.Given as goal

-- the operands that are left, from the macros so far
abbrev pub invariant-loop-i : goal.invariant-loop-i
invariant-loop-i l = with_operands (l.i + 1) (texts_of (drop l.i l.operands)) l.macros ≡ with_operands 1 (texts_of l.operands) l.fn.macros
