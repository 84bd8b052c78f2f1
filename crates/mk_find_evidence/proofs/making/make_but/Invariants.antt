use Rattle.std.proofs.Common.{drop}
use Rattle.mk_find_evidence.proofs.Histories.{MakesLeft}
use Rattle.mk_find_evidence.proofs.making.make_but.Given as goal

-- the history has made the first nodes, and the others are left
abbrev pub invariant-loop-number : goal.invariant-loop-number
invariant-loop-number l = MakesLeft l.fn.history l.history l.passed l.order (drop l.number-index l.order)
