use Rattle.std.proofs.Common.{◌≡◌, drop}
use Rattle.mk_graph.specs.Membership.{has}
use Rattle.mk_subject.proofs.number_list.has_number.Given as goal

-- the numbers that are left decide
abbrev pub invariant-loop-other : goal.invariant-loop-other
invariant-loop-other l = has (drop l.other-index l.numbers) l.number ≡ has l.numbers l.number
