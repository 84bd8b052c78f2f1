use Rattle.mk_subject.proofs.SettledReads.{SoFar}
use Rattle.mk_subject.proofs.settled.unsettled_among.Given as goal

-- those among the places so far
abbrev pub invariant-loop-at : goal.invariant-loop-at
invariant-loop-at l = SoFar l.known l.places l.at-index l.unsettled.items
