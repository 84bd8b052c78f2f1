use Rattle.std.proofs.Common.{◌-◌, length, nat_eq}
use Rattle.indexmap.specs.IndexMap.{get}
use Rattle.mk_graph_search.specs.Visits.{AreNoted}
use Rattle.mk_graph_search.proofs.visits.note_all.Given as goal

-- the places so far
abbrev pub invariant-loop-noted : goal.invariant-loop-noted
invariant-loop-noted l = AreNoted l.list (get nat_eq l.places) l.noted

abbrev pub decreases-loop-noted : goal.decreases-loop-noted
decreases-loop-noted l = length l.list - l.noted
