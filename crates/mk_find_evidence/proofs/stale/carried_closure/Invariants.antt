use Rattle.std.proofs.Common.{◌≡◌, ◌-◌, ℕ, length}
use Rattle.mk_subject.specs.Carried.{carried}
use Rattle.mk_subject.specs.Subject.{footprints}
use Rattle.mk_graph_search.specs.Ways.{successors}
use Rattle.mk_find_evidence.proofs.Chains.{HoldsBefore}
use Rattle.mk_find_evidence.proofs.stale.carried_closure.Given as goal

abbrev pub invariant-loop-search : goal.invariant-loop-search
invariant-loop-search l = record {
  rows : (n : ℕ) → successors l.search.rows n ≡ carried l.subject n;
  start : l.search.start ≡ l.t;
  holds : HoldsBefore l.subject.graph (footprints l.subject.setting) (carried l.subject) l.t l.place l.set;
}

abbrev pub decreases-loop-search : goal.decreases-loop-search
decreases-loop-search l = length l.subject.graph.nodes - l.place
