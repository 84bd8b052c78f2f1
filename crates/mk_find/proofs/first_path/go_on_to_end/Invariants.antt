use Rattle.std.proofs.Common.{◌≡◌, ◌-◌, length}
use Rattle.mk_find.specs.FirstPaths.{EndsNoneBefore}
use Rattle.mk_find.proofs.first_path.go_on_to_end.Given as goal

abbrev pub invariant-loop-number : goal.invariant-loop-number
invariant-loop-number l =
    (l.search ≡ l.fn.search) × EndsNoneBefore l.subject l.file.file l.fn.search.start l.place

abbrev pub decreases-loop-number : goal.decreases-loop-number
decreases-loop-number l = length l.subject.graph.nodes - l.place
