use Rattle.std.proofs.Common.{◌≡◌, ◌∷◌, ◌++◌, reverse, vec_len}
use Rattle.mk_graph.proofs.Frames.{nodes_of}
use Rattle.mk_graph.proofs.Paths.{down_to}
use Rattle.mk_graph.proofs.walk.closed_path_from.Given as goal

abbrev pub invariant-loop-frame : goal.invariant-loop-frame
invariant-loop-frame l = l.path.items ++ down_to l.node (nodes_of (reverse l.frames.items)) ≡ l.node ∷ down_to l.node (nodes_of (reverse l.fn.frames.items))

abbrev pub decreases-loop-frame : goal.decreases-loop-frame
decreases-loop-frame l = vec_len l.frames
