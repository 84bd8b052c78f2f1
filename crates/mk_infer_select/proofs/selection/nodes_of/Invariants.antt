use Rattle.std.proofs.Common.{◌≡◌, map, take}
use Rattle.mk_infer_select.specs.Walked.{node_with}
use Rattle.mk_infer_select.proofs.selection.nodes_of.Given as goal

-- the nodes of the names so far
abbrev pub invariant-loop-one : goal.invariant-loop-one
invariant-loop-one l = l.nodes.items ≡ map (node_with l.choices.makefile l.names) (take l.one-index l.met)
