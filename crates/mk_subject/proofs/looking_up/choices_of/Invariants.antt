use Rattle.std.proofs.Common.{◌≡◌, map, take}
use Rattle.mk_graph.specs.Graph.{node}
use Rattle.mk_infer.specs.Inference.{choice}
use Rattle.mk_subject.proofs.looking_up.choices_of.Given as goal

-- the choices of the nodes so far
abbrev pub invariant-loop-number : goal.invariant-loop-number
invariant-loop-number l = l.chosen.items ≡ map (λ n. choice l.choices.makefile l.choices.exists (node l.graph n).name) (take l.number-index l.order)
