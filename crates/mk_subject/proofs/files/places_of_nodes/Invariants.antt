use Rattle.std.proofs.Common.{◌≡◌, map, take}
use Rattle.mk_lemmas.proofs.Texts.{texts}
use Rattle.mk_graph.specs.declared.node.Node.{Node}
use Rattle.mk_subject.specs.FileInfo.{StandAt, known_by}
use Rattle.mk_subject.specs.Writers.{numbers_at}
use Rattle.mk_subject.proofs.files.places_of_nodes.Given as goal

-- the nodes so far have their places
abbrev pub invariant-loop-node : goal.invariant-loop-node
invariant-loop-node l = record {
  all : l.known.items ≡ map (λ f. known_by l.sources.table.now l.sources.setting.now (numbers_at l.sources.writers.now) l.sources.names.now f.now) l.files.keys;
  here : StandAt (texts l.files.keys) l.places.items (map (λ (n : Node). n.name) (take l.node-index l.nodes));
}
