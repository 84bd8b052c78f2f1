use Rattle.std.proofs.Common.{◌≡◌, map, take}
use Rattle.std.specs.Option.{option_copied}
use Rattle.mk_graph.specs.declared.node.Node.{Node}
use Rattle.mk_foot.specs.Setting as foot
use Rattle.mk_subject.specs.Records.{HaveDistinctReads}
use Rattle.mk_subject.proofs.records.found_for.Given as goal

-- the records of the nodes so far
abbrev pub invariant-loop-node : goal.invariant-loop-node
invariant-loop-node l = record {
  found : map (λ found. option_copied found) l.found.items ≡ map (λ (n : Node). foot.record_for l.setting.records n.name) (take l.node-index l.nodes);
  distinct : HaveDistinctReads (map (λ found. option_copied found) l.found.items);
}
