use Rattle.std.proofs.Common.{◌≡◌, [], drop}
use Rattle.std.specs.Prelude.{fold}
use Rattle.std.specs.List.{flat_map}
use Rattle.mk_lines.specs.Names.{with_name}
use Rattle.mk_repair.specs.FindingWords.{needed, needed_by}
use Rattle.mk_repair.proofs.needed.needed_names.Given as goal

-- the names so far, with those of the nodes that are left
abbrev pub invariant-loop-number : goal.invariant-loop-number
invariant-loop-number l = fold with_name l.set (flat_map (needed_by l.subject) (drop l.number l.subject.graph.nodes)) ≡ fold with_name [] (needed l.subject)
