use Rattle.std.proofs.Common.{◌≡◌, drop, map}
use Rattle.mk_graph.specs.Graph.{prerequisites}
use Rattle.mk_lines.specs.Names.{has_name}
use Rattle.mk_subject.specs.Subject.{name_of}
use Rattle.mk_repair.proofs.needed.needs_directly.Given as goal

-- the result depends on the numbers that are left
abbrev pub invariant-loop-other : goal.invariant-loop-other
invariant-loop-other l =
    has_name (map (name_of l.subject) (drop l.other-index (prerequisites l.subject.graph l.number))) l.name
    ≡ has_name (map (name_of l.subject) (prerequisites l.subject.graph l.number)) l.name
