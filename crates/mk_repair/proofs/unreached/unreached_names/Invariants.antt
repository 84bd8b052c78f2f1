use Rattle.std.proofs.Common.{◌≡◌, [], drop}
use Rattle.std.specs.List.{flat_map}
use Rattle.std.specs.Prelude.{fold}
use Rattle.mk_lines.specs.Names.{with_name}
use Rattle.mk_repair.specs.Makers.{unreached, unreached_by}
use Rattle.mk_repair.proofs.unreached.unreached_names.Given as goal

-- the names so far, with those of the rule lines that are left
abbrev pub invariant-loop-rule : goal.invariant-loop-rule
invariant-loop-rule l =
    fold with_name l.set (flat_map (unreached_by l.subject) (drop l.rule-index l.subject.makefile.rules))
    ≡ unreached l.subject
