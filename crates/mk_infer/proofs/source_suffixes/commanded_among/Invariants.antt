use Rattle.std.proofs.Common.{[], take}
use Rattle.mk_infer.specs.Table.{HoldsDotted, commanded_in}
use Rattle.mk_infer.proofs.source_suffixes.commanded_among.Given as goal

-- the targets so far
abbrev pub invariant-loop-rule : goal.invariant-loop-rule
invariant-loop-rule l = HoldsDotted [] (commanded_in (take l.rule-index l.rules)) l.set
