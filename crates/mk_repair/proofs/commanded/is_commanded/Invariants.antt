use Rattle.std.proofs.Common.{◌≡◌, drop}
use Rattle.mk_read.specs.Rules.{is_commanded}
use Rattle.mk_repair.proofs.commanded.is_commanded.Given as goal

-- the result depends on the rule lines that are left
abbrev pub invariant-loop-rule : goal.invariant-loop-rule
invariant-loop-rule l = is_commanded (drop l.rule-index l.makefile.rules) l.name ≡ is_commanded l.makefile.rules l.name
