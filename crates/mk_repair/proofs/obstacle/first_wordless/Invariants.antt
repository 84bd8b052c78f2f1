use Rattle.std.proofs.Common.{◌≡◌, drop}
use Rattle.mk_repair.specs.Obstacle.{first_wordless}
use Rattle.mk_repair.proofs.obstacle.first_wordless.Given as goal

-- the result depends on the findings that are left
abbrev pub invariant-loop-finding : goal.invariant-loop-finding
invariant-loop-finding l = first_wordless l.subject (drop l.finding-index l.findings) ≡ first_wordless l.subject l.findings
