use Rattle.std.proofs.Common.{◌≡◌, ◌≤◌, length}
use Rattle.mk_macros.specs.Locals.{file}
use Rattle.mk_macros.proofs.locals.file.Given as goal

-- what is left has the same last part
abbrev pub invariant-loop-rest : goal.invariant-loop-rest
invariant-loop-rest l = record { same : file l.rest ≡ file l.name; within : length l.rest ≤ length l.name }

abbrev pub decreases-loop-rest : goal.decreases-loop-rest
decreases-loop-rest l = length l.rest
