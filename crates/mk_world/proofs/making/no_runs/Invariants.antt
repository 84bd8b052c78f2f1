use Rattle.std.proofs.Common.{◌≡◌, replicate}
use Rattle.mk_world.specs.State.{no_run}
use Rattle.mk_world.proofs.making.no_runs.Given as goal

abbrev pub invariant-loop : goal.invariant-loop
invariant-loop l = l.runs.items ≡ replicate l.counter no_run
