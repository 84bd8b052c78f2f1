use Rattle.std.proofs.Common.{◌-◌, List}
use Rattle.mk_find.specs.declared.finding.Finding.{Finding}
use Rattle.mk_read.specs.Files.{Told}
use Rattle.mk_core_repair.specs.Known.{IsBase}
use Rattle.mk_core_repair.specs.Outcome.{Outcome, reason_of, too_long}
use Rattle.mk_core_repair.specs.Rounds.{Rounds, max_rounds}
use Rattle.mk_core_repair.proofs.rounds.rounds.Given as goal

-- the outcome of the rounds that are left is that of all
abbrev pub invariant-loop-done : goal.invariant-loop-done
invariant-loop-done l =
    (told : Told) → IsBase told l.base.request.now l.base.own.now l.base.known.now → (first : List Finding) (outcome : Outcome)
    → Rounds (max_rounds - l._done) l.base.known.now.names told l.base.request.now first l.words (reason_of l.why) outcome
    → Rounds max_rounds l.base.known.now.names told l.base.request.now first l.fn.words too_long outcome
