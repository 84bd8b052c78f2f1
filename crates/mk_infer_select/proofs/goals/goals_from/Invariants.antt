use Rattle.std.proofs.Common.{◌≡◌, ◌+◌, drop}
use Rattle.mk_lemmas.proofs.Texts.{texts}
use Rattle.mk_infer.specs.Goals.{goals_from}
use Rattle.mk_infer_select.proofs.WithFront.{with_front}
use Rattle.mk_infer_select.proofs.goals.goals_from.Given as goal

-- the names so far and those of the goals that are left
abbrev pub invariant-loop-i : goal.invariant-loop-i
invariant-loop-i l = with_front (texts l.names.items) (goals_from (l.i + 1) (drop l.i l.goals)) ≡ goals_from 1 l.goals
