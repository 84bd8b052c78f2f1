-- The visits of the goals leave a turn list.
use Rattle.std.proofs.Common.{ℕ, List, sym, subst}
use Rattle.mk_graph.specs.Schedules.{IsSchedule}
use Rattle.mk_graph.proofs.SerialTurns.{serial_turns, order_is}
use Rattle.mk_graph.proofs.schedule_laws.serial_order_is_a_schedule.Goals as goal

pub returns : goal.returns
returns c = λ g is goals part. subst (λ (l : List ℕ). IsSchedule g goals l) (sym (order_is g is goals)) (serial_turns g is goals).0
