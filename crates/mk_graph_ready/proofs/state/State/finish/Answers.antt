use Rattle.std.proofs.Common.{ℕ, List, sym, subst}
use Rattle.mk_graph_ready.specs.State.{Stands}
use Rattle.mk_graph_ready.proofs.Standing.{done_too}
use Rattle.mk_graph_ready.proofs.state.State.finish.Goals as goal

pub returns-clause-stands : goal.returns-clause-stands
returns-clause-stands c =
    let s = c.args.self.now in
    let at = c.place-place.ensures in
    subst (λ (l : List ℕ). Stands c.args.layout.now (record { goals = s.goals; done = c.insert.new.self; stages = c.wake.new.stages; left = s.left; marks = l })) (sym c.write.ensures)
    (done_too c.args.layout.now s c.args.number c.place-place.result c.insert.new.self c.users.result.now c.wake.new.stages c.wanted_grows.ensures c.can_start_stays.ensures c.requires.stands c.requires.node c.insert.ensures at.within at.is at.only c.users.ensures.all c.wake.ensures)
