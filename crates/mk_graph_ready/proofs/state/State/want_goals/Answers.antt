use Rattle.mk_graph_ready.proofs.Standing.{wants_goals}
use Rattle.mk_graph_ready.proofs.state.State.want_goals.Goals as goal

pub returns-clause-stands : goal.returns-clause-stands
returns-clause-stands c =
    wants_goals c.args.layout.now c.args.self.now c.args.goals.now c.insert_all.new.self c.want_all.new.stages c.requires.stands c.requires.rest c.requires.none c.insert_all.ensures c.want_all.ensures
