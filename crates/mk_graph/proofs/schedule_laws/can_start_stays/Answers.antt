-- What is wanted and what is done stay so.
use Rattle.mk_graph.specs.Graph.{prerequisites}
use Rattle.mk_graph.proofs.Parts.{Wanted-grows, HasAll-grows}
use Rattle.mk_graph.proofs.schedule_laws.can_start_stays.Goals as goal

pub returns : goal.returns
returns c = λ g goals all done more within grows n out may. record { wanted = Wanted-grows g goals all done more within grows n may.wanted; not_done = out; prerequisites = HasAll-grows done more (prerequisites g n) grows may.prerequisites }
