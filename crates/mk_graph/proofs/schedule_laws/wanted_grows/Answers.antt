-- An open group stays open.
use Rattle.mk_graph.proofs.Parts.{Wanted-grows}
use Rattle.mk_graph.proofs.schedule_laws.wanted_grows.Goals as goal

pub returns : goal.returns
returns c = λ g goals all done more within grows n wanted. Wanted-grows g goals all done more within grows n wanted
