-- By recursion on the list.
use Rattle.mk_graph.proofs.ListLaws.{mapped}
use Rattle.mk_graph.proofs.list_laws.members_of_mapped.Goals as goal

pub returns : goal.returns
returns g c = mapped _ _
