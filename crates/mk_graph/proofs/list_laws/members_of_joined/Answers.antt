-- By recursion on the list.
use Rattle.mk_graph.proofs.ListLaws.{joined}
use Rattle.mk_graph.proofs.list_laws.members_of_joined.Goals as goal

pub returns : goal.returns
returns g c = joined _ _
