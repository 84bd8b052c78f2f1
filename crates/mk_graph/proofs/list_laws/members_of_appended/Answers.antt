-- By recursion on the list.
use Rattle.mk_graph.proofs.ListLaws.{appended}
use Rattle.mk_graph.proofs.list_laws.members_of_appended.Goals as goal

pub returns : goal.returns
returns g c = appended _
