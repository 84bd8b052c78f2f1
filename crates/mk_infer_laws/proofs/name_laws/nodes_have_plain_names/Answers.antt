use Rattle.mk_infer_laws.proofs.PlainNodes.{nodes_have_plain_names}
use Rattle.mk_infer_laws.proofs.name_laws.nodes_have_plain_names.Goals as goal

pub returns : goal.returns
returns c = nodes_have_plain_names
