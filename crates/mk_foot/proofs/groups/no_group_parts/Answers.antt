use Rattle.std.proofs.Common.{inr, refl}
use Rattle.mk_json.specs.Kinds.{has_only}
use Rattle.mk_foot.specs.Fields.{texts_at, elements_at}
use Rattle.mk_foot.proofs.groups.no_group_parts.Goals as goal

pub returns : goal.returns
unfolding texts_at elements_at has_only
returns c = record { goals = inr refl; records = inr refl; alone = refl }
