use Rattle.std.proofs.Common.{inr, refl}
use Rattle.mk_json.specs.Kinds.{has_only}
use Rattle.mk_foot.specs.Fields.{text_at, texts_at}
use Rattle.mk_foot.proofs.records.no_entry_parts.Goals as goal

pub returns : goal.returns
unfolding text_at texts_at has_only
returns c = record { target = inr refl; commands = inr refl; reads = inr refl; writes = inr refl; shared = c.no_shared-shared.ensures; alone = refl }
