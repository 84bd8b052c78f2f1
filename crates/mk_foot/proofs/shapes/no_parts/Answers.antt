use Rattle.std.proofs.Common.{inr, refl}
use Rattle.mk_json.specs.Kinds.{has_only}
use Rattle.mk_foot.specs.FootprintFile.{lists_in}
use Rattle.mk_foot.specs.Fields.{texts_at, elements_at, members_at, format_in}
use Rattle.mk_foot.proofs.shapes.no_parts.Goals as goal

pub returns : goal.returns
unfolding texts_at elements_at members_at format_in lists_in has_only
returns c = record { format = inr refl; fixed = inr refl; sources = inr refl; records = inr refl; lists = inr refl; groups = inr refl; is_first = refl; is_second = refl }
