use Rattle.std.proofs.Common.{inr, refl}
use Rattle.mk_cert_text.specs.Reading.{names_at, values_at, format_is_one}
use Rattle.mk_json.specs.Kinds.{has_only}
use Rattle.mk_cert_text.proofs.reading.no_parts.Goals as goal

pub returns : goal.returns
unfolding names_at values_at format_is_one has_only
returns c = record { format = inr refl; goals = inr refl; ways = inr refl; alone = refl }
