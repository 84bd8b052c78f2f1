use Rattle.std.proofs.Common.{inr, refl}
use Rattle.mk_cert_text.specs.Reading.{name_at, names_at, values_at, finish_at}
use Rattle.mk_json.specs.Kinds.{has_only}
use Rattle.mk_cert_text.proofs.reading_ways.no_way_parts.Goals as goal

pub returns : goal.returns
unfolding name_at names_at values_at finish_at has_only
returns c = record { finish = inr refl; file = inr refl; path = inr refl; recipe = inr refl; alone = refl }
