use Rattle.mk_json.proofs.Put.{last_value_counts}
use Rattle.mk_json.proofs.laws.last_value_counts.Goals as goal

pub returns : goal.returns
returns c = last_value_counts
