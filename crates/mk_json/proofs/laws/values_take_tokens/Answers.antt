use Rattle.mk_json.proofs.Turns.{shorter}
use Rattle.mk_json.proofs.laws.values_take_tokens.Goals as goal

pub returns : goal.returns
returns c = shorter
