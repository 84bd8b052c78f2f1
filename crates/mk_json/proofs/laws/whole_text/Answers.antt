use Rattle.mk_json.proofs.Turns.{whole_text}
use Rattle.mk_json.proofs.laws.whole_text.Goals as goal

pub returns : goal.returns
returns c = whole_text
