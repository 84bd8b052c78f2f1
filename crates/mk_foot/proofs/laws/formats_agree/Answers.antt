use Rattle.mk_foot.proofs.Formats.{formats_agree}
use Rattle.mk_foot.proofs.laws.formats_agree.Goals as goal

pub returns : goal.returns
returns c = formats_agree
