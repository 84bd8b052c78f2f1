-- One candidate after another.
use Rattle.mk_find.proofs.Lists.{listed_holds, holding_listed}
use Rattle.mk_find.proofs.finding_laws.listed_exactly.Goals as goal

pub returns : goal.returns
returns c = λ x all kept lists candidate. (listed_holds x all kept lists candidate, λ both. holding_listed x all kept lists candidate both.0 both.1)
