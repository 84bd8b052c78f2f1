use Rattle.mk_macros.proofs.DefinitionLaws.{operands_win}
use Rattle.mk_macros.proofs.definition_laws.operands_win.Goals as goal

pub returns : goal.returns
returns c = operands_win
