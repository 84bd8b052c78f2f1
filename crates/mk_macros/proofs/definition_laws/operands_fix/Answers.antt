use Rattle.mk_macros.proofs.DefinitionLaws.{operands_fix}
use Rattle.mk_macros.proofs.definition_laws.operands_fix.Goals as goal

pub returns : goal.returns
returns c = operands_fix
