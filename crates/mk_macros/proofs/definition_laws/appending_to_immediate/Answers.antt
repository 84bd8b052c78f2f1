use Rattle.mk_macros.proofs.DefinitionLaws.{appending_to_immediate}
use Rattle.mk_macros.proofs.definition_laws.appending_to_immediate.Goals as goal

pub returns : goal.returns
returns c = appending_to_immediate
