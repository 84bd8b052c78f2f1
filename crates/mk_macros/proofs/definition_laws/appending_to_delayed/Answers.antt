use Rattle.mk_macros.proofs.DefinitionLaws.{appending_to_delayed}
use Rattle.mk_macros.proofs.definition_laws.appending_to_delayed.Goals as goal

pub returns : goal.returns
returns c = appending_to_delayed
