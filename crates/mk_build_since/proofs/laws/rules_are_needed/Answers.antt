-- A history for each rule.
use Rattle.mk_build_since.proofs.NewRecipe.{without_new_recipe}
use Rattle.mk_build_since.proofs.OtherCommands.{without_other_commands}
use Rattle.mk_build_since.proofs.OtherWrites.{without_other_writes}
use Rattle.mk_build_since.proofs.OtherReads.{without_other_reads}
use Rattle.mk_build_since.proofs.ReadText.{without_read_text}
use Rattle.mk_build_since.proofs.laws.rules_are_needed.Goals as goal

pub returns : goal.returns
returns c = (without_new_recipe, without_other_commands, without_other_writes, without_other_reads, without_read_text)
