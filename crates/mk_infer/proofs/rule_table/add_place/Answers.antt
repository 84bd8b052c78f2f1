use Rattle.std.proofs.Common.{arith}
use Rattle.std.proofs.lemmas.Grind.{text_groups}
use Rattle.mk_infer.proofs.rule_table.add_place.Goals as goal

pub returns-clause-places : goal.returns-clause-places
returns-clause-places c = λ name. grind (arith, text_groups)

pub returns-clause-targets : goal.returns-clause-targets
returns-clause-targets c = λ name. grind (arith, text_groups)
