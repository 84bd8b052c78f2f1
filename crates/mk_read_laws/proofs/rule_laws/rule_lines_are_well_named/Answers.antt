use Rattle.mk_read_laws.proofs.WellNamed.{rule_lines_are_well_named}
use Rattle.mk_read_laws.proofs.rule_laws.rule_lines_are_well_named.Goals as goal

pub returns : goal.returns
returns c = rule_lines_are_well_named
