use Rattle.mk_read_laws.proofs.Blocks.{blocks_give_their_rules}
use Rattle.mk_read_laws.proofs.rule_laws.blocks_give_their_rules.Goals as goal

pub returns : goal.returns
returns c = blocks_give_their_rules
