use Rattle.std.proofs.Common.{[], ap, inr}
use Rattle.mk_macros.specs.Expansion.{text_and_variation}
use Rattle.mk_macros.proofs.Plain.{plain_stays, plain_over}
use Rattle.mk_macros.proofs.expansion.lent.Goals as goal

pub returns-then-text-gt-MAX_LENGTH-clause-exact : goal.returns-then-text-gt-MAX_LENGTH-clause-exact
returns-then-text-gt-MAX_LENGTH-clause-exact c = λ table recipe. inr (ap text_and_variation (plain_over 256 (record { table = table; recipe = recipe }) [] 0 c.args.text.now c.requires c.if-text-gt-MAX_LENGTH.true))

pub returns-clause-exact : goal.returns-clause-exact
returns-clause-exact c = λ table recipe. ap text_and_variation (plain_stays 256 (record { table = table; recipe = recipe }) [] 0 c.args.text.now c.requires c.if-text-gt-MAX_LENGTH.false)
