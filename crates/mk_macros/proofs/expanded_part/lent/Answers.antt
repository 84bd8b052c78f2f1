use Rattle.std.proofs.Common.{inr}
use Rattle.mk_macros.proofs.Plain.{plain_stays, plain_over}
use Rattle.mk_macros.proofs.expanded_part.lent.Goals as goal

pub returns-then-text-gt-MAX_LENGTH : goal.returns-then-text-gt-MAX_LENGTH
returns-then-text-gt-MAX_LENGTH c = λ levels scope going. inr (plain_over levels scope going c.args.references c.args.text.now c.requires c.if-text-gt-MAX_LENGTH.true)

pub returns : goal.returns
returns c = λ levels scope going. plain_stays levels scope going c.args.references c.args.text.now c.requires c.if-text-gt-MAX_LENGTH.false
