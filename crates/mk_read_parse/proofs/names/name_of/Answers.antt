use Rattle.std.proofs.Common.{Ok, sym, ap}
use Rattle.mk_read.specs.Names.{name_of}
use Rattle.mk_read_parse.proofs.BracketFree.{name_without_brackets}
use Rattle.mk_read_parse.proofs.names.name_of.Goals as goal

pub returns-in-Some-clause-exact : goal.returns-in-Some-clause-exact
unfolding name_of
returns-in-Some-clause-exact c =
    rw (name_without_brackets c.args.word.now c.in-Some.ensures.1, c.in-Some.ensures.1) (ap (λ name. Ok name) (sym c.in-Some.ensures.0))
