use Rattle.std.proofs.Common.{List, length, sym, ap, eqb}
use Rattle.mk_lines.proofs.Pieces.{one_piece, text_of_one, more_pieces}
use Rattle.mk_lines.proofs.joins.joined.Goals as goal

pub returns-then-is_none-clause-exact : goal.returns-then-is_none-clause-exact
returns-then-is_none-clause-exact c =
    text_of_one c.args.command c.args.run.now (one_piece c.args.run.now c.cut.result.0.now c.cut.result.1 c.cut.ensures.whole c.cut.ensures.parts c.if-is_none.ensures)

pub returns-then-is_none-clause-lends : goal.returns-then-is_none-clause-lends
returns-then-is_none-clause-lends c =
    sym (ap (λ (xs : List _). eqb (length xs) 1) (one_piece c.args.run.now c.cut.result.0.now c.cut.result.1 c.cut.ensures.whole c.cut.ensures.parts c.if-is_none.ensures))

pub returns-clause-exact : goal.returns-clause-exact
returns-clause-exact c = rw (c.if-command.false) c.in_ok-join_plain.ensures

pub returns-clause-lends : goal.returns-clause-lends
returns-clause-lends c = sym (more_pieces c.args.run.now c.cut.result.0.now c.cut.result.1 c.cut.ensures.parts c.if-is_none.ensures)

pub returns-then-command-clause-lends : goal.returns-then-command-clause-lends
returns-then-command-clause-lends c = sym (more_pieces c.args.run.now c.cut.result.0.now c.cut.result.1 c.cut.ensures.parts c.if-is_none.ensures)
