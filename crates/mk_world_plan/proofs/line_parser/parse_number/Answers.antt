use Rattle.std.proofs.Common.{sym, ◌∙◌}
use Rattle.mk_world_plan.proofs.CommandWords.{number_parsed, no_number}
use Rattle.mk_world_plan.proofs.line_parser.parse_number.Goals as goal

pub returns-then-not-is_digits : goal.returns-then-not-is_digits
returns-then-not-is_digits c = no_number c.args.word.now (sym c.if-not-is_digits.ensures)

pub returns : goal.returns
returns c = c.ok.ensures.value ∙ number_parsed c.args.word.now c.parse.result c.parse.ensures.value.0 (sym c.if-not-is_digits.ensures)
