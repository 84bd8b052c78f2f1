use Rattle.std.proofs.Common.{◌∙◌, ap}
use Rattle.std.specs.Prelude.{option_and_then}
use Rattle.clap.specs.Words.{found_of}
use Rattle.clap.proofs.WalkLemmas.{first_value-rows}
use Rattle.mk_command.specs.Invocation.{number_in}
use Rattle.mk_command.proofs.NumberLemmas.{number_parsed}
use Rattle.mk_command.proofs.invocation.number_at.Goals as goal

pub returns-in-Some : goal.returns-in-Some
returns-in-Some c =
    c.ok.ensures.value ∙ (number_parsed c.in-Some.text.now c.parse.result c.parse.ensures.value.0 ∙ ap (option_and_then number_in) (c.in-Some.ensures ∙ first_value-rows (found_of c.args.matches.now) c.args.id.now))

pub returns-in-None : goal.returns-in-None
returns-in-None c = ap (option_and_then number_in) (c.in-None.ensures ∙ first_value-rows (found_of c.args.matches.now) c.args.id.now)
