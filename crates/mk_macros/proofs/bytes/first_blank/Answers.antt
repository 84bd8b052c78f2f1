use Rattle.mk_lines.specs.Bytes.{is_blank}
use Rattle.mk_macros.proofs.Places.{found_at, found_nowhere}
use Rattle.mk_macros.proofs.bytes.first_blank.Goals as goal

pub returns-in-Some-clause-place : goal.returns-in-Some-clause-place
returns-in-Some-clause-place c = found_at is_blank c.args.text.now c.in-Some.at c.in-Some.ensures

pub returns-in-None-clause-place : goal.returns-in-None-clause-place
returns-in-None-clause-place c = found_nowhere is_blank c.args.text.now c.in-None.ensures
