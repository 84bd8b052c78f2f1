use Rattle.std.proofs.Common.{◌<◌, length, arith}
use Rattle.mk_lines.specs.Bytes.{is_byte}
use Rattle.mk_macros.proofs.Outside.{outside_found, outside_nowhere}
use Rattle.mk_macros.proofs.forms.place_outside.Goals as goal

pub returns-then-at-text-clause-exact : goal.returns-then-at-text-clause-exact
returns-then-at-text-clause-exact c = outside_nowhere (is_byte c.args.byte) c.args.text.now c.first_place-at.result c.first_place.result c.first_place-at.ensures.place c.if-at-text.true c.first_place.ensures.place c.if-first_place-at.false

pub returns-clause-exact : goal.returns-clause-exact
returns-clause-exact c =
    let lt : c.first_place-at.result < length c.args.text.now = omega (arith, c.first_place-at.ensures.within, c.if-at-text.false) in
    outside_found (is_byte c.args.byte) c.args.text.now c.first_place-at.result c.first_place.result c.first_place-at.ensures.place lt c.first_place.ensures.place c.if-first_place-at.false
