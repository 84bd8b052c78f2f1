use Rattle.std.proofs.Common.{◌<◌, length, arith}
use Rattle.mk_macros.specs.Substitution.{is_percent}
use Rattle.mk_macros.proofs.Places.{whole_cut, parted_cut}
use Rattle.mk_macros.proofs.substitution.PatternText.new.Goals as goal

pub invariant_of-result : goal.invariant_of-result
invariant_of-result c = whole_cut is_percent c.args.text.now c.first_place-at.result c.first_place-at.ensures.place c.if-at-text.true

pub invariant_of-result-2 : goal.invariant_of-result-2
invariant_of-result-2 c =
    let below : c.first_place-at.result < length c.args.text.now = omega arith in
    parted_cut is_percent c.args.text.now c.first_place-at.result c.first_place-at.ensures.place below
