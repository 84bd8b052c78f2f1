use Rattle.std.proofs.Common.{◌<◌, ◌∙◌, refl, sym, length, arith}
use Rattle.mk_infer.specs.Choosing.{chosen_by, fits_by}
use Rattle.mk_infer.proofs.FirstFound.{first_is}
use Rattle.mk_infer.proofs.inference.first_fitting.Goals as goal

pub returns-in-Some : goal.returns-in-Some
returns-in-Some c =
    let m = c.args.lookup.now.table.now in
    let suffixes = c.args.suffixes.now in
    let lt : c.loop-suffix.suffix-index < length suffixes = omega arith in
    first_is (λ suffix. suffix.now) (fits_by m c.args.lookup.now.exists.now c.args.stem.now c.args.ending.now) (chosen_by m c.args.stem.now c.args.ending.now) suffixes c.loop-suffix.suffix-index _ _ _ _ refl lt
    (sym c.in-Some.is ∙ c.in_ok-chosen.ensures) c.loop-suffix.invariant
