use Rattle.std.proofs.Common.{◌<◌, length, arith}
use Rattle.mk_macros.proofs.Cuts.{cut_nowhere, cut_found}
use Rattle.mk_macros.proofs.forms.cut_at_dollar.Goals as goal

pub returns-then-at-text : goal.returns-then-at-text
returns-then-at-text c = cut_nowhere c.args.text.now c.first_place-at.result c.first_place-at.ensures.place c.if-at-text.true

pub returns : goal.returns
returns c =
    let lt : c.first_place-at.result < length c.args.text.now = omega (arith, c.first_place-at.ensures.within) in
    cut_found c.args.text.now c.split_around.result.0.now c.split_around.result.1.now c.first_place-at.result c.first_place-at.ensures.place lt c.split_around.ensures.before c.split_around.ensures.behind
