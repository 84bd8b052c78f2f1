use Rattle.std.proofs.Common.{◌<◌, ◌≤◌, ◌∙◌, ◌++◌, length, ap, append_assoc, arith}
use Rattle.std.proofs.lemmas.Result.{err_from_is_err_and}
use Rattle.mk_core_text.specs.GraphText.{shown_lines}
use Rattle.mk_core_text.proofs.NodeTexts.{nodes_more, nodes_fail, nodes_end}
use Rattle.mk_core_text.proofs.printing.push_nodes.Goals as goal

pub returns-in_err-push_shown : goal.returns-in_err-push_shown
returns-in_err-push_shown c =
    let lt : c.loop-number.number-index < length c.args.numbers.now = omega arith in
    let lines = shown_lines c.args.shown.now.asked c.args.shown.now.choices.now.makefile c.args.shown.now.choices.now.exists in
    let p = err_from_is_err_and c.from_residual.result c.from_residual.ensures.1 in
    rw (p.1, p.2) (nodes_fail lines c.args.shown.now.graph.now c.loop-number.invariant.0 c.args.numbers.now c.loop-number.number-index _ _ _ c.in_err-push_shown.ensures c.loop-number.invariant.2 lt)

pub loop-number-preserved : goal.loop-number-preserved
loop-number-preserved c =
    let lt : c.loop-number.number-index < length c.args.numbers.now = omega arith in
    let lines = shown_lines c.args.shown.now.asked c.args.shown.now.choices.now.makefile c.args.shown.now.choices.now.exists in
    let more = c.in_ok-push_shown.ensures in (
      c.loop-number.invariant.0 ++ more.0,
      more.2 ∙ (ap (λ bytes. bytes ++ more.0) c.loop-number.invariant.1 ∙ append_assoc c.args.out.now.items c.loop-number.invariant.0 more.0),
      nodes_more lines c.args.shown.now.graph.now c.loop-number.invariant.0 c.args.numbers.now c.loop-number.number-index _ more.0 _ more.1 c.loop-number.invariant.2 lt,
    )

pub returns : goal.returns
returns c =
    let le : length c.args.numbers.now ≤ c.loop-number.number-index = omega arith in
    let lines = shown_lines c.args.shown.now.asked c.args.shown.now.choices.now.makefile c.args.shown.now.choices.now.exists in
    (c.loop-number.invariant.0, nodes_end lines c.args.shown.now.graph.now c.loop-number.invariant.0 c.args.numbers.now c.loop-number.number-index _ c.loop-number.invariant.2 le, c.loop-number.invariant.1)
