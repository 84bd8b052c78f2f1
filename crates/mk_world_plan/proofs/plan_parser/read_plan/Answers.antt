use Rattle.std.proofs.Common.{◌+◌, ◌∙◌, Ok, ap, sym, subst, arith}
use Rattle.mk_world_plan.proofs.PlanTexts.{Left, one_passed, one_taken}
use Rattle.mk_world_plan.proofs.plan_parser.read_plan.Goals as goal

pub loop-rest-preserved-in-Continue-branch-3 : goal.loop-rest-preserved-in-Continue-branch-3
loop-rest-preserved-in-Continue-branch-3 c =
    let read = c.in_ok-line.ensures ∙ ap (λ o. Ok o) c.in-Some.is in
    record {
      left = subst (λ lines. Left lines (c.loop-rest.number + 1) c.first_line.result.1.now c.args.text.now)
          (sym c.in_ok-push.ensures.items) (one_taken c.loop-rest.lines.items c.loop-rest.number
          c.first_line.result.0.now c.loop-rest.rest.now c.first_line.result.1.now c.args.text.now
          c.in-Some.line c.loop-rest.invariant.left c.first_line.ensures.lines read);
      counted = omega (arith, c.first_line.ensures.shorter, c.loop-rest.invariant.counted);
    }

pub loop-rest-preserved : goal.loop-rest-preserved
loop-rest-preserved c =
    let read = c.in_ok-line.ensures ∙ ap (λ o. Ok o) c.in_default.is in
    record {
      left = one_passed c.loop-rest.lines.items c.loop-rest.number c.first_line.result.0.now c.loop-rest.rest.now c.first_line.result.1.now c.args.text.now c.loop-rest.invariant.left c.first_line.ensures.lines read;
      counted = omega (arith, c.first_line.ensures.shorter, c.loop-rest.invariant.counted);
    }
