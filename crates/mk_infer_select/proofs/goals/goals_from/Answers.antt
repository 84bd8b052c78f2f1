use Rattle.std.proofs.Common.{◌<◌, ◌≤◌, ◌+◌, length, ap, sym, subst, ◌∙◌, List, ℕ, arith}
use Rattle.std.proofs.lemmas.List.{map_push}
use Rattle.std.proofs.lemmas.Result.{err_from_is_err_and}
use Rattle.mk_lemmas.proofs.Texts.{texts}
use Rattle.mk_infer.specs.Steps.{Fails}
use Rattle.mk_infer.specs.Goals.{goal_of}
use Rattle.mk_infer_select.proofs.GoalLists.{goals_more, goals_fail, goals_end}
use Rattle.mk_infer_select.proofs.goals.goals_from.Goals as goal

pub loop-i-preserved : goal.loop-i-preserved
loop-i-preserved c =
    let lt : c.loop-i.i < length c.args.goals.now = omega arith in
    let word = c.as_str.ensures ∙ c.index-goals-i.is in
    rw (c.in_ok-push.ensures.items, map_push)
    (goals_more (texts c.loop-i.names.items) c.args.goals.now c.loop-i.i c.index-goals-i.result _ _ (ap (goal_of (c.loop-i.i + 1)) (sym word) ∙ c.in_ok-goal_of.ensures) c.loop-i.invariant lt)

pub returns-in_err-goal_of : goal.returns-in_err-goal_of
returns-in_err-goal_of c =
    let lt : c.loop-i.i < length c.args.goals.now = omega arith in
    let word = c.as_str.ensures ∙ c.index-goals-i.is in
    let p = err_from_is_err_and c.from_residual.result c.from_residual.ensures.1 in
    rw (p.1, p.2)
    (goals_fail (texts c.loop-i.names.items) c.args.goals.now c.loop-i.i c.index-goals-i.result _ _ (subst (λ (w : List ℕ). Fails c.in_err-goal_of.field-0.0 (goal_of (c.loop-i.i + 1) w)) word c.in_err-goal_of.ensures) c.loop-i.invariant lt)

pub returns : goal.returns
returns c =
    let le : length c.args.goals.now ≤ c.loop-i.i = omega arith in
    goals_end (texts c.loop-i.names.items) c.args.goals.now c.loop-i.i _ c.loop-i.invariant le
