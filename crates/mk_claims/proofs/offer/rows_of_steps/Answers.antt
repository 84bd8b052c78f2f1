use Rattle.std.proofs.Common.{◌∙◌, ◌<◌, ◌++◌, ◌∷◌, [], ℕ, List, get_or, length, ap, sym, arith}
use Rattle.mk_claims.specs.Offers.{needed_in, step_view}
use Rattle.mk_claims.specs.declared.offer.Step.{Step}
use Rattle.mk_claims.proofs.OfferRows.{needed_more}
use Rattle.mk_claims.proofs.offer.rows_of_steps.Goals as goal

pub loop-step-preserved : goal.loop-step-preserved
loop-step-preserved c =
    let steps = c.args.steps.now in
    let i = c.loop-step.step-index in
    let below : i < length steps = omega arith in
    let many = c.loop-step.invariant.many in
    let first : Step = record { target = 0; prerequisite = 0 } in
    record {
      many = c.in_ok-push_needed.ensures.many ∙ many;
      rows = λ n low.
          c.in_ok-push_needed.ensures.added n (omega (arith, low, many))
          ∙ (ap (λ (l : List ℕ). l ++ needed_in n (step_view (get_or steps i first) ∷ [])) (c.loop-step.invariant.rows n low)
          ∙ sym (needed_more n steps i first below));
    }
