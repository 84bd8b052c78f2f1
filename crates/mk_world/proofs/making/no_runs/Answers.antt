use Rattle.std.proofs.Common.{◌≡◌, ◌++◌, ◌∷◌, [], arith, ap, sym, ◌∙◌, replicate, ℕ}
use Rattle.mk_world.specs.State.{RunState, no_run}
use Rattle.mk_world.proofs.Makes.{replicate_push}
use Rattle.mk_world.proofs.making.no_runs.Goals as goal

pub loop-preserved : goal.loop-preserved
loop-preserved c = c.in_ok-push.ensures.items ∙ (ap (λ rs. rs ++ c.none.result ∷ []) c.loop.invariant ∙ (ap (λ (r : RunState). replicate c.loop.counter no_run ++ r ∷ []) c.none.ensures ∙ sym (replicate_push c.loop.counter no_run)))

pub returns : goal.returns
returns c =
    let all : c.loop.counter ≡ c.args.many = omega arith in
    c.loop.invariant ∙ ap (λ (n : ℕ). replicate n no_run) all
