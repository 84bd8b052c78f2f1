use Rattle.std.proofs.Common.{ap, ◌∙◌}
use Rattle.mk_lemmas.proofs.Results.{MatchOption-at_some}
use Rattle.mk_world.proofs.Changes.{seen_is}
use Rattle.mk_world.proofs.ending.end.Goals as goal

pub end_seeing-requires-clause-seen : goal.end_seeing-requires-clause-seen
end_seeing-requires-clause-seen c =
    let scene = c.args.scene.now in
    let m = c.args.making.now in
    let t = c.args.number in
    let seen = seen_is scene m t _ _ c.in-Some.seen.items (ap (λ p. p.reads) c.footprint-footprint.ensures.value) (c.looks.ensures ∙ ap (λ r. r.looks) c.run-run.ensures) (MatchOption-at_some _ _ c.in-Some.is c.in_ok-seen.ensures) in
    record { all = seen.0; is = seen.1 }
