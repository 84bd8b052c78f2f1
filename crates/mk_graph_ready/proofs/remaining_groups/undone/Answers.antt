use Rattle.std.proofs.Common.{ℕ, List, [], ◌∷◌, take, get_or, sym, subst}
use Rattle.std.proofs.lemmas.List.{take_more}
use Rattle.mk_graph.specs.Schedules.{HasAll}
use Rattle.mk_graph_ready.proofs.Lists.{all_joined}
use Rattle.mk_graph_ready.proofs.remaining_groups.undone.Goals as goal

pub loop-past-preserved : goal.loop-past-preserved
loop-past-preserved c =
    let group = c.args.group.now in
    let i = c.loop-past.past in
    subst (λ (l : List ℕ). HasAll c.args.done.now l) (sym (take_more group i 0 c.loop-past-test.true)) (all_joined c.args.done.now (take i group) (get_or group i 0 ∷ []) c.loop-past.invariant (c.has.ensures.0 c.if-not-has.false, tt))
