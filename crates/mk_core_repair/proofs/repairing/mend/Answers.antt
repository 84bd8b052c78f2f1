use Rattle.std.proofs.Common.{ℕ, List, subst}
use Rattle.std.proofs.lemmas.Result.{IfOk-weaker}
use Rattle.mk_core_repair.specs.Outcome.{too_long}
use Rattle.mk_core_repair.specs.Rounds.{Rounds, max_rounds}
use Rattle.mk_core_repair.specs.Views.{end_outcome}
use Rattle.mk_core_repair.proofs.repairing.mend.Goals as goal

pub returns-clause-answer : goal.returns-clause-answer
returns-clause-answer g c =
    let request = c.args.request.now in
    IfOk-weaker c.rounds.result _ _ (λ end h told fits first.
    let base = c.in_ok-own.ensures.base told fits in
    let names = c.in_ok-own.ensures.names told fits in
    subst (λ (l : List (List ℕ)). Rounds max_rounds l told request first c.args.words too_long (end_outcome first end)) names (h told base first)) c.rounds.ensures.answer
