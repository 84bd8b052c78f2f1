use Rattle.std.proofs.Common.{◌≡◌, List, ℕ, Ok, refl, subst}
use Rattle.std.proofs.lemmas.Result.{err_from_is_err_and}
use Rattle.mk_infer.specs.Goals.{goal_names}
use Rattle.mk_infer.specs.Steps as inferring
use Rattle.mk_core.proofs.Answering.{goals_fail, goals_found}
use Rattle.mk_core.proofs.Faults.{plain_infer, notes_infer}
use Rattle.mk_core.proofs.ready.ready_over.Goals as goal

pub returns-in_err-goals-clause-ready : goal.returns-in_err-goals-clause-ready
returns-in_err-goals-clause-ready g c =
    let p = err_from_is_err_and c.from_residual.result c.from_residual.ensures.1 in
    let fault = c.in_err-goals.field-0.0 in
    let fails = subst (λ (words : List (List ℕ)). inferring.Fails fault (goal_names c.args.table.now words)) c.as_slice.ensures c.in_err-goals.ensures in
    rw (p.1, p.2) (λ told fits. goals_fail told c.args.request.now c.args.table.now fault fails)

pub returns-in_err-goals-clause-memory : goal.returns-in_err-goals-clause-memory
returns-in_err-goals-clause-memory g c =
    let p = err_from_is_err_and c.from_residual.result c.from_residual.ensures.1 in
    rw (p.1, p.2) (plain_infer c.in_err-goals.field-0.0)

pub returns-in_err-goals-clause-noted : goal.returns-in_err-goals-clause-noted
returns-in_err-goals-clause-noted g c =
    let p = err_from_is_err_and c.from_residual.result c.from_residual.ensures.1 in
    rw (p.1, p.2) (notes_infer (g.F.Files.failed c.args.files.now) (g.F.Files.failed c.args.files.now) c.in_err-goals.field-0.0 refl)

pub returns-clause-ready : goal.returns-clause-ready
returns-clause-ready g c =
    let request = c.args.request.now in
    let table = c.args.table.now in
    let goals = c.in_ok-goals.goals in
    let named : goal_names table request.goals ≡ Ok goals = subst (λ (words : List (List ℕ)). goal_names table words ≡ Ok goals) c.as_slice.ensures c.in_ok-goals.ensures in
    λ told fits. goals_found told request table goals named c.ready_with.result (c.ready_with.ensures.ready told fits)
