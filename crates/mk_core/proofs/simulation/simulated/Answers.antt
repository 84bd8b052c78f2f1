use Rattle.std.proofs.Common.{Ok, Err, refl, subst}
use Rattle.std.proofs.lemmas.Result.{err_from_is_err_and}
use Rattle.mk_foot.specs.Setting.{Setting}
use Rattle.mk_infer.specs.There.{Exists}
use Rattle.mk_core.specs.Views.{RunsTextOver, Selected}
use Rattle.mk_core.proofs.Faults.{plain_infer, notes_infer}
use Rattle.mk_core.proofs.Simulating.{no_graph, over_graph}
use Rattle.mk_core.proofs.simulation.simulated.Goals as goal

pub returns-in_err-graph-clause-answer : goal.returns-in_err-graph-clause-answer
returns-in_err-graph-clause-answer g c =
    let p = err_from_is_err_and c.from_residual.result c.from_residual.ensures.1 in
    let ready = c.args.ready.now in
    let fault = c.in_err-graph.field-0.0 in
    let selected = subst (λ (e : Exists). Selected e ready (Err fault)) c.exists.ensures c.in_err-graph.ensures in
    rw (p.1, p.2) (λ told fits. no_graph told c.args.plan.now ready fault selected)

pub returns-in_err-graph-clause-memory : goal.returns-in_err-graph-clause-memory
returns-in_err-graph-clause-memory g c =
    let p = err_from_is_err_and c.from_residual.result c.from_residual.ensures.1 in
    rw (p.1, p.2) (plain_infer c.in_err-graph.field-0.0)

pub returns-in_err-graph-clause-noted : goal.returns-in_err-graph-clause-noted
returns-in_err-graph-clause-noted g c =
    let p = err_from_is_err_and c.from_residual.result c.from_residual.ensures.1 in
    rw (p.1, p.2) (notes_infer (g.F.Files.failed c.args.files.now) (g.F.Files.failed c.args.files.now) c.in_err-graph.field-0.0 refl)

pub returns-clause-answer : goal.returns-clause-answer
returns-clause-answer g c =
    let plan = c.args.plan.now in
    let ready = c.args.ready.now in
    let graph = c.in_ok-graph.graph in
    let found = c.run_file.result in
    let selected = subst (λ (e : Exists). Selected e ready (Ok graph)) c.exists.ensures c.in_ok-graph.ensures in
    λ told fits. over_graph told plan ready graph selected found
    (subst (λ (s : Setting). RunsTextOver told plan graph s found) c.setting.ensures (c.run_file.ensures.answer told fits))
