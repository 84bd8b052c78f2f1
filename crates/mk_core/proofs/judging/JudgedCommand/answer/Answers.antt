use Rattle.std.proofs.Common.{Ok, Err, subst}
use Rattle.std.proofs.lemmas.Result.{err_from_is_err_and}
use Rattle.mk_infer.specs.There.{Exists}
use Rattle.mk_core.specs.Views.{Selected}
use Rattle.mk_core.proofs.Builds.{no_graph, over_graph}
use Rattle.mk_core.proofs.judging.JudgedCommand.answer.Goals as goal

pub returns-in_err-graph-clause-answer : goal.returns-in_err-graph-clause-answer
returns-in_err-graph-clause-answer g c =
    let p = err_from_is_err_and c.from_residual.result c.from_residual.ensures.1 in
    let ready = c.args.ready.now in
    let fault = c.in_err-graph.field-0.0 in
    let selected = subst (λ (e : Exists). Selected e ready (Err fault)) c.recorded.ensures c.in_err-graph.ensures in
    rw (p.1, p.2) (λ told fits. no_graph (g.J.Judge.judges c.args.self.now.judge told) ready fault selected)

pub returns-clause-answer : goal.returns-clause-answer
returns-clause-answer g c =
    let ready = c.args.ready.now in
    let graph = c.in_ok-graph.graph in
    let selected = subst (λ (e : Exists). Selected e ready (Ok graph)) c.recorded.ensures c.in_ok-graph.ensures in
    λ told fits. over_graph (g.J.Judge.judges c.args.self.now.judge told) ready graph selected
    c.judge_graph-answer.result (c.judge_graph-answer.ensures.answer told fits)
