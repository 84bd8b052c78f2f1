use Rattle.std.proofs.Common.{◌≡◌, ◌⊎◌, ◌∙◌, Ok, Err, map, sym, subst}
use Rattle.mk_subject.specs.Subject.{Subject}
use Rattle.mk_build.specs.Setting as build
use Rattle.mk_infer.specs.Selection.{Selects}
use Rattle.mk_infer.specs.There.{Exists}
use Rattle.mk_read.specs.Reading.{Makefile}
use Rattle.mk_core.specs.Judging.{AnswersTold, subject_over}
use Rattle.mk_core_text.specs.declared.fault.Fault.TheVariants.{Memory}
use Rattle.std.proofs.lemmas.Result.{err_from_is_err_and}
use Rattle.mk_subject.specs.NodeRow.{IsFaultOf}
use Rattle.mk_core.proofs.Builds.{as_goals, same_subject, told_fails, told_well}
use Rattle.mk_core.proofs.judging.judge_graph.Goals as goal

pub new-requires-clause-selected : goal.new-requires-clause-selected
new-requires-clause-selected g c =
    let ready = c.args.ready.now in
    let graph = c.args.graph.now in
    let goals = map (build.name graph) graph.goals in
    let s = as_goals c.selected_goals.ensures ready graph c.requires.selected in
    let there = subst (λ (e : Exists). Selects ready.makefile e goals (Ok graph)) (sym c.recorded.ensures) s in
    subst (λ (m : Makefile). Selects m c.recorded.result goals (Ok graph)) (sym c.table.ensures) there

pub returns-clause-answer : goal.returns-clause-answer
returns-clause-answer g c =
    let ready = c.args.ready.now in
    let graph = c.args.graph.now in
    let judges = g.J.Judge.judges c.args.judge.now in
    let found = c.judge-answer.result in
    let same = same_subject _ ready.makefile _ _ graph _ ready.setting c.table.ensures c.recorded.ensures c.setting.ensures in
    let is = c.in_ok-subject.ensures.value ∙ same in
    λ told fits. subst (λ (x : Subject). (found ≡ Err Memory) ⊎ AnswersTold (judges told) x found) is
    (told_well (judges told) c.in_ok-subject.subject c.graph-graph.ensures.graph
    c.in_ok-subject.ensures.subject found (c.judge-answer.ensures.answer told fits))

pub returns-in_err-subject-clause-answer : goal.returns-in_err-subject-clause-answer
returns-in_err-subject-clause-answer g c =
    let ready = c.args.ready.now in
    let graph = c.args.graph.now in
    let fault = c.in_err-subject.field-0.0 in
    let same = same_subject _ ready.makefile _ _ graph _ ready.setting c.table.ensures c.recorded.ensures c.setting.ensures in
    let is = subst (λ (x : Subject). IsFaultOf x fault) same c.in_err-subject.ensures.fault in
    let p = err_from_is_err_and c.from_residual.result c.from_residual.ensures.1 in
    rw (p.1, p.2) (λ told fits. told_fails (g.J.Judge.judges c.args.judge.now told) (subject_over ready graph) fault is)
