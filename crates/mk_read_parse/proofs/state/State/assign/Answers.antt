use Rattle.std.proofs.Common.{◌≡◌, List, Result, Ok, sym, ap, subst, ◌∙◌}
use Rattle.std.proofs.lemmas.Result.{err_from_is_err_and}
use Rattle.mk_macros.specs.Table.{Macro}
use Rattle.mk_read.specs.declared.fault.ReadFault.{ReadFault}
use Rattle.mk_read_parse.specs.KindViews.{assignment_view}
use Rattle.mk_read.specs.State.{State}
use Rattle.mk_read.specs.Steps.{Gives, Fails}
use Rattle.mk_read_parse.specs.Views.{assigned, expanded_text, place_at}
use Rattle.mk_read_parse.proofs.Assignments.{by_text}
use Rattle.mk_read_parse.proofs.Stepping.{then_ok, then_fails}
use Rattle.mk_read_parse.proofs.state.State.assign.Goals as goal

pub returns-clause-exact : goal.returns-clause-exact
returns-clause-exact c =
    let place = place_at c.args.location.now in
    let line = assignment_view c.args.line.now in
    let table : c.self.inside.macros ≡ c.args.self.now.table = ap (λ (s : State). s.table) c.self.view_is in
    let is : expanded_text place c.args.self.now.table line.name ≡ Ok c.deref.result.now = ap (λ t. expanded_text place t line.name) (sym table) ∙ (c.in_ok-name.ensures.exact ∙ ap (λ text. Ok text) (sym c.deref.ensures.value)) in
    subst (λ (d : Result State ReadFault). Gives (λ done. c.assign_to.new.self) c.assign_to.result d) (sym (by_text place c.args.self.now line ∙ then_ok (expanded_text place c.args.self.now.table line.name) (assigned place c.args.self.now line) c.deref.result.now is)) c.assign_to.ensures.exact

pub returns-in_err-name-clause-exact : goal.returns-in_err-name-clause-exact
returns-in_err-name-clause-exact c =
    let place = place_at c.args.location.now in
    let line = assignment_view c.args.line.now in
    let fault = c.in_err-name.field-0.0 in
    let table : c.self.inside.macros ≡ c.args.self.now.table = ap (λ (s : State). s.table) c.self.view_is in
    let fails : Fails fault (expanded_text place c.args.self.now.table line.name) = subst (λ (t : List Macro). Fails fault (expanded_text place t line.name)) table c.in_err-name.ensures.exact in
    let p = err_from_is_err_and c.from_residual.result c.from_residual.ensures.1 in
    rw (p.1, p.2, by_text place c.args.self.now line) (then_fails (expanded_text place c.args.self.now.table line.name) (assigned place c.args.self.now line) fault fails)
