use Rattle.std.proofs.Common.{◌≡◌, ◌+◌, ◌-◌, ◌<◌, ◌≤◌, ◌∷◌, [], length, List, ℕ, Result, Err, refl, sym, ap, subst, ◌∙◌, arith}
use Rattle.std.proofs.Common.{length-append}
use Rattle.std.proofs.lemmas.Result.{err_from_is_err_and}
use Rattle.mk_macros.specs.declared.fault.MacroFault.{MacroFault}
use Rattle.mk_macros.specs.declared.appending.Used.{Used}
use Rattle.mk_macros.specs.Forms.{Form, dollar_form}
use Rattle.mk_macros.specs.Views.{form_view}
use Rattle.mk_macros.specs.Appending.{Appends, below, names_in, scope_view}
use Rattle.mk_macros.specs.Expansion.{expanded}
use Rattle.mk_macros.proofs.FormLists.{dollar_le}
use Rattle.mk_macros.proofs.Continuing.{continues_first, cut_none, cut_some, last_run, after_run, finished, after_form, failed_run, failed_form}
use Rattle.mk_macros.proofs.appending.+append.Goals as goal

pub append_text-forms-init : goal.append_text-forms-init
append_text-forms-init t c = continues_first c.args.level.now.deep (scope_view c.args.level.now.scope.now) (names_in c.args.level.now.going.now) c.args.references c.args.into.now.items c.args.text.now

pub append_text-returns-in_err-append_run : goal.append_text-returns-in_err-append_run
append_text-returns-in_err-append_run t c =
    let scope = scope_view c.args.level.now.scope.now in
    let going = names_in c.args.level.now.going.now in
    let whole = expanded c.args.level.now.deep scope going c.args.references c.args.text.now in
    let p = err_from_is_err_and c.from_residual.result c.from_residual.ensures.1 in
    let e : c.from_residual.result ≡ Err c.in_err-append_run.field-0.0 = p.1 ∙ ap (λ (f : MacroFault). Err f) p.2 in
    let room : 1048576 - (c.len.result - c.len-start.result) ≡ 1048576 - (length c.forms.into.items - length c.args.into.now.items) = omega (arith, c.len.ensures, c.len-start.ensures, c.forms.into.ok.0, c.args.into.now.ok.0) in
    subst (λ (r : Result Used MacroFault). Appends c.args.into.now.items c.append_run.new.into.items r whole) (sym e)
    (failed_run scope (below c.args.level.now.deep scope) going c.args.into.now.items c.forms.into.items c.forms.used c.forms.rest.now whole c.forms.invariant
    c.cut_at_dollar.result.1 c.cut_at_dollar.result.0.now (1048576 - (c.len.result - c.len-start.result)) c.in_err-append_run.field-0.0 c.cut_at_dollar.ensures room c.in_err-append_run.ensures)

pub append_text-returns-in_default : goal.append_text-returns-in_default
append_text-returns-in_default t c =
    let scope = scope_view c.args.level.now.scope.now in
    let going = names_in c.args.level.now.going.now in
    let whole = expanded c.args.level.now.deep scope going c.args.references c.args.text.now in
    let cut = cut_none c.forms.rest.now c.cut_at_dollar.result.0.now c.cut_at_dollar.result.1 c.in_default.is c.cut_at_dollar.ensures in
    let run = c.in_ok-append_run.ensures in
    let room : length c.cut_at_dollar.result.0.now ≤ 1048576 - (length c.forms.into.items - length c.args.into.now.items) = omega (arith, run.0, c.len.ensures, c.len-start.ensures, c.forms.into.ok.0, c.args.into.now.ok.0) in
    finished scope (below c.args.level.now.deep scope) going c.args.into.now.items c.append_run.new.into.items c.forms.used [] whole
    (after_run scope (below c.args.level.now.deep scope) going c.args.into.now.items c.forms.into.items c.forms.used c.forms.rest.now whole c.forms.invariant
    c.cut_at_dollar.result.0.now [] c.append_run.new.into.items (last_run c.forms.rest.now c.cut_at_dollar.result.0.now cut.0) cut.1 room run.1) refl

pub append_text-returns-in_err-given : goal.append_text-returns-in_err-given
append_text-returns-in_err-given t c =
    let scope = scope_view c.args.level.now.scope.now in
    let going = names_in c.args.level.now.going.now in
    let whole = expanded c.args.level.now.deep scope going c.args.references c.args.text.now in
    let p = err_from_is_err_and c.from_residual-in_err-given.result c.from_residual-in_err-given.ensures.1 in
    let e : c.from_residual-in_err-given.result ≡ Err c.in_err-given.field-0.0 = p.1 ∙ ap (λ (f : MacroFault). Err f) p.2 in
    let cut = cut_some c.forms.rest.now c.cut_at_dollar.result.0.now c.cut_at_dollar.result.1 c.in-Some.behind c.in-Some.is c.cut_at_dollar.ensures in
    let run = c.in_ok-append_run.ensures in
    let room : length c.cut_at_dollar.result.0.now ≤ 1048576 - (length c.forms.into.items - length c.args.into.now.items) = omega (arith, run.0, c.len.ensures, c.len-start.ensures, c.forms.into.ok.0, c.args.into.now.ok.0) in
    let so = after_run scope (below c.args.level.now.deep scope) going c.args.into.now.items c.forms.into.items c.forms.used c.forms.rest.now whole c.forms.invariant
    c.cut_at_dollar.result.0.now (36 ∷ c.in-Some.behind.now) c.append_run.new.into.items cut.0 cut.1 room run.1 in
    let left : 1048576 - (c.len-in-forms.result - c.len-start.result) ≡ 1048576 - (length c.append_run.new.into.items - length c.args.into.now.items) = omega (arith, c.len-in-forms.ensures, c.len-start.ensures, c.append_run.new.into.ok.0, c.args.into.now.ok.0) in
    let form : form_view c.in_ok-form.form ≡ (dollar_form c.in-Some.behind.now).0 = ap (λ (q : Form × List ℕ). q.0) c.in_ok-form.ensures in
    subst (λ (r : Result Used MacroFault). Appends c.args.into.now.items c.append_form.new.into.items r whole) (sym e)
    (failed_form scope (below c.args.level.now.deep scope) going c.args.into.now.items c.append_run.new.into.items c.forms.used (36 ∷ c.in-Some.behind.now) whole so
    c.in-Some.behind.now (1048576 - (c.len-in-forms.result - c.len-start.result)) c.in_err-given.field-0.0 refl left
    (rw form at c.in_err-given.ensures))

pub append_text-forms-smaller : goal.append_text-forms-smaller
append_text-forms-smaller t c =
    let cut = cut_some c.forms.rest.now c.cut_at_dollar.result.0.now c.cut_at_dollar.result.1 c.in-Some.behind c.in-Some.is c.cut_at_dollar.ensures in
    let left : c.in_ok-form.left.now ≡ (dollar_form c.in-Some.behind.now).1 = ap (λ (q : Form × List ℕ). q.1) c.in_ok-form.ensures in
    let whole : length c.forms.rest.now ≡ length c.cut_at_dollar.result.0.now + (1 + length c.in-Some.behind.now) = ap length cut.0 ∙ omega (arith, length-append c.cut_at_dollar.result.0.now (36 ∷ c.in-Some.behind.now)) in
    let short : length c.in_ok-form.left.now < length c.forms.rest.now = omega (arith, ap length left, dollar_le c.in-Some.behind.now) in
    short

pub append_text-forms-preserved : goal.append_text-forms-preserved
append_text-forms-preserved t c =
    let scope = scope_view c.args.level.now.scope.now in
    let going = names_in c.args.level.now.going.now in
    let whole = expanded c.args.level.now.deep scope going c.args.references c.args.text.now in
    let cut = cut_some c.forms.rest.now c.cut_at_dollar.result.0.now c.cut_at_dollar.result.1 c.in-Some.behind c.in-Some.is c.cut_at_dollar.ensures in
    let run = c.in_ok-append_run.ensures in
    let room : length c.cut_at_dollar.result.0.now ≤ 1048576 - (length c.forms.into.items - length c.args.into.now.items) = omega (arith, run.0, c.len.ensures, c.len-start.ensures, c.forms.into.ok.0, c.args.into.now.ok.0) in
    let so = after_run scope (below c.args.level.now.deep scope) going c.args.into.now.items c.forms.into.items c.forms.used c.forms.rest.now whole c.forms.invariant
    c.cut_at_dollar.result.0.now (36 ∷ c.in-Some.behind.now) c.append_run.new.into.items cut.0 cut.1 room run.1 in
    let space : 1048576 - (c.len-in-forms.result - c.len-start.result) ≡ 1048576 - (length c.append_run.new.into.items - length c.args.into.now.items) = omega (arith, c.len-in-forms.ensures, c.len-start.ensures, c.append_run.new.into.ok.0, c.args.into.now.ok.0) in
    let form : form_view c.in_ok-form.form ≡ (dollar_form c.in-Some.behind.now).0 = ap (λ (q : Form × List ℕ). q.0) c.in_ok-form.ensures in
    let left : c.in_ok-form.left.now ≡ (dollar_form c.in-Some.behind.now).1 = ap (λ (q : Form × List ℕ). q.1) c.in_ok-form.ensures in
    after_form scope (below c.args.level.now.deep scope) going c.args.into.now.items c.append_run.new.into.items c.forms.used (36 ∷ c.in-Some.behind.now) whole so
    c.in-Some.behind.now c.in_ok-form.left.now c.append_form.new.into.items (1048576 - (c.len-in-forms.result - c.len-start.result)) c.in_ok-given.given refl space
    (rw form at c.in_ok-given.ensures) left
