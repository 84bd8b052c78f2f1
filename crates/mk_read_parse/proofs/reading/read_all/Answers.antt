use Rattle.std.proofs.Common.{◌≡◌, List, ℕ, Some, None, Option, refl, sym, ap, subst, ◌∙◌}
use Rattle.std.specs.Option.{option_copied}
use Rattle.std.proofs.lemmas.Result.{err_from_is_err_and}
use Rattle.mk_macros.specs.Table.{Macro}
use Rattle.mk_read.specs.Files.{IfFits}
use Rattle.mk_read.specs.Following.{Follows}
use Rattle.mk_read.specs.Reading.{from_named, with_operands}
use Rattle.mk_read.specs.State.{State}
use Rattle.mk_read.specs.Steps.{seen, Fails}
use Rattle.mk_read_parse.specs.Views.{IsUnread}
use Rattle.mk_read_parse.proofs.Histories.{notes_none}
use Rattle.mk_read_parse.proofs.OperandLists.{texts_of}
use Rattle.mk_read_parse.proofs.OwnText.{accepted, default_fails, not_refused, operands_fail, state_reads}
use Rattle.mk_read_parse.proofs.reading.read_all.Goals as goal

pub returns-in_err-read_default-clause-follows : goal.returns-in_err-read_default-clause-follows
returns-in_err-read_default-clause-follows g c =
    let p = err_from_is_err_and c.from_residual-in_err-read_default.result c.from_residual-in_err-read_default.ensures.1 in
    rw (p.1, p.2) (default_fails (option_copied c.args.request.now.name) c.args.request.now.defaults (texts_of c.args.request.now.operands.now) c.default_text_says_this.ensures (g.F.Files.fits c.args.files.now) c.args.state.now c.in_err-read_default.field-0.0 c.in_ok-test_name.ensures.exact c.in_err-read_default.ensures.exact c.in_err-read_default.ensures.own)

pub returns-in_err-fix_operands-clause-follows : goal.returns-in_err-fix_operands-clause-follows
returns-in_err-fix_operands-clause-follows g c =
    let table : c.state.inside.macros ≡ c.read_default.new.state.table = ap (λ (s : State). s.table) c.state.view_is in
    let p = err_from_is_err_and c.from_residual-in_err-fix_operands.result c.from_residual-in_err-fix_operands.ensures.1 in
    rw (p.1, p.2) (operands_fail (option_copied c.args.request.now.name) c.args.request.now.defaults (texts_of c.args.request.now.operands.now) c.read_default.new.state c.default_text_says_this.ensures (g.F.Files.fits c.args.files.now) c.args.state.now c.in_err-fix_operands.field-0.0 c.in_ok-test_name.ensures.exact c.in_ok-read_default.ensures.exact
    (subst (λ (t : List Macro). Fails c.in_err-fix_operands.field-0.0 (with_operands 1 (texts_of c.args.request.now.operands.now) t)) table c.in_err-fix_operands.ensures.exact) c.in_err-fix_operands.ensures.own)

pub returns-in_err-fix_operands-clause-noted : goal.returns-in_err-fix_operands-clause-noted
returns-in_err-fix_operands-clause-noted g c =
    let p = err_from_is_err_and c.from_residual-in_err-fix_operands.result c.from_residual-in_err-fix_operands.ensures.1 in
    rw (p.1, p.2) (notes_none (g.F.Files.failed c.args.files.now) (g.F.Files.failed c.args.files.now) c.in_err-fix_operands.field-0.0 refl c.in_err-fix_operands.ensures.own)

pub returns-in-Some-clause-follows : goal.returns-in-Some-clause-follows
returns-in-Some-clause-follows g c =
    let table : c.state.inside.macros ≡ c.read_default.new.state.table = ap (λ (s : State). s.table) c.state.view_is in
    let by_view = subst (λ (s : State). IfFits (g.F.Files.fits c.read_named.new.files)
    (λ told. IsUnread (record s { table = c.fix_operands.new.macros })
    → Follows told (λ reader. from_named reader (record s { table = c.fix_operands.new.macros })
    (Some c.in-Some.name.now)) (record s { table = c.fix_operands.new.macros })
    (seen (λ done. c.read_named.new.state) c.read_named.result))) c.state.view_is
    c.read_named.ensures.follows in
    let by_name = subst (λ (n : Option (List ℕ)). IfFits (g.F.Files.fits c.read_named.new.files)
    (λ told. IsUnread (record c.read_default.new.state { table = c.fix_operands.new.macros })
    → Follows told (λ reader. from_named reader (record c.read_default.new.state
    { table = c.fix_operands.new.macros }) n) (record c.read_default.new.state
    { table = c.fix_operands.new.macros }) (seen (λ done. c.read_named.new.state) c.read_named.result)))
    (sym (ap option_copied c.in-Some.is)) by_view in
    state_reads (option_copied c.args.request.now.name) c.args.request.now.defaults (texts_of c.args.request.now.operands.now)
    c.read_default.new.state c.default_text_says_this.ensures (g.F.Files.fits c.read_named.new.files) c.args.state.now c.fix_operands.new.macros
    (seen (λ done. c.read_named.new.state) c.read_named.result) c.in_ok-test_name.ensures.exact
    c.in_ok-read_default.ensures.exact
    (ap (with_operands 1 (texts_of c.args.request.now.operands.now)) (sym table) ∙ c.in_ok-fix_operands.ensures.exact) by_name

pub returns-in-None-clause-follows : goal.returns-in-None-clause-follows
returns-in-None-clause-follows g c =
    let table : c.state.inside.macros ≡ c.read_default.new.state.table = ap (λ (s : State). s.table) c.state.view_is in
    let by_view = subst (λ (s : State). IfFits (g.F.Files.fits c.read_usual.new.files)
    (λ told. IsUnread (record s { table = c.fix_operands.new.macros })
    → Follows told (λ reader. from_named reader (record s { table = c.fix_operands.new.macros }) None)
    (record s { table = c.fix_operands.new.macros }) (seen (λ done. c.read_usual.new.state)
    c.read_usual.result))) c.state.view_is c.read_usual.ensures.follows in
    let by_name = subst (λ (n : Option (List ℕ)). IfFits (g.F.Files.fits c.read_usual.new.files)
    (λ told. IsUnread (record c.read_default.new.state { table = c.fix_operands.new.macros })
    → Follows told (λ reader. from_named reader (record c.read_default.new.state
    { table = c.fix_operands.new.macros }) n) (record c.read_default.new.state
    { table = c.fix_operands.new.macros }) (seen (λ done. c.read_usual.new.state) c.read_usual.result)))
    (sym (ap option_copied c.in-None.is)) by_view in
    state_reads (option_copied c.args.request.now.name) c.args.request.now.defaults (texts_of c.args.request.now.operands.now)
    c.read_default.new.state c.default_text_says_this.ensures (g.F.Files.fits c.read_usual.new.files) c.args.state.now c.fix_operands.new.macros
    (seen (λ done. c.read_usual.new.state) c.read_usual.result) c.in_ok-test_name.ensures.exact
    c.in_ok-read_default.ensures.exact
    (ap (with_operands 1 (texts_of c.args.request.now.operands.now)) (sym table) ∙ c.in_ok-fix_operands.ensures.exact) by_name

pub returns-in-Some-clause-untouched : goal.returns-in-Some-clause-untouched
returns-in-Some-clause-untouched g c =
    let table : c.state.inside.macros ≡ c.read_default.new.state.table = ap (λ (s : State). s.table) c.state.view_is in
    not_refused (option_copied c.args.request.now.name) c.args.request.now.defaults (texts_of c.args.request.now.operands.now) c.read_default.new.state (c.read_named.new.files ≡ c.args.files.now) c.args.state.now c.fix_operands.new.macros c.in_ok-test_name.ensures.exact c.in_ok-read_default.ensures.exact
    (ap (with_operands 1 (texts_of c.args.request.now.operands.now)) (sym table) ∙ c.in_ok-fix_operands.ensures.exact)

pub returns-in-None-clause-untouched : goal.returns-in-None-clause-untouched
returns-in-None-clause-untouched g c =
    let table : c.state.inside.macros ≡ c.read_default.new.state.table = ap (λ (s : State). s.table) c.state.view_is in
    not_refused (option_copied c.args.request.now.name) c.args.request.now.defaults (texts_of c.args.request.now.operands.now) c.read_default.new.state (c.read_usual.new.files ≡ c.args.files.now) c.args.state.now c.fix_operands.new.macros c.in_ok-test_name.ensures.exact c.in_ok-read_default.ensures.exact
    (ap (with_operands 1 (texts_of c.args.request.now.operands.now)) (sym table) ∙ c.in_ok-fix_operands.ensures.exact)

pub returns-in-Some-clause-accepted : goal.returns-in-Some-clause-accepted
returns-in-Some-clause-accepted g c =
    let table : c.state.inside.macros ≡ c.read_default.new.state.table = ap (λ (s : State). s.table) c.state.view_is in
    accepted (option_copied c.args.request.now.name) c.args.request.now.defaults (texts_of c.args.request.now.operands.now) c.read_default.new.state c.read_named.result c.args.state.now c.fix_operands.new.macros c.in_ok-test_name.ensures.exact c.in_ok-read_default.ensures.exact
    (ap (with_operands 1 (texts_of c.args.request.now.operands.now)) (sym table) ∙ c.in_ok-fix_operands.ensures.exact)

pub returns-in-None-clause-accepted : goal.returns-in-None-clause-accepted
returns-in-None-clause-accepted g c =
    let table : c.state.inside.macros ≡ c.read_default.new.state.table = ap (λ (s : State). s.table) c.state.view_is in
    accepted (option_copied c.args.request.now.name) c.args.request.now.defaults (texts_of c.args.request.now.operands.now) c.read_default.new.state c.read_usual.result c.args.state.now c.fix_operands.new.macros c.in_ok-test_name.ensures.exact c.in_ok-read_default.ensures.exact
    (ap (with_operands 1 (texts_of c.args.request.now.operands.now)) (sym table) ∙ c.in_ok-fix_operands.ensures.exact)
