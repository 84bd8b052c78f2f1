use Rattle.std.proofs.Common.{◌≡◌, ◌<◌, ◌≤◌, length, map, List, ℕ, String, string_bytes, arith, sym, ap, subst, ◌∙◌, Ok, Err, false, Some}
use Rattle.std.proofs.lemmas.Result.{err_from_is_err_and}
use Rattle.std.specs.Prelude.{◌-◌}
use Rattle.std.specs.Cow.{cow_slice_items}
use Rattle.std.specs.Option.{option_map}
use Rattle.std.specs.declared.alloc.Global.{Global}
use Rattle.mk_lines.specs.Comments.{uncomment}
use Rattle.mk_lines.specs.Views.{line_view}
use Rattle.mk_macros.specs.Table.{Macro}
use Rattle.mk_read.specs.declared.fault.Place.{Place}
use Rattle.mk_read_parse.specs.declared.kinds.Kind as code
use Rattle.mk_read.specs.Files.{IfFits}
use Rattle.mk_read.specs.Following.{Follows, below}
use Rattle.mk_read.specs.Reading.{files, plain_line, with_text}
use Rattle.mk_read.specs.State.{State}
use Rattle.mk_read.specs.Steps.{Gives, Fails, of_kind, seen}
use Rattle.mk_read.specs.Kinds.{kind_of}
use Rattle.mk_read_parse.specs.KindViews.{assignment_view, include_view, kind_view, rule_view}
use Rattle.mk_read_parse.specs.Views.{behind_commands, found_after, include_names, place_at, read_below, text_more, text_of}
use Rattle.mk_read_parse.proofs.ItemLoops.{line_done, line_failed, lines_done, file_done, file_failed, files_done}
use Rattle.mk_read_parse.proofs.LineSteps.{lines_fail, lines_read, command_read, kind_fails, kind_read, assignment_read, rule_read, include_fails, include_read, file_full, file_unread, file_found, file_missing, found_fails, found_read}
use Rattle.mk_read_parse.proofs.Stepping.{gives_left, own_left}
use Rattle.mk_read_parse.proofs.including.+read.Goals as goal

pub read_lines-returns-in_err-read_line-clause-follows : goal.read_lines-returns-in_err-read_line-clause-follows
read_lines-returns-in_err-read_line-clause-follows g t c =
    let lt : c.loop-line.line-index < length c.args.lines.now = omega arith in
    let p = err_from_is_err_and c.from_residual.result c.from_residual.ensures.1 in
    rw (p.1, p.2) (line_failed line_view c.args.source.now.levels (text_of c.args.source.now) c.args.lines.now
    c.args.state.now (g.F.Files.fits c.loop-line.files) (g.F.Files.fits c.read_line.new.files)
    c.loop-line.line-index _ _ c.loop-line.state c.in_err-read_line.field-0.0 c.in_err-read_line.ensures.keeps
    c.line-item.is lt c.loop-line.invariant.2 c.in_err-read_line.ensures.follows)

pub read_lines-loop-line-preserved : goal.read_lines-loop-line-preserved
read_lines-loop-line-preserved g t c =
    let lt : c.loop-line.line-index < length c.args.lines.now = omega arith in (
      λ told fits. c.loop-line.invariant.0 told (c.in_ok-read_line.ensures.keeps told fits),
      c.in_ok-read_line.ensures.noted ∙ c.loop-line.invariant.1,
      line_done line_view c.args.source.now.levels (text_of c.args.source.now) c.args.lines.now
          c.args.state.now (g.F.Files.fits c.loop-line.files) (g.F.Files.fits c.read_line.new.files)
          c.loop-line.line-index _ _ c.loop-line.state c.read_line.new.state c.in_ok-read_line.ensures.keeps
          c.line-item.is lt c.loop-line.invariant.2 c.in_ok-read_line.ensures.follows,
    )

pub read_lines-returns-clause-follows : goal.read_lines-returns-clause-follows
read_lines-returns-clause-follows g t c =
    let le : length c.args.lines.now ≤ c.loop-line.line-index = omega arith in
    lines_done line_view c.args.source.now.levels (text_of c.args.source.now) c.args.lines.now c.args.state.now (g.F.Files.fits c.loop-line.files) c.loop-line.line-index c.loop-line.state le c.loop-line.invariant.2

pub read_files-returns-in_err-read_file-clause-follows : goal.read_files-returns-in_err-read_file-clause-follows
read_files-returns-in_err-read_file-clause-follows g t c =
    let lt : c.loop-name.name-index < length c.args.names.now = omega arith in
    let p = err_from_is_err_and c.from_residual.result c.from_residual.ensures.1 in
    rw (p.1, p.2) (file_failed string_bytes c.args.include.now.levels (place_at c.args.include.now.location.now) c.args.include.now.optional
    c.args.names.now c.args.state.now (g.F.Files.fits c.loop-name.files) (g.F.Files.fits c.read_file.new.files)
    c.loop-name.name-index _ _ c.loop-name.state c.in_err-read_file.field-0.0 c.in_err-read_file.ensures.keeps
    (c.deref.ensures ∙ ap string_bytes c.name-item.is) lt c.loop-name.invariant.2
    c.in_err-read_file.ensures.follows)

pub read_files-loop-name-preserved : goal.read_files-loop-name-preserved
read_files-loop-name-preserved g t c =
    let lt : c.loop-name.name-index < length c.args.names.now = omega arith in (
      λ told fits. c.loop-name.invariant.0 told (c.in_ok-read_file.ensures.keeps told fits),
      c.in_ok-read_file.ensures.noted ∙ c.loop-name.invariant.1,
      file_done string_bytes c.args.include.now.levels (place_at c.args.include.now.location.now) c.args.include.now.optional c.args.names.now
          c.args.state.now (g.F.Files.fits c.loop-name.files) (g.F.Files.fits c.read_file.new.files)
          c.loop-name.name-index _ _ c.loop-name.state c.read_file.new.state c.in_ok-read_file.ensures.keeps
          (c.deref.ensures ∙ ap string_bytes c.name-item.is) lt c.loop-name.invariant.2
          c.in_ok-read_file.ensures.follows,
    )

pub read_files-returns-clause-follows : goal.read_files-returns-clause-follows
read_files-returns-clause-follows g t c =
    let le : length c.args.names.now ≤ c.loop-name.name-index = omega arith in
    files_done string_bytes c.args.include.now.levels (place_at c.args.include.now.location.now) c.args.include.now.optional c.args.names.now c.args.state.now (g.F.Files.fits c.loop-name.files) c.loop-name.name-index c.loop-name.state le c.loop-name.invariant.2

pub read_text-returns-in_err-lines-clause-follows : goal.read_text-returns-in_err-lines-clause-follows
read_text-returns-in_err-lines-clause-follows g t c =
    let p = err_from_is_err_and c.from_residual.result c.from_residual.ensures.1 in
    rw (p.1, p.2) (lines_fail c.args.source.now.levels (text_of c.args.source.now) c.args.text.now c.args.state.now (g.F.Files.fits c.args.files.now) c.in_err-lines.field-0.0 c.in_err-lines.ensures.exact c.in_err-lines.ensures.own)

pub read_text-returns-clause-follows : goal.read_text-returns-clause-follows
read_text-returns-clause-follows g t c =
    lines_read c.args.source.now.levels (text_of c.args.source.now) c.args.text.now c.args.state.now
    (g.F.Files.fits c.read_lines.new.files) _ (seen (λ done. c.read_lines.new.state) c.read_lines.result)
    (c.in_ok-lines.ensures.exact ∙ ap (λ items. Ok (map line_view items)) (sym c.deref.ensures.value))
    c.read_lines.ensures.follows

pub read_line-returns-then-line-clause-follows : goal.read_line-returns-then-line-clause-follows
read_line-returns-then-line-clause-follows g t c =
    let place : Place = record { file = c.args.source.now.file.now; line = c.args.line.now.first } in
    command_read c.args.source.now.levels (text_of c.args.source.now) c.args.state.now (line_view c.args.line.now) (g.F.Files.fits c.args.files.now) (seen (λ done. c.read_command.new.state) c.read_command.result) c.if-line.true
    (subst (λ (text : List ℕ). Gives (λ (s : State). s) (seen (λ done. c.read_command.new.state)
    c.read_command.result) (behind_commands place text c.args.state.now)) c.deref.ensures.value
    (gives_left (λ done. c.read_command.new.state) c.read_command.result _ c.read_command.ensures.exact))
    (own_left (λ done. c.read_command.new.state) c.read_command.result c.read_command.ensures.own)

pub read_line-returns-in_err-kind-clause-follows : goal.read_line-returns-in_err-kind-clause-follows
read_line-returns-in_err-kind-clause-follows g t c =
    let place : Place = record { file = c.args.source.now.file.now; line = c.args.line.now.first } in
    let same : c.deref-3.result.now ≡ uncomment (cow_slice_items c.args.line.now.text) = c.deref-3.ensures.value ∙ (c.in_ok-text.ensures.exact ∙ ap uncomment c.deref-2.ensures.value) in
    let p = err_from_is_err_and c.from_residual-in_err-kind.result c.from_residual-in_err-kind.ensures.1 in
    rw (p.1, p.2) (kind_fails c.args.source.now.levels (text_of c.args.source.now) c.args.state.now (line_view c.args.line.now) (g.F.Files.fits c.args.files.now) c.in_err-kind.field-0.0 c.if-line.false
    (subst (λ (text : List ℕ). Fails c.in_err-kind.field-0.0 (of_kind place (kind_of text))) same c.in_err-kind.ensures.exact) c.in_err-kind.ensures.own)

pub read_line-returns-clause-follows : goal.read_line-returns-clause-follows
read_line-returns-clause-follows g t c =
    let place : Place = record { file = c.args.source.now.file.now; line = c.args.line.now.first } in
    let same : c.deref-3.result.now ≡ uncomment (cow_slice_items c.args.line.now.text) = c.deref-3.ensures.value ∙ (c.in_ok-text.ensures.exact ∙ ap uncomment c.deref-2.ensures.value) in
    kind_read c.args.source.now.levels (text_of c.args.source.now) c.args.state.now
    (line_view c.args.line.now) (g.F.Files.fits c.read_kind.new.files) (kind_view c.in_ok-kind.kind)
    (seen (λ done. c.read_kind.new.state) c.read_kind.result) c.if-line.false
    (ap (λ text. of_kind place (kind_of text)) (sym same) ∙ c.in_ok-kind.ensures.exact)
    c.read_kind.ensures.follows

pub read_kind-returns-in-Include-clause-follows : goal.read_kind-returns-in-Include-clause-follows
read_kind-returns-in-Include-clause-follows g t c =
    subst (λ (k : code.Kind). IfFits (g.F.Files.fits c.read_include.new.files)
    (λ told. Follows told (λ reader. plain_line reader (below c.args.source.now.levels reader)
    c.args.source.now.default (place_at c.args.location.now) c.args.state.now (kind_view k)) c.args.state.now
    (seen (λ done. c.read_include.new.state) c.read_include.result))) (sym c.in-Include.is)
    c.read_include.ensures.follows

pub read_kind-returns-in-Assignment-clause-follows : goal.read_kind-returns-in-Assignment-clause-follows
read_kind-returns-in-Assignment-clause-follows g t c =
    subst (λ (k : code.Kind). IfFits (g.F.Files.fits c.args.files.now)
    (λ told. Follows told (λ reader. plain_line reader (below c.args.source.now.levels reader)
    c.args.source.now.default (place_at c.args.location.now) c.args.state.now (kind_view k)) c.args.state.now
    (seen (λ done. c.assign.new.self) c.assign.result))) (sym c.in-Assignment.is)
    (assignment_read c.args.source.now.levels c.args.source.now.default (place_at c.args.location.now)
    c.args.state.now (g.F.Files.fits c.args.files.now) (assignment_view c.in-Assignment.line)
    (seen (λ done. c.assign.new.self) c.assign.result) (gives_left (λ done. c.assign.new.self)
    c.assign.result _ c.assign.ensures.exact) (own_left (λ done. c.assign.new.self) c.assign.result
    c.assign.ensures.own))

pub read_kind-returns-in-Rule-clause-follows : goal.read_kind-returns-in-Rule-clause-follows
read_kind-returns-in-Rule-clause-follows g t c =
    subst (λ (k : code.Kind). IfFits (g.F.Files.fits c.args.files.now)
    (λ told. Follows told (λ reader. plain_line reader (below c.args.source.now.levels reader)
    c.args.source.now.default (place_at c.args.location.now) c.args.state.now (kind_view k)) c.args.state.now
    (seen (λ done. c.add_rule.new.self) c.add_rule.result))) (sym c.in-Rule.is)
    (rule_read c.args.source.now.levels c.args.source.now.default (place_at c.args.location.now) c.args.state.now
    (g.F.Files.fits c.args.files.now) (rule_view c.in-Rule.line)
    (seen (λ done. c.add_rule.new.self) c.add_rule.result)
    (gives_left (λ done. c.add_rule.new.self) c.add_rule.result _ c.add_rule.ensures.exact)
    (own_left (λ done. c.add_rule.new.self) c.add_rule.result c.add_rule.ensures.own))

pub read_include-returns-in_err-names-clause-follows : goal.read_include-returns-in_err-names-clause-follows
read_include-returns-in_err-names-clause-follows g t c =
    let table : c.state.inside.macros ≡ c.args.state.now.table = ap (λ (s : State). s.table) c.state.view_is in
    let p = err_from_is_err_and c.from_residual.result c.from_residual.ensures.1 in
    rw (p.1, p.2) (include_fails (place_at c.args.location.now) c.args.state.now (include_view c.args.line) c.args.source.now.levels (g.F.Files.fits c.args.files.now) c.in_err-names.field-0.0
    (subst (λ (t : List Macro). Fails c.in_err-names.field-0.0 (include_names c.args.source.now.levels (place_at c.args.location.now) t c.args.line.names.now)) table c.in_err-names.ensures.exact) c.in_err-names.ensures.own)

pub read_include-returns-clause-follows : goal.read_include-returns-clause-follows
read_include-returns-clause-follows g t c =
    let table : c.state.inside.macros ≡ c.args.state.now.table = ap (λ (s : State). s.table) c.state.view_is in
    include_read (place_at c.args.location.now) c.args.state.now (include_view c.args.line) c.args.source.now.levels (g.F.Files.fits c.read_files.new.files) (map string_bytes c.deref.result.now) (seen (λ done. c.read_files.new.state) c.read_files.result)
    (ap (λ (t : List Macro). include_names c.args.source.now.levels (place_at c.args.location.now) t c.args.line.names.now) (sym table) ∙ (c.in_ok-names.ensures.exact ∙ ap (λ (items : List (String Global)). Ok (map string_bytes items)) (sym c.deref.ensures.value)))
    (subst (λ (s : State). IfFits (g.F.Files.fits c.read_files.new.files)
    (λ told. Follows told (λ reader. files reader (read_below (c.args.source.now.levels - 1) reader)
    (place_at c.args.location.now) c.args.line.optional (map string_bytes c.deref.result.now) s) s
    (seen (λ done. c.read_files.new.state) c.read_files.result))) c.in_ok-own.ensures
    c.read_files.ensures.follows)

pub read_file-returns-then-is_full-clause-follows : goal.read_file-returns-then-is_full-clause-follows
read_file-returns-then-is_full-clause-follows g t c =
    file_full c.args.include.now.levels (place_at c.args.include.now.location.now) c.args.include.now.optional c.args.state.now c.args.name.now (g.F.Files.fits c.args.files.now) c.too_many.result (sym c.if-is_full.ensures) c.too_many.ensures.exact c.too_many.ensures.own

pub read_file-returns-in_err-text-clause-follows : goal.read_file-returns-in_err-text-clause-follows
read_file-returns-in_err-text-clause-follows g t c =
    let p = err_from_is_err_and c.from_residual.result c.from_residual.ensures.1 in
    rw (p.1, p.2) (file_unread c.args.include.now.levels (place_at c.args.include.now.location.now) c.args.include.now.optional c.args.state.now c.args.name.now (g.F.Files.fits c.text_at.new.files) c.in_err-text.field-0.0 (sym c.if-is_full.ensures) c.in_err-text.ensures.fault)

pub read_file-returns-in_err-text-clause-noted : goal.read_file-returns-in_err-text-clause-noted
read_file-returns-in_err-text-clause-noted g t c =
    let p = err_from_is_err_and c.from_residual.result c.from_residual.ensures.1 in
    rw (p.1, p.2) c.in_err-text.ensures.noted

pub read_file-returns-in-Some-clause-follows : goal.read_file-returns-in-Some-clause-follows
read_file-returns-in-Some-clause-follows g t c =
    file_found c.args.include.now.levels (place_at c.args.include.now.location.now) c.args.include.now.optional c.args.state.now c.args.name.now
    (g.F.Files.fits c.text_at.new.files) (g.F.Files.fits c.read_found.new.files) c.deref.result.now
    (seen (λ done. c.read_found.new.state) c.read_found.result) (sym c.if-is_full.ensures)
    c.read_found.ensures.keeps
    (λ told e.
    (ap (λ text. Some text) c.deref.ensures.value ∙ ap (option_map (λ text. text.items))
    (sym c.in-Some.is)) ∙ c.in_ok-text.ensures.text told e)
    c.read_found.ensures.follows

pub read_file-returns-in-None-clause-follows : goal.read_file-returns-in-None-clause-follows
read_file-returns-in-None-clause-follows g t c =
    file_missing c.args.include.now.levels (place_at c.args.include.now.location.now) c.args.include.now.optional c.args.state.now c.args.name.now (g.F.Files.fits c.text_at.new.files) (seen (λ done. c.pass_over.new.state) c.pass_over.result) (sym c.if-is_full.ensures)
    (λ told e. ap (option_map (λ text. text.items))
    (sym c.in-None.is) ∙ c.in_ok-text.ensures.text told e)
    (gives_left (λ done. c.pass_over.new.state) c.pass_over.result _ c.pass_over.ensures.exact)
    (own_left (λ done. c.pass_over.new.state) c.pass_over.result c.pass_over.ensures.own)

pub read_found-returns-clause-follows : goal.read_found-returns-clause-follows
read_found-returns-clause-follows g t c =
    let at_state = subst (λ (s : State). IfFits (g.F.Files.fits c.read_text.new.files)
    (λ told. Follows told (λ reader. with_text reader (below c.args.include.now.levels reader)
    (record { file = c.in_ok-file.file; default = false }) c.args.text.now s) s
    (Ok c.read_text.new.state))) c.in_ok-note_text.ensures c.in_ok-read_text.ensures.follows in
    let went = subst (λ (name : List ℕ). IfFits (g.F.Files.fits c.read_text.new.files)
    (λ told. Follows told (λ reader. with_text reader (below c.args.include.now.levels reader)
    (record { file = name; default = false }) c.args.text.now
    (text_more c.args.state.now c.args.name.now)) (text_more c.args.state.now c.args.name.now)
    (Ok c.read_text.new.state))) c.in_ok-file.ensures at_state in
    subst (λ (s : State). IfFits (g.F.Files.fits c.read_text.new.files)
    (λ told. Follows told (λ reader. found_after (read_below c.args.include.now.levels reader) c.args.name.now
    c.args.text.now (text_more c.args.state.now c.args.name.now))
    (text_more c.args.state.now c.args.name.now) (Ok s))) (sym c.in_ok-own.ensures)
    (found_read c.args.include.now.levels c.args.name.now c.args.text.now (text_more c.args.state.now c.args.name.now) (g.F.Files.fits c.read_text.new.files) c.read_text.new.state went)

pub read_found-returns-in_err-read_text-clause-follows : goal.read_found-returns-in_err-read_text-clause-follows
read_found-returns-in_err-read_text-clause-follows g t c =
    let at_state = subst (λ (s : State). IfFits (g.F.Files.fits c.read_text.new.files)
    (λ told. Follows told (λ reader. with_text reader (below c.args.include.now.levels reader)
    (record { file = c.in_ok-file.file; default = false }) c.args.text.now s) s
    (Err c.in_err-read_text.field-0.0))) c.in_ok-note_text.ensures c.in_err-read_text.ensures.follows in
    let went = subst (λ (name : List ℕ). IfFits (g.F.Files.fits c.read_text.new.files)
    (λ told. Follows told (λ reader. with_text reader (below c.args.include.now.levels reader)
    (record { file = name; default = false }) c.args.text.now
    (text_more c.args.state.now c.args.name.now)) (text_more c.args.state.now c.args.name.now)
    (Err c.in_err-read_text.field-0.0))) c.in_ok-file.ensures at_state in
    let p = err_from_is_err_and c.from_residual-in_err-read_text.result c.from_residual-in_err-read_text.ensures.1 in
    rw (p.1, p.2) (found_fails c.args.include.now.levels c.args.name.now c.args.text.now (text_more c.args.state.now c.args.name.now) (g.F.Files.fits c.read_text.new.files) c.in_err-read_text.field-0.0 went)
