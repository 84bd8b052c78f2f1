use Rattle.std.proofs.Common.{◌≤◌, ◌<◌, length, arith, map, string_bytes, Ok, sym, ap, ◌∙◌}
use Rattle.std.proofs.lemmas.List.{map_push}
use Rattle.std.proofs.lemmas.Result.{err_from_is_err_and}
use Rattle.mk_lines.specs.Words.{bytes_at}
use Rattle.mk_read.specs.declared.fault.Place.{Place}
use Rattle.mk_read_parse.proofs.NameLists.{names_more, names_fail, names_end}
use Rattle.mk_read_parse.proofs.names.names_of.Goals as goal

pub loop-span-preserved : goal.loop-span-preserved
loop-span-preserved c =
    let place : Place = record { file = c.args.file.now; line = c.args.line } in
    let spans = c.deref-span-items.result.now in
    let lt : c.loop-span.span-index < length spans = omega arith in
    rw (c.in_ok-push.ensures.items, map_push) (names_more (bytes_at c.args.text.now) place _ spans c.loop-span.span-index _ _ _ (c.in_ok-name.ensures.exact ∙ ap (λ name. Ok name) (sym c.in_ok-from_str.ensures.ok)) c.loop-span.invariant lt)

pub returns-in_err-name-clause-exact : goal.returns-in_err-name-clause-exact
returns-in_err-name-clause-exact c =
    let place : Place = record { file = c.args.file.now; line = c.args.line } in
    let spans = c.deref-span-items.result.now in
    let lt : c.loop-span.span-index < length spans = omega arith in
    let p = err_from_is_err_and c.from_residual-in_err-name.result c.from_residual-in_err-name.ensures.1 in
    rw (p.1, p.2) (names_fail (bytes_at c.args.text.now) place (map string_bytes c.loop-span.names.items) spans c.loop-span.span-index _ _ _ c.in_err-name.ensures.exact c.loop-span.invariant lt)

pub returns-clause-exact : goal.returns-clause-exact
returns-clause-exact c =
    let place : Place = record { file = c.args.file.now; line = c.args.line } in
    let spans = c.deref-span-items.result.now in
    let le : length spans ≤ c.loop-span.span-index = omega arith in
    names_end (bytes_at c.args.text.now) place (map string_bytes c.loop-span.names.items) spans c.loop-span.span-index _ c.loop-span.invariant le
