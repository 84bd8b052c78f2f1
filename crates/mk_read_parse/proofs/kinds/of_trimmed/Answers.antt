use Rattle.std.proofs.Common.{◌≡◌, ◌-◌, cond, length, Ok, None, Some, sym, ap, subst, ◌∙◌, inr, take, drop}
use Rattle.std.proofs.lemmas.List.{take_rest}
use Rattle.mk_lines.proofs.Rules.{first_decisive}
use Rattle.mk_lines.specs.References.{first_outside}
use Rattle.mk_lines.specs.RuleLines.{is_decisive}
use Rattle.mk_read.specs.Kinds.{Comment, include_line, by_word, by_byte, by_parts, of_trimmed}
use Rattle.mk_read_parse.specs.KindViews.{GivesKind, kind_view}
use Rattle.mk_read_parse.proofs.kinds.of_trimmed.Goals as goal

pub returns-in-Some : goal.returns-in-Some
returns-in-Some c =
    let line = c.args.line.now in
    ap (λ b. cond b (Ok Comment) (by_word line (include_line line))) (sym c.if-is_empty.ensures) ∙ ap (by_word line) (sym c.in-Some.ensures)

pub returns-in_default-2 : goal.returns-in_default-2
returns-in_default-2 c =
    let line = c.args.line.now in
    let found : first_outside is_decisive line ≡ None = sym (first_decisive line) ∙ (sym c.in_ok-at.ensures.exact ∙ c.in_default-2.is) in
    inr (ap (λ b. cond b (Ok Comment) (by_word line (include_line line))) (sym c.if-is_empty.ensures) ∙ (ap (by_word line) (sym c.in_default.ensures) ∙ ap (by_byte line) found))

pub returns : goal.returns
returns c =
    let line = c.args.line.now in
    let at = c.in-Some-2.at in
    let found : first_outside is_decisive line ≡ Some at = sym (first_decisive line) ∙ (sym c.in_ok-at.ensures.exact ∙ c.in-Some-2.is) in
    let whole : of_trimmed line ≡ by_parts (take at line) (take (length line - at) (drop at line)) =
    ap (λ b. cond b (Ok Comment) (by_word line (include_line line))) (sym c.if-is_empty.ensures)
    ∙ (ap (by_word line) (sym c.in_default.ensures) ∙ (ap (by_byte line) found ∙ ap (by_parts (take at line)) (sym (take_rest line at)))) in
    subst (λ kind. GivesKind kind_view c.by_parts.result kind) (sym whole) c.by_parts.ensures
