use Rattle.std.proofs.Common.{◌≡◌, cond, Ok, Err, sym, ap, ◌∙◌, inr}
use Rattle.mk_lines.specs.References.{first_outside}
use Rattle.mk_read.specs.declared.fault.KindFault.TheVariants.{NotALine}
use Rattle.mk_read.specs.Kinds.{Rule, is_end_of_words, words_and_command, with_targets}
use Rattle.mk_read_parse.specs.KindViews.{rule_view}
use Rattle.mk_read_parse.proofs.FirstBytes.{first_end}
use Rattle.mk_read_parse.proofs.kinds.rule_line.Goals as goal

pub returns-then-is_empty : goal.returns-then-is_empty
returns-then-is_empty c =
    let targets = c.args.targets.now in
    let rest = c.args.rest.now in
    let line = rule_view c.in_ok-line.line in
    let found : first_outside is_end_of_words rest ≡ c.in_ok-at.at = sym (first_end rest) ∙ sym c.in_ok-at.ensures.exact in
    let parts : words_and_command targets rest (first_outside is_end_of_words rest) ≡ Ok line = ap (words_and_command targets rest) found ∙ c.in_ok-line.ensures in
    inr (ap with_targets parts ∙ ap (λ b. cond b (Err NotALine) (Ok (Rule line))) (sym c.if-is_empty.ensures))

pub returns : goal.returns
returns c =
    let targets = c.args.targets.now in
    let rest = c.args.rest.now in
    let line = rule_view c.in_ok-line.line in
    let found : first_outside is_end_of_words rest ≡ c.in_ok-at.at = sym (first_end rest) ∙ sym c.in_ok-at.ensures.exact in
    let parts : words_and_command targets rest (first_outside is_end_of_words rest) ≡ Ok line = ap (words_and_command targets rest) found ∙ c.in_ok-line.ensures in
    ap with_targets parts ∙ ap (λ b. cond b (Err NotALine) (Ok (Rule line))) (sym c.if-is_empty.ensures)
