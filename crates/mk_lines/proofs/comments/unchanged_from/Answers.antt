use Rattle.std.proofs.Common.{◌≡◌, true, length, sym, ap, ◌∙◌}
use Rattle.mk_lines.specs.RuleLines.{is_rule_line}
use Rattle.mk_lines.specs.Comments.{or_length}
use Rattle.mk_lines.proofs.Rules.{first_semicolon}
use Rattle.mk_lines.proofs.Uncommenting.{or_length_is, unwrapped_within}
use Rattle.mk_lines.proofs.comments.unchanged_from.Goals as goal

pub returns-clause-exact : goal.returns-clause-exact
returns-clause-exact c =
    let rule : is_rule_line c.args.text.now ≡ true = sym (c.in_ok-is_rule_line.ensures) ∙ c.if-not-branch.false in
    rw rule (c.unwrap_or.ensures ∙ (or_length_is c.args.text.now c.in_ok-first_outside.field-0 ∙ ap (or_length c.args.text.now) (c.in_ok-first_outside.ensures.exact ∙ first_semicolon c.args.text.now)))

pub returns-clause-within : goal.returns-clause-within
returns-clause-within c =
    rw (c.unwrap_or.ensures) (unwrapped_within (length c.args.text.now) c.in_ok-first_outside.field-0 c.in_ok-first_outside.ensures.within)
