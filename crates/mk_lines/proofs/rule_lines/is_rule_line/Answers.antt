use Rattle.std.proofs.Common.{◌≡◌, Some, None, refl, sym, ap, ◌∙◌}
use Rattle.std.proofs.lemmas.List.{take_rest}
use Rattle.mk_lines.specs.References.{first_outside}
use Rattle.mk_lines.specs.RuleLines.{is_rule_line, is_decisive, begins_with_rule_colon}
use Rattle.mk_lines.proofs.Rules.{first_decisive}
use Rattle.mk_lines.proofs.rule_lines.is_rule_line.Goals as goal

pub returns-then-is_include : goal.returns-then-is_include
unfolding is_rule_line
returns-then-is_include c = rw (sym c.if-is_include.ensures) refl

pub returns-in_default : goal.returns-in_default
unfolding is_rule_line
returns-in_default c =
    let found : first_outside is_decisive c.args.text.now ≡ None = sym (first_decisive c.args.text.now) ∙ (sym c.in_ok-at.ensures.exact ∙ c.in_default.is) in
    rw (sym c.if-is_include.ensures, found) refl

pub returns : goal.returns
unfolding is_rule_line
returns c =
    let found : first_outside is_decisive c.args.text.now ≡ Some c.in-Some.at = sym (first_decisive c.args.text.now) ∙ (sym c.in_ok-at.ensures.exact ∙ c.in-Some.is) in
    rw (sym c.if-is_include.ensures, found) (c.begins_with_rule_colon.ensures ∙ ap begins_with_rule_colon (take_rest c.args.text.now c.in-Some.at))
