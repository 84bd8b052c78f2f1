use Rattle.std.proofs.Common.{◌∙◌, sym, ap}
use Rattle.mk_read.specs.Rules.{has_some}
use Rattle.mk_read.specs.State.{RuleRead}
use Rattle.mk_read_parse.proofs.Commanded.{same_commanded, knows_before, seen_there}
use Rattle.mk_read_parse.proofs.commands.behind_rule.Goals as goal

pub invariant_of-result : goal.invariant_of-result
invariant_of-result c = same_commanded c.args.earlier.items c.args.rule c.in_ok-rule.rule _ c.args.known c.in_ok-rule.ensures (ap (λ (r : RuleRead). has_some r.commands) (sym c.rule.view_is) ∙ (seen_there _ c.rule.inside.commands ∙ sym c.if-goes_on.ensures)) c.requires

pub with_commanded-requires-clause-known : goal.with_commanded-requires-clause-known
with_commanded-requires-clause-known c = knows_before c.args.known c.args.earlier.items c.args.rule (ap (λ (r : RuleRead). has_some r.commands) (sym c.rule.view_is) ∙ (seen_there _ c.rule.inside.commands ∙ sym c.if-goes_on.ensures)) c.requires
