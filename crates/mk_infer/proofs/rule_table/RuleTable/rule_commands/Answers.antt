use Rattle.std.proofs.Common.{◌∙◌, List, true, false, sym, ap}
use Rattle.std.specs.Prelude.{find}
use Rattle.mk_read.specs.Needs.{commands_in}
use Rattle.mk_read.specs.State.{RuleRead}
use Rattle.mk_infer.specs.Table.{counts_for, lines_at}
use Rattle.mk_infer.proofs.RuleNeeds.{by_lines}
use Rattle.mk_infer.proofs.rule_table.RuleTable.rule_commands.Goals as goal

pub returns : goal.returns
returns c =
    let lines = ap (λ (rules : List RuleRead). lines_at rules c.places_of.result.now) c.rules.ensures.exact ∙ c.places_of.ensures in
    c.commands_at.ensures ∙ (ap (λ (found : List RuleRead). commands_in (find (counts_for true) found) (find (counts_for false) found)) lines ∙ sym (by_lines c.args.self.now.rules c.args.name.now))
