use Rattle.std.proofs.Common.{◌∙◌, List, true, false, sym, ap}
use Rattle.std.specs.Prelude.{find}
use Rattle.mk_read.specs.Needs.{commands_in}
use Rattle.mk_read.specs.State.{RuleRead}
use Rattle.mk_infer.specs.Table.{counts_for}
use Rattle.mk_infer.proofs.RuleNeeds.{by_lines}
use Rattle.mk_infer.proofs.name_rules.NameRules.commands.Goals as goal

pub returns : goal.returns
returns c = λ rules name is.
    c.commands_at.ensures ∙ (ap (λ (found : List RuleRead). commands_in (find (counts_for true) found) (find (counts_for false) found)) (c.self.view_is ∙ is) ∙ sym (by_lines rules name))
