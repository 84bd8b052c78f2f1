use Rattle.std.proofs.Common.{List, sym, subst}
use Rattle.mk_read.specs.State.{RuleRead}
use Rattle.mk_read_parse.specs.Views.{KnowsCommands, owner_view}
use Rattle.mk_read_parse.proofs.Commanded.{knows_behind}
use Rattle.mk_read_parse.proofs.state.RuleLines.owned.Goals as goal

pub invariant_of-result : goal.invariant_of-result
invariant_of-result c =
    knows_behind c.self.inside.commanded c.in_ok-with_last.field-0.items (owner_view c.args.owner)
    (subst (λ (rules : List RuleRead). KnowsCommands c.self.inside.commanded rules) (sym c.in_ok-with_last.ensures) c.self.invariant) c.requires
