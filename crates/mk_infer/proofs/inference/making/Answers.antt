use Rattle.std.proofs.Common.{◌∙◌, List, Option, Some, None, sym, ap}
use Rattle.std.specs.Option.{option_map}
use Rattle.mk_read.specs.State.{Command, RuleRead}
use Rattle.mk_infer.specs.Table.{lines_of}
use Rattle.mk_infer.specs.Targets.{rules_for}
use Rattle.mk_infer.specs.Choosing.{Chosen, ResolvedRule}
use Rattle.mk_infer.proofs.ResolvedRules.{by_rule, by_itself}
use Rattle.mk_infer.proofs.inference.making.Goals as goal

pub returns-in-Some : goal.returns-in-Some
returns-in-Some c =
    ap (λ (x : Chosen). let r : ResolvedRule = record { choice = Some x.name; commands = x.commands; rules = c.rules_of-rules.result } in r) c.chosen.view_is
    ∙ (ap (λ (rules : List RuleRead). let r : ResolvedRule = record { choice = Some c.in-Some.chosen.name; commands = c.in-Some.chosen.commands; rules = rules } in r) c.rules_of-rules.ensures
    ∙ by_rule c.args.lookup.now.table.now c.args.lookup.now.exists.now c.args.name.now c.in-Some.chosen (sym c.in-Some.is ∙ c.in_ok-chosen.ensures))

pub returns-in-None : goal.returns-in-None
returns-in-None c =
    ap (λ (rules : List RuleRead). let r : ResolvedRule = record { choice = None; commands = option_map (λ commands. commands.now) c.commands-own.result; rules = rules } in r) c.rules_of-rules.ensures
    ∙ (ap (λ (commands : Option (List Command)). let r : ResolvedRule =
    record {
      choice = None;
      commands = commands;
      rules = lines_of
          (rules_for c.args.lookup.now.table.now c.args.name.now) c.args.name.now;
    } in r)
    (c.commands-own.ensures (rules_for c.args.lookup.now.table.now c.args.name.now) c.args.name.now
    c.rules_of-rules.ensures)
    ∙ by_itself c.args.lookup.now.table.now c.args.lookup.now.exists.now c.args.name.now (sym c.in-None.is ∙ c.in_ok-chosen.ensures))
