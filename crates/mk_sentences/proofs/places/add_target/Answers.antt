use Rattle.std.proofs.Common.{sym, ◌∙◌}
use Rattle.mk_sentences.proofs.RuleTables.{added, kept}
use Rattle.mk_sentences.proofs.places.add_target.Goals as goal

pub returns-then-contains_key : goal.returns-then-contains_key
returns-then-contains_key c = kept c.args.table.now.entries c.args.target.now c.args.rule.now (sym c.contains_key.ensures ∙ c.if-contains_key.true)

pub returns : goal.returns
returns c = added c.args.table.now.entries c.insert.new.self.entries c.args.target c.args.rule c.in_ok-insert.ensures.entries (sym c.contains_key.ensures ∙ c.if-contains_key.false)
