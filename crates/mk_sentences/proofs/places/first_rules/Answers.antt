use Rattle.std.proofs.Common.{◌≡◌, ℕ, ◌+◌, ◌<◌, ◌≤◌, ◌∙◌, ◌∷◌, true, false, List, Some, None, cond, length, drop, map, sym, ap, arith}
use Rattle.std.specs.Prelude.{find}
use Rattle.std.specs.Option.{option_or}
use Rattle.std.specs.String.{string_bytes}
use Rattle.std.proofs.lemmas.List.{drop_more, drop_all}
use Rattle.mk_read.specs.Names.{has_name}
use Rattle.mk_read.specs.State.{RuleRead}
use Rattle.mk_sentences.specs.Places.{counts, counts_for, rule_at}
use Rattle.mk_sentences.proofs.FirstRules.{or_none, rule_more, find_counted, find_passed}
use Rattle.mk_sentences.proofs.places.first_rules.Goals as goal

pub loop-rule-preserved : goal.loop-rule-preserved
loop-rule-preserved c = λ name.
    let rules = c.args.rules.now in
    let i = c.loop-rule.rule-index in
    let lt : i < length rules = omega arith in
    let rule = c.rule-item.result in
    let rest = find (counts_for c.args.commanded name) (drop (i + 1) rules) in
    let old = rule_at c.loop-rule.table name in
    let targets : map string_bytes c.deref.result.now ≡ rule.targets = ap (map string_bytes) c.deref.ensures.value ∙ ap (λ (r : RuleRead). r.targets) c.rule.view_is in
    let added = c.in_ok-add_targets.ensures name ∙ ap (λ (ts : List (List ℕ)). option_or old (cond (has_name ts name) (Some rule) None)) targets in
    let counted : counts c.args.commanded rule ≡ true = sym c.counts.ensures ∙ c.if-not-counts.false in
    let here = ap (find (counts_for c.args.commanded name)) (drop_more rules i rule lt ∙ ap (λ (r : RuleRead). r ∷ drop (i + 1) rules) (sym c.rule-item.is)) ∙ find_counted c.args.commanded name rule (drop (i + 1) rules) counted in
    rule_more old (rule_at c.add_targets.new.table name) rest rule (has_name rule.targets name) added ∙ (ap (option_or old) (sym here) ∙ c.loop-rule.invariant name)

pub loop-rule-preserved-then-not-counts : goal.loop-rule-preserved-then-not-counts
loop-rule-preserved-then-not-counts c = λ name.
    let rules = c.args.rules.now in
    let i = c.loop-rule.rule-index in
    let lt : i < length rules = omega arith in
    let rule = c.rule-item.result in
    let old = rule_at c.loop-rule.table name in
    let passed : counts c.args.commanded rule ≡ false = sym c.counts.ensures ∙ c.if-not-counts.true in
    let here = ap (find (counts_for c.args.commanded name)) (drop_more rules i rule lt ∙ ap (λ (r : RuleRead). r ∷ drop (i + 1) rules) (sym c.rule-item.is)) ∙ find_passed c.args.commanded name rule (drop (i + 1) rules) passed in
    ap (option_or old) (sym here) ∙ c.loop-rule.invariant name

pub returns : goal.returns
returns c = λ name.
    let rules = c.args.rules.now in
    let i = c.loop-rule.rule-index in
    let le : length rules ≤ i = omega arith in
    let old = rule_at c.loop-rule.table name in
    sym (or_none old) ∙ (sym (ap (λ l. option_or old (find (counts_for c.args.commanded name) l)) (drop_all i rules le)) ∙ c.loop-rule.invariant name)
