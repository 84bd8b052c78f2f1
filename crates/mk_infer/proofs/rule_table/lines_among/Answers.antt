use Rattle.std.proofs.Common.{◌≡◌, ◌∙◌, ◌<◌, ◌≤◌, ◌++◌, ◌∷◌, ◌||◌, [], List, ℕ, ap, map, length, cond, arith}
use Rattle.std.proofs.lemmas.List.{take_all}
use Rattle.std.specs.String.{string_bytes}
use Rattle.mk_read.specs.Names.{has_name}
use Rattle.mk_read.specs.State.{RuleRead}
use Rattle.mk_infer.specs.Table.{has_target, lines_of, places_at, targets_in}
use Rattle.mk_infer.proofs.TableLemmas.{held_more, lines_more}
use Rattle.mk_infer.proofs.rule_table.lines_among.Goals as goal

pub loop-place-preserved : goal.loop-place-preserved
loop-place-preserved c =
    let rules = c.args.rules.now in
    let rule = c.index-rules-place.result in
    let lt : c.loop-place.place < length rules = omega arith in
    let targets : map string_bytes c.deref.result.now ≡ rule.targets = ap (map string_bytes) c.deref.ensures.value ∙ ap (λ (r : RuleRead). r.targets) c.rule.view_is in
    let named = λ (name : List ℕ). ap (λ ts. has_name ts name) targets ∙ ap (λ (r : RuleRead). has_name r.targets name) c.index-rules-place.is in
    record {
      noted = λ name. lines_more rules c.loop-place.place rule name (places_at c.loop-place.lines name) (places_at c.add_targets.new.lines name)
          (c.in_ok-add_targets.ensures.places name ∙ ap (λ b. cond b (places_at c.loop-place.lines name ++ c.loop-place.place ∷ []) (places_at c.loop-place.lines name)) (named name)) (c.loop-place.invariant.noted name) lt;
      held = λ name. held_more rules c.loop-place.place rule name (has_target c.loop-place.lines name) (has_target c.add_targets.new.lines name) (c.in_ok-add_targets.ensures.targets name ∙ ap (λ b. has_target c.loop-place.lines name || b) (named name)) (c.loop-place.invariant.held name) lt;
    }

pub returns-clause-places : goal.returns-clause-places
returns-clause-places c = λ name.
    let rules = c.args.rules.now in
    let le : length rules ≤ c.loop-place.place = omega arith in
    c.loop-place.invariant.noted name ∙ ap (λ (rs : List RuleRead). lines_of rs name) (take_all c.loop-place.place rules le)

pub returns-clause-targets : goal.returns-clause-targets
returns-clause-targets c = λ name.
    let rules = c.args.rules.now in
    let le : length rules ≤ c.loop-place.place = omega arith in
    c.loop-place.invariant.held name ∙ ap (λ (rs : List RuleRead). has_name (targets_in rs) name) (take_all c.loop-place.place rules le)
