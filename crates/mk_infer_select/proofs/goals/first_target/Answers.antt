use Rattle.std.proofs.Common.{◌≡◌, ◌<◌, ◌∙◌, map, ap, sym, length, arith}
use Rattle.std.specs.Prelude.{find}
use Rattle.std.specs.String.{string_bytes}
use Rattle.mk_read.specs.State.{RuleRead}
use Rattle.mk_infer.specs.Goals.{is_plain_target}
use Rattle.mk_infer_select.proofs.OwnTargets.{target_here, target_later}
use Rattle.mk_infer_select.proofs.goals.first_target.Goals as goal

pub returns-in-Some : goal.returns-in-Some
returns-in-Some c =
    let lt : c.loop-rule.rule-index < length c.args.rules.now = omega arith in
    let p = is_plain_target c.args.table.now.suffixes in
    let targets : map string_bytes c.deref.result.now ≡ c.rule-item.result.targets = ap (map string_bytes) c.deref.ensures.value ∙ ap (λ (r : RuleRead). r.targets) c.rule.view_is in
    let own = sym (ap (λ (r : RuleRead). r.default) c.rule.view_is) ∙ c.if-rule.false in
    target_here p c.args.rules.now c.loop-rule.rule-index c.rule-item.result c.rule-item.is own lt c.in-Some.target.now _ (c.in-Some.ensures ∙ ap (find p) targets) c.loop-rule.invariant

pub loop-rule-preserved : goal.loop-rule-preserved
loop-rule-preserved c =
    let lt : c.loop-rule.rule-index < length c.args.rules.now = omega arith in
    let p = is_plain_target c.args.table.now.suffixes in
    let targets : map string_bytes c.deref.result.now ≡ c.rule-item.result.targets = ap (map string_bytes) c.deref.ensures.value ∙ ap (λ (r : RuleRead). r.targets) c.rule.view_is in
    let own = sym (ap (λ (r : RuleRead). r.default) c.rule.view_is) ∙ c.if-rule.false in
    target_later p c.args.rules.now c.loop-rule.rule-index c.rule-item.result c.rule-item.is own lt _ (c.in_default.ensures ∙ ap (find p) targets) c.loop-rule.invariant
