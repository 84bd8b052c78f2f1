use Rattle.std.proofs.Common.{◌≡◌, ℕ, ◌+◌, ◌<◌, ◌≤◌, ◌∙◌, ◌||◌, List, Some, None, cond, length, drop, get_or, map, sym, ap, arith}
use Rattle.std.specs.Option.{option_or}
use Rattle.std.specs.Str.{bytes_eq}
use Rattle.std.specs.String.{string_bytes}
use Rattle.std.proofs.lemmas.List.{drop_more, drop_all}
use Rattle.mk_read.specs.Names.{has_name}
use Rattle.mk_sentences.specs.Places.{rule_at}
use Rattle.mk_sentences.proofs.FirstRules.{one_more, or_none}
use Rattle.mk_sentences.proofs.places.add_targets.Goals as goal

pub loop-target-preserved : goal.loop-target-preserved
loop-target-preserved c = λ name.
    let targets = c.args.targets.now in
    let i = c.loop-target.target-index in
    let lt : i < length targets = omega arith in
    let rest = has_name (map string_bytes (drop (i + 1) targets)) name in
    let old = rule_at c.loop-target.table name in
    let rule = c.args.rule.now in
    let text : c.as_str.result.now ≡ string_bytes (get_or targets i c.target-item.result) = c.as_str.ensures.value ∙ ap string_bytes c.target-item.is in
    let here : has_name (map string_bytes (drop i targets)) name ≡ (bytes_eq name c.as_str.result.now || rest) =
    ap (λ l. has_name (map string_bytes l) name) (drop_more targets i c.target-item.result lt) ∙ ap (λ (t : List ℕ). bytes_eq name t || rest) (sym text) in
    one_more old (rule_at c.add_target.new.table name) rule (bytes_eq name c.as_str.result.now) rest (c.in_ok-add_target.ensures name)
    ∙ (ap (λ b. option_or old (cond b (Some rule) None)) (sym here) ∙ c.loop-target.invariant name)

pub returns : goal.returns
returns c = λ name.
    let targets = c.args.targets.now in
    let i = c.loop-target.target-index in
    let le : length targets ≤ i = omega arith in
    let old = rule_at c.loop-target.table name in
    sym (or_none old) ∙ (sym (ap (λ l. option_or old (cond (has_name (map string_bytes l) name) (Some c.args.rule.now) None)) (drop_all i targets le)) ∙ c.loop-target.invariant name)
