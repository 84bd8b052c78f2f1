use Rattle.std.proofs.Common.{◌≡◌, ◌<◌, ◌∙◌, ◌++◌, ◌∷◌, ◌||◌, [], List, ℕ, cond, ap, sym, length, get_or, arith}
use Rattle.std.specs.Str.{bytes_eq}
use Rattle.std.specs.String.{string_bytes}
use Rattle.mk_infer.specs.Table.{has_target, places_at}
use Rattle.mk_infer.proofs.TableLemmas.{seen_more, noted_same, noted_more, target_same, target_more}
use Rattle.mk_infer.proofs.rule_table.add_targets.Goals as goal

pub loop-target-preserved : goal.loop-target-preserved
loop-target-preserved c =
    let lt : c.loop-target.target-index < length c.args.targets.now = omega arith in
    let is : c.deref-in-loop-target.result.now ≡ string_bytes (get_or c.args.targets.now c.loop-target.target-index c.target-item-in-loop-target.result) = c.deref-in-loop-target.ensures ∙ ap string_bytes c.target-item-in-loop-target.is in
    let same : c.deref-in-loop-target-2.result.now ≡ c.deref-in-loop-target.result.now = c.deref-in-loop-target-2.ensures ∙ sym c.deref-in-loop-target.ensures in
    record {
      seen = λ name. seen_more string_bytes c.loop-target.seen c.insert.new.self c.args.targets.now c.loop-target.target-index c.target-item-in-loop-target.result c.deref-in-loop-target.result.now name c.in_ok-insert.ensures.ok is (c.loop-target.invariant.seen name) lt;
      known = λ name. target_more c.loop-target.seen c.insert.new.self c.deref-in-loop-target.result.now name (has_target c.loop-target.lines name) _ (has_target c.args.lines.now name) c.in_ok-insert.ensures.ok (c.loop-target.invariant.known name)
          (c.in_ok-add_place.ensures.targets name ∙ ap (λ (x : List ℕ). has_target c.loop-target.lines name || bytes_eq name x) same);
      noted = λ name. noted_more c.loop-target.seen c.insert.new.self c.deref-in-loop-target.result.now name _ _ (places_at c.args.lines.now name) c.args.place _ c.in_ok-insert.ensures.new c.if-not-branch.false c.in_ok-insert.ensures.ok (c.loop-target.invariant.noted name)
          (c.in_ok-add_place.ensures.places name ∙ ap (λ (x : List ℕ). cond (bytes_eq name x) (places_at c.loop-target.lines name ++ c.args.place ∷ []) (places_at c.loop-target.lines name)) same);
    }

pub loop-target-preserved-then-not-branch : goal.loop-target-preserved-then-not-branch
loop-target-preserved-then-not-branch c =
    let lt : c.loop-target.target-index < length c.args.targets.now = omega arith in
    let is : c.deref-in-loop-target.result.now ≡ string_bytes (get_or c.args.targets.now c.loop-target.target-index c.target-item-in-loop-target.result) = c.deref-in-loop-target.ensures ∙ ap string_bytes c.target-item-in-loop-target.is in
    record {
      seen = λ name. seen_more string_bytes c.loop-target.seen c.insert.new.self c.args.targets.now c.loop-target.target-index c.target-item-in-loop-target.result c.deref-in-loop-target.result.now name c.in_ok-insert.ensures.ok is (c.loop-target.invariant.seen name) lt;
      known = λ name. target_same c.loop-target.seen c.insert.new.self c.deref-in-loop-target.result.now name (has_target c.loop-target.lines name) (has_target c.args.lines.now name) _ c.in_ok-insert.ensures.new c.if-not-branch.true c.in_ok-insert.ensures.ok (c.loop-target.invariant.known name);
      noted = λ name. noted_same c.loop-target.seen c.insert.new.self c.deref-in-loop-target.result.now name _ (places_at c.args.lines.now name) c.args.place _ c.in_ok-insert.ensures.new c.if-not-branch.true c.in_ok-insert.ensures.ok (c.loop-target.invariant.noted name);
    }
