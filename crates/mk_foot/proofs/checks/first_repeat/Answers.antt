use Rattle.std.proofs.Common.{◌<◌, ◌≤◌, List, ℕ, length, arith, ap, Option, Ok, ◌∙◌}
use Rattle.mk_foot.specs.Parts.{RawRecord}
use Rattle.mk_foot.proofs.Targets.{next_target, target_again, no_target_left}
use Rattle.mk_foot.proofs.checks.first_repeat.Goals as goal

pub returns-then-not-branch : goal.returns-then-not-branch
returns-then-not-branch c =
    let lt : c.loop-entry.entry-index < length c.args.entries.now = omega arith in
    ap (λ (o : Option (List ℕ)). Ok o) (target_again c.loop-entry.seen c.args.entries.now
    c.loop-entry.entry-index c.entry-item.result c.as_str-target.result.now _ _ c.entry-item.is
    (c.as_str-target.ensures.value ∙ ap (λ (e : RawRecord). e.target) c.entry.view_is)
    c.in_ok-insert.ensures.new c.if-not-branch.true c.loop-entry.invariant lt)

pub loop-entry-preserved : goal.loop-entry-preserved
loop-entry-preserved c =
    let lt : c.loop-entry.entry-index < length c.args.entries.now = omega arith in
    next_target c.loop-entry.seen c.insert.new.self c.args.entries.now c.loop-entry.entry-index
    c.entry-item.result c.as_str-target.result.now _ _ c.entry-item.is
    (c.as_str-target.ensures.value ∙ ap (λ (e : RawRecord). e.target) c.entry.view_is)
    c.in_ok-insert.ensures.new c.if-not-branch.false c.in_ok-insert.ensures.ok c.loop-entry.invariant lt

pub returns : goal.returns
returns c =
    let le : length c.args.entries.now ≤ c.loop-entry.entry-index = omega arith in
    ap (λ (o : Option (List ℕ)). Ok o) (no_target_left c.loop-entry.seen c.args.entries.now c.loop-entry.entry-index _ c.loop-entry.invariant le)
