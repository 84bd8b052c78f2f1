use Rattle.std.proofs.Common.{◌≡◌, ◌∷◌, ◌++◌, [], None, Some, refl, arith}
use Rattle.json.specs.Json.{after_end_array}
use Rattle.mk_json.proofs.Turns.{refused_items}
use Rattle.mk_json.specs.Tokens.{next_value}
use Rattle.mk_foot.specs.Steps.{each}
use Rattle.mk_foot.proofs.fields.read_list.Goals as goal

pub items-init : goal.items-init
unfolding each
items-init c = ([], c.items_are_read_in_order.ensures.begins c.args.depth c.args.reader.now, rw c.new.ensures.items refl)

pub returns-in_err-text : goal.returns-in_err-text
returns-in_err-text c =
    let l = c.items in
    let going : (after_end_array l.reader ≡ None) × (c.take_end_array.new.self ≡ l.reader) = grind arith in
    let none : next_value c.args.depth l.reader ≡ None = rw (← going.1) c.in_err-text.ensures in
    refused_items _ _ _ _ _ c.from_residual.ensures.0 (c.items_are_read_in_order.ensures.fails c.args.depth c.args.reader.now l.invariant.0 l.reader l.invariant.1 going.0 none)

pub items-preserved : goal.items-preserved
items-preserved c =
    let l = c.items in
    let going : (after_end_array l.reader ≡ None) × (c.take_end_array.new.self ≡ l.reader) = grind arith in
    let found = c.in_ok-text.ensures in
    let passed : next_value c.args.depth l.reader ≡ Some (found.0, c.read_text.new.reader) = rw (← going.1) found.1 in (
      l.invariant.0 ++ found.0 ∷ [],
      c.items_are_read_in_order.ensures.goes_on c.args.depth c.args.reader.now l.invariant.0 l.reader c.read_text.new.reader found.0 l.invariant.1 going.0 passed,
      c.with_text-texts.ensures c.args.key l.invariant.0 found.0 l.invariant.2 found.2,
    )
